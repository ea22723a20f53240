-- `where` lines, one after the other, on a map. Assumes nothing.
use Prim.Native.Nat.{ℕ, ◌+◌, ◌-◌, ◌≤◌}
use mathlib.Core.Path.{◌≡◌, refl, sym, ◌∙◌, ap, ap₂, subst}
use mathlib.Core.Bool.{false, false≢true}
use mathlib.Core.List.{List}
use native.Mathlib.Omega.{arith}
use lib.ListN.{length, take, drop}
use lib.Seq.{sets, length-sets}
use Rattle.model.specs.Table.{Table, Arrays, table}
use Rattle.model.specs.Sound.{Formed}
use Rattle.model.specs.Console.{read, command_answer}
use Rattle.model.specs.declared.command.Command.TheVariants.{Where}
use Rattle.std.specs.Prelude.{Option, None, Some, is_some, unwrap_or}
use Rattle.lines.specs.Words.{up_to_feed, AsksFor, AsksForNone, by_asked}
use Rattle.lines.specs.declared.asked.Asked.{Asked}
use Rattle.lines.proofs.Spans.{span_first}
use Rattle.session.specs.Maps.{is_empty, map_of, session, next, shown, is_list}
use Rattle.session.specs.declared.state.State.{State}
use Rattle.print.specs.Numbers.{line_room}
use Rattle.console.specs.Rack.{Rack, held, answer_to, Served, where_answer}
use Rattle.console.proofs.Serving.{shown_short, held_state}
use Rattle.console.proofs.Wheres.{where_next, where_answer_lem, where_lists_none}
use Rattle.buffers.specs.Machine.{lists, row_of, Sane}
use Rattle.buffers.specs.declared.Machine.{Machine}
use Rattle.wheres.specs.Wheres.{Went, on_to, Shows, Places}
use Rattle.wheres.specs.declared.Spot.{Spot}
use Rattle.wheres.proofs.Lines.{went_none, Went_then, line_went}

-- ONE LINE

-- with no list in progress there is no next row
pub none_row : (m : Machine) → lists m ≡ false → row_of m ≡ 0
none_row m e = at m.listing e
  where
    at : (o : Option ℕ) → is_some o ≡ false → unwrap_or o 0 ≡ 0
    at None e = refl
    at (Some q) e = absurd (false≢true (sym e))

module _ (m : Machine) (k : Rack) (t : Table) (s : Shows m k t) where
  module _
      (bytes : List ℕ) (b end : ℕ) (a : AsksFor bytes m.from b end) (put y : ℕ) (out out' : List ℕ)
      (room : put + line_room ≤ length out) (place : y ≡ put + length (shown (where_answer t b)))
      (stored : out' ≡ sets out put (shown (where_answer t b)))
    where
      abbrev l : List ℕ
      l = take (end - m.from) (drop m.from bytes)

      reads : read l ≡ Where b
      reads =
          let n : end - m.from ≡ length (up_to_feed (drop m.from bytes)) = omega (arith, a.ends) in
          ap (λ n. read (take n (drop m.from bytes))) n ∙ ap read (span_first 10 (drop m.from bytes)) ∙ a.reads

      answers : answer_to k l ≡ where_answer t b
      unfolding answer_to
      answers =
          ap (command_answer (session (held k))) reads
          ∙ where_answer_lem (held k) b s.some
          ∙ ap (λ t. where_answer t b) s.map

      served : Served k l put out (record { at = y; list = lists m }) k out'
      served =
          record {
            maps = sym (ap (next (held k)) reads ∙ where_next (held k) b);
            list = s.listing ∙ sym (ap is_list answers ∙ where_lists_none t b);
            place = place ∙ ap (λ a. put + length (shown a)) (sym answers);
            bytes = stored ∙ ap (λ a. sets out put (shown a)) (sym answers);
          }

      where_went : Went m k bytes put out (on_to m (end + 1)) k y out'
      where_went =
          line_went m k bytes end s.listing (omega (arith, a.ends, a.within)) a.ends put put out l
          (record { at = y; list = lists m }) k out' (λ e. omega (arith, a.within)) refl s.sane room served
          (on_to m (end + 1)) refl refl (none_row m s.listing) refl refl

-- LINES

-- an answer that is a bucket
pub asked_for
    : {bytes : List ℕ} {from : ℕ} {r : Option Asked} {a : Asked} → by_asked (AsksFor bytes from) (AsksForNone bytes from) r → r ≡ Some a
    → AsksFor bytes from a.bucket a.end
unfolding by_asked
asked_for {bytes} {from} h e = subst (by_asked (AsksFor bytes from) (AsksForNone bytes from)) e h

shows_on : (m : Machine) (k : Rack) (t : Table) (from : ℕ) → Shows m k t → Shows (on_to m from) k t
shows_on m k t from s =
    record {
      listing = s.listing;
      some = s.some;
      map = s.map;
      sane = record { right = s.sane.right; row = s.sane.row };
    }

pub places_none
    : (t : Table) (bytes : List ℕ) (from put : ℕ) (out : List ℕ) → from ≤ length bytes → put ≤ length out
    → Places t bytes from put out (record { from = from; put = put }) out
places_none t bytes from put out within room =
    record {
      within = within;
      room = room;
      went = λ m k e s.
          subst (λ n. Went m k bytes put out (on_to m n) k put out) e (went_none m k bytes put out s.sane room (omega arith));
    }

pub places_more
    : {t : Table} {bytes : List ℕ} {from put : ℕ} {out : List ℕ} {r : Spot} {out' : List ℕ} → Places t bytes from put out r out'
    → {b end y next : ℕ} {out'' : List ℕ} → AsksFor bytes r.from b end → r.put + line_room ≤ length out'
    → y ≡ r.put + length (shown (where_answer t b)) → out'' ≡ sets out' r.put (shown (where_answer t b)) → next ≡ end + 1
    → Places t bytes from put out (record { from = next; put = y }) out''
places_more {t} {bytes} {from} {put} {out} {r} {out'} p {b} {end} {y} {next} {out''} a room place stored past =
    record {
      within = omega (arith, a.within);
      room =
          omega (
            arith,
            place,
            shown_short (where_answer t b),
            ap length stored,
            length-sets out' r.put (shown (where_answer t b)),
          );
      went = λ m k e s.
          Went_then (p.went m k e s)
          (subst (λ n. Went (on_to m r.from) k bytes r.put out' (on_to m n) k y out'') (sym past)
          (where_went (on_to m r.from) k t (shows_on m k t r.from s) bytes b end a r.put y out' out'' room place stored));
    }

-- THE MAP

-- of a rack that has one, in the arrays `this`
module _ (m : Machine) (k : Rack) (this : Arrays) (sane : Sane m k) (some : is_empty k.state.stage ≡ false) (h : this ≡ (held k).this) where
  some_held : is_empty (held k).state.stage ≡ false
  some_held = ap (λ (st : State). is_empty st.stage) (held_state k) ∙ some

  pub map_formed : Formed k.state.current this
  map_formed =
      subst (λ (st : State). Formed st.current this) (held_state k)
      (subst (Formed (held k).state.current) (sym h) (sane.right.sound some_held).formed)

  pub map_shows : lists m ≡ false → Shows m k (table k.state.current this)
  unfolding map_of
  map_shows none =
      record { listing = none; some = some_held; map = ap₂ table (ap (λ (st : State). st.current) (held_state k)) (sym h); sane = sane }

-- the lines answered on a table are answered on the same table
pub places_same
    : {t u : Table} {bytes : List ℕ} {from put : ℕ} {old : List ℕ} {r : Spot} {new : List ℕ}
    → t ≡ u → Places t bytes from put old r new → Places u bytes from put old r new
places_same {t} {u} {bytes} {from} {put} {old} {r} {new} e p = subst (λ t. Places t bytes from put old r new) e p
