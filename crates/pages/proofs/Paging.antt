-- A page of the list in progress, and none. Assumes nothing.
use Prim.Native.Nat.{ℕ, ◌+◌, ◌-◌, ◌≤◌, ◌<◌}
use mathlib.Core.Path.{◌≡◌, refl, sym, ◌∙◌, ap}
use mathlib.Core.Bool.{Bool, true, false, true≢false, false≢true}
use mathlib.Core.List.{List, [], ◌∷◌}
use native.Mathlib.Omega.{arith}
use lib.ListN.{length, take, drop}
use lib.Seq.{length-sets}
use lib.Dec.{ltb}
use borrow.Author.Tests.{lt-ltb, le-ltb}
use Rattle.std.specs.Prelude.{Option, None, Some, is_some, unwrap_or}
use Rattle.model.specs.Basics.{if◌then◌otherwise◌, joined}
use Rattle.model.specs.Relocations.{page}
use Rattle.model.specs.Console.{line, text, move_text}
use Rattle.model.proofs.Pages.{page_length}
use Rattle.session.specs.Maps.{session, listed}
use Rattle.console.specs.Rack.{Rack, held, moves_in}
use Rattle.console.specs.Listing.{Listed}
use Rattle.console.specs.declared.Page.{Page}
use Rattle.standing.specs.Standing.{due, ending, Goes}
use Rattle.standing.proofs.Going.{page_goes}
use Rattle.buffers.specs.Machine.{lists, row_of, stands, Sane}
use Rattle.buffers.specs.declared.Machine.{Machine}
use Rattle.wheres.proofs.Lines.{stored}
use Rattle.pages.specs.Pages.{Pages}

-- a row has a byte
text_some : (rs : List (List ℕ)) → 0 < length rs → 0 < length (move_text rs)
unfolding move_text joined line text
text_some [] h = omega arith
text_some (r ∷ rs) h = omega arith

-- the list in progress goes on with row `first`
module _
    (m : Machine) (k : Rack) (first : ℕ) (buffer after out out' : List ℕ) (p : Page) (l : m.listing ≡ Some first) (sane : Sane m k)
    (s : Listed (moves_in k) first buffer after out out' p)
  where
    pub page_row : first + p.rows ≤ p.total
    page_row =
        omega (
          arith,
          s.rows,
          s.total,
          page_length first (length buffer) (moves_in k),
          sane.row (ap is_some l),
          ap (λ (o : Option ℕ). unwrap_or o 0) l,
        )

    said : take p.length out' ≡ move_text (page first (length buffer) (moves_in k))
    said =
        ap (take p.length) s.bytes
        ∙ stored out (move_text (page first (length buffer) (moves_in k))) 0 p.length (omega (arith, s.size)) s.fits

    -- the next row is the one behind the page, as long as a row is left; and there is more then
    module _ (o : Option ℕ) (some : 5 ≤ length buffer) where
      abbrev next : Machine
      next = record { listing = o; from = m.from; size = m.size }

      abbrev left : ℕ
      left = p.total - (first + p.rows)

      goes
          : (bytes : List ℕ)
          → Goes [] (stands m k bytes) (take p.length out')
          (record { listing = ltb 0 left; row = first + p.rows; session = session (held k); rest = drop m.from bytes })
      unfolding stands
      goes bytes =
          rw l (page_goes (moves_in k) (length buffer) p.rows left refl refl s.rows (omega (arith, page_row, s.total)) said)

      paged
          : ((bytes : List ℕ) → Goes [] (stands m k bytes) (take p.length out') (stands next k bytes))
          → (lists next ≡ true → row_of next ≤ length (moves_in k))
          → (more : Bool) → (more ≡ false → lists next ≡ false) → (more ≡ true → 0 < left)
          → Pages m k out next k (record { put = p.length; more = more }) out'
      paged g row more done l =
          record {
            went = λ bytes within.
                record {
                  goes = g bytes;
                  sane = record { right = sane.right; row = row };
                  room =
                      omega (arith, s.fits, ap length s.bytes, length-sets out 0 (move_text (page first (length buffer) (moves_in k))));
                  size = refl;
                  onward = omega arith;
                  within = within;
                };
            done = done;
            more = λ e.
                omega (
                  arith,
                  s.size,
                  text_some (page first (length buffer) (moves_in k))
                      (omega (arith, l e, s.total, s.rows, page_length first (length buffer) (moves_in k))),
                );
            rack = refl;
          }

      pub paged_more : o ≡ Some (first + p.rows) → 0 < left → Pages m k out next k (record { put = p.length; more = ltb 0 left }) out'
      unfolding stands
      paged_more e b =
          paged (λ bytes. rw e (rw (lt-ltb 0 left b) at (goes bytes)))
          (λ _. omega (arith, page_row, s.total, ap (λ (o : Option ℕ). unwrap_or o 0) e)) (ltb 0 left)
          (λ n. absurd (true≢false (sym (lt-ltb 0 left b) ∙ n))) (λ _. b)

      pub paged_end : o ≡ None → left ≤ 0 → Pages m k out next k (record { put = p.length; more = ltb 0 left }) out'
      unfolding stands due ending listed if◌then◌otherwise◌
      paged_end e b =
          paged
          (λ bytes. let g = rw (le-ltb 0 left b) at (goes bytes) in rw e (record { text = g.text; session = g.session }))
          (λ n. absurd (false≢true (sym (ap is_some e) ∙ n))) (ltb 0 left) (λ _. ap is_some e)
          (λ n. absurd (false≢true (sym (le-ltb 0 left b) ∙ n)))
