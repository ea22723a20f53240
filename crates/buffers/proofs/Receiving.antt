-- A machine that begins, bytes received, and the first bytes of an unfinished line kept. Assumes nothing.
use Prim.Native.Nat.{ℕ, ◌+◌, ◌-◌, ◌≤◌, ◌<◌}
use Rattle.std.specs.Prelude.{min}
use mathlib.Core.Path.{◌≡◌, refl, sym, ◌∙◌, ap, ap₂}
use mathlib.Core.Bool.{Bool, true, false, true≢false, false≢true}
use mathlib.Core.List.{List, [], ◌∷◌, ◌++◌}
use native.Mathlib.Numerals.{add-one}
use native.Mathlib.Omega.{arith}
use lib.ListN.{length, set, take, drop, length-take, length-drop, length-set, drop_of_length-le}
use lib.Seq.{take-add, take-suc-set, length-take-le, drop-append-le}
use Rattle.model.specs.Basics.{if◌then◌otherwise◌}
use Rattle.model.specs.Table.{Table, Arrays, over}
use Rattle.model.specs.Refusal.{room_short}
use Rattle.std.specs.List.{copy_within}
use Rattle.std.proofs.lemmas.List.{drop-take, take-take, take_min}
use Rattle.lines.specs.Words.{up_to}
use Rattle.model.specs.Console.{empty, no_map}
use Rattle.session.specs.Maps.{Maps, maps, is_empty, is_grown, session_at, session, Right}
use Rattle.session.specs.declared.state.Stage.{Stage}
use Rattle.session.specs.declared.state.Stage.TheVariants as stage
use Rattle.session.specs.declared.state.State.{State}
use Rattle.console.specs.Rack.{Rack, rack, held}
use Rattle.standing.specs.Standing.{heard}
use Rattle.buffers.specs.Machine.{kept_bytes, lists, row_of, stands, bytes_of, Sane, Begins, BeginsWith, Receives}
use Rattle.buffers.specs.declared.Machine.{Machine}

-- a machine that begins, by a rack with no map
pub begins
    : (r : Machine) (k : Rack) → r.from ≡ 0 → r.size ≡ 0 → lists r ≡ false → row_of r ≡ 0 → session (held k) ≡ empty → Sane r k
    → Begins r k
unfolding stands up_to session
begins r k f z l q e sane =
    record {
      stands = λ block. rw (f, z, l, q, e);
      ready = λ block. record { sane = sane; from = omega arith; size = omega arith };
      rests = λ block. record { listing = l; rest = rw (f, z); few = omega arith };
    }

-- whichever of two arrays a rack's map is in
either : (P : Maps → Type 0) (flipped : Bool) (m n : Maps) → P m → P n → P (if flipped then m otherwise n)
unfolding if◌then◌otherwise◌
either P true m n p q = p
either P false m n p q = q

held_either
    : (P : Maps → Type 0) (st : State) (one two : Arrays) → P (maps st two one) → P (maps st one two) → P (held (rack st one two))
unfolding held
held_either P st one two p q = either P st.flipped (maps st two one) (maps st one two) p q

-- a state with no map: by its session, which has none
no_map_at : (g : Stage) (t u : Table) → session_at g t u ≡ empty → g ≡ stage.Empty
unfolding session_at no_map
no_map_at stage.Empty t u e = refl
no_map_at stage.Fresh t u e = absurd (false≢true (ap no_map e))
no_map_at stage.Grown t u e = absurd (false≢true (ap no_map e))

pub no_map_held : (st : State) (one two : Arrays) → session (held (rack st one two)) ≡ empty → st.stage ≡ stage.Empty
unfolding session
no_map_held st one two =
    held_either (λ m. session m ≡ empty → st.stage ≡ stage.Empty) st one two (no_map_at st.stage _ _) (no_map_at st.stage _ _)

-- a machine that begins, by a state with no map
module _ (r : Machine) (st : State) (f : r.from ≡ 0) (z : r.size ≡ 0) (l : lists r ≡ false) (q : row_of r ≡ 0) (e : st.stage ≡ stage.Empty)
  where
    begins_session : (one two : Arrays) → session (held (rack st one two)) ≡ empty
    unfolding session session_at
    begins_session one two = held_either (λ m. session m ≡ empty) st one two (rw e refl) (rw e refl)

    begins_right : (one two : Arrays) → room_short one ≡ false → room_short two ≡ false → Right (held (rack st one two))
    unfolding is_empty is_grown
    begins_right one two x y =
        held_either Right st one two
        (record { room = y; other_room = x; sound = λ n. absurd (true≢false (sym (ap is_empty e) ∙ n)); grown = λ n. absurd (false≢true (sym (ap is_grown e) ∙ n)) })
        (record { room = x; other_room = y; sound = λ n. absurd (true≢false (sym (ap is_empty e) ∙ n)); grown = λ n. absurd (false≢true (sym (ap is_grown e) ∙ n)) })

    pub begins_with : BeginsWith r st
    unfolding stands up_to
    begins_with =
        record {
          stands = λ one two block. rw (f, z, l, q, begins_session one two);
          ready =
              λ one two block x y.
              record {
                sane = record { right = begins_right one two x y; row = λ n. absurd (false≢true (sym l ∙ n)) };
                from = omega arith;
                size = omega arith;
              };
          rests = λ block. record { listing = l; rest = rw (f, z); few = omega arith };
        }

-- BYTES RECEIVED

heard_some : (b rest : List ℕ) → 0 < length b → heard b rest ≡ b
unfolding heard
heard_some [] rest h = absurd (omega arith)
heard_some (c ∷ b) rest h = refl

heard_end : (rest : List ℕ) → 0 < length rest → heard [] rest ≡ 10 ∷ []
unfolding heard
heard_end [] h = absurd (omega arith)
heard_end (c ∷ rest) h = refl

-- the bytes from place `from` on, with more behind them
module _ (from size : ℕ) (block : List ℕ) (low : from ≤ size) (high : size ≤ length block) where
  abbrev rest : List ℕ
  rest = drop from (take size block)

  rest_more : (more : List ℕ) → drop from (take size block ++ more) ≡ rest ++ more
  rest_more more = drop-append-le from (take size block) more (omega (arith, length-take-le size block high))

  rest_length : length rest ≡ size - from
  rest_length = length-drop from (take size block) ∙ ap (λ n. n - from) (length-take-le size block high)

  -- those that are read
  received_some
      : (got : ℕ) → 0 < got → size + got ≤ length block
      → drop from (take (size + got) block) ≡ rest ++ heard (take got (drop size block)) rest
  received_some got some fits =
      ap (drop from) (take-add size got block)
      ∙ rest_more (take got (drop size block))
      ∙ ap (λ (l : List ℕ). rest ++ l)
      (sym (heard_some (take got (drop size block)) rest (omega (arith, length-take got (drop size block), length-drop size block))))

  -- none are read: a line feed at the end of the input, or nothing
  module _ (got : ℕ) (end : got ≤ 0) where
    ended : heard [] rest ≡ heard (take got (drop size block)) rest
    ended = let zero : got ≡ 0 = omega arith in rw zero

    received_feed
        : from < size → size < length block
        → drop from (take (size + 1) (set block size 10)) ≡ rest ++ heard (take got (drop size block)) rest
    received_feed some fits =
        ap (λ n. drop from (take n (set block size 10))) (add-one size)
        ∙ ap (drop from) (take-suc-set block size 10 fits)
        ∙ rest_more (10 ∷ [])
        ∙ ap (λ (l : List ℕ). rest ++ l) (sym (heard_end rest (omega (arith, rest_length))) ∙ ended)

    received_none : size ≤ from → rest ≡ rest ++ heard (take got (drop size block)) rest
    unfolding heard
    received_none none =
        let e : rest ≡ [] = drop_of_length-le (take size block) {i = from} (omega (arith, length-take size block)) in
        rw (← ended, e)

-- the machine, with the bytes up to another place
module _ (m : Machine) (got size : ℕ) (block : List ℕ) (low : m.from ≤ m.size) (high : m.size ≤ length block) where
  abbrev next : Machine
  next = record { listing = m.listing; from = m.from; size = size }

  receives
      : (block' : List ℕ) → m.size ≤ size → size ≤ length block'
      → drop m.from (take size block')
      ≡ drop m.from (bytes_of m block) ++ heard (take got (drop m.size block)) (drop m.from (bytes_of m block))
      → Receives m got block next block'
  unfolding stands
  receives block' up within e =
      record {
        stands = λ k. ap (λ (r : List ℕ). record { listing = lists m; row = row_of m; session = session (held k); rest = r }) e;
        ready = λ k r.
            record {
              sane = record { right = r.sane.right; row = r.sane.row };
              from = omega (arith, r.from);
              size = within;
            };
      }

  pub receives_some : 0 < got → m.size + got ≤ length block → size ≡ m.size + got → Receives m got block next block
  receives_some some fits e =
      receives block (omega arith) (omega arith)
      (ap (λ n. drop m.from (take n block)) e ∙ received_some m.from m.size block low high got some fits)

  pub receives_feed
      : got ≤ 0 → m.from < m.size → m.size < length block → size ≡ m.size + 1
      → Receives m got block next (set block m.size 10)
  receives_feed end some fits e =
      receives (set block m.size 10) (omega arith) (simp length-set (omega arith))
      (ap (λ n. drop m.from (take n (set block m.size 10))) e ∙ received_feed m.from m.size block low high got end some fits)

  pub receives_none : got ≤ 0 → m.size ≤ m.from → size ≡ m.size → Receives m got block next block
  receives_none end none e =
      receives block (omega arith) (omega arith)
      (ap (λ n. drop m.from (take n block)) e ∙ received_none m.from m.size block low high got end none)

-- THE FIRST BYTES KEPT

-- as many as are kept, or all that are left
module _ (from size kept : ℕ) (block : List ℕ) (low : from ≤ size) (high : size ≤ length block) (k : kept ≡ min kept_bytes (size - from)) where
  abbrev first : List ℕ
  first = take kept_bytes (drop from (take size block))

  pub kept_length : kept ≡ length first
  kept_length = k ∙ sym (length-take kept_bytes (rest from size block low high) ∙ ap (min kept_bytes) (rest_length from size block low high))

  kept_front : take kept (drop from block) ≡ first
  kept_front =
      sym (take-take kept (size - from) (drop from block) (omega arith))
      ∙ ap (take kept) (sym (drop-take from (size - from) block) ∙ ap (λ n. drop from (take n block)) (omega arith))
      ∙ ap (λ n. take n (rest from size block low high)) (k ∙ ap (min kept_bytes) (sym (rest_length from size block low high)))
      ∙ take_min kept_bytes (rest from size block low high)

  pub kept_over : copy_within block from (from + kept) 0 ≡ over first block
  unfolding over
  kept_over =
      let n : (from + kept) - from ≡ kept = omega arith in
      rw n (ap₂ (λ (a : List ℕ) (i : ℕ). a ++ drop i block) kept_front (omega (arith, kept_length)))
