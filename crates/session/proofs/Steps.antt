-- Laws of one step of a session. Assumes nothing.
use Prim.Native.Nat.{ℕ}
use mathlib.Core.Path.{◌≡◌, refl, sym, ◌∙◌, ap, subst}
use mathlib.Core.Bool.{Bool, true, false, not, true≢false}
use mathlib.Core.List.{[], ◌∷◌}
use mathlib.Core.Logic.{⊎_elim}
use native.Mathlib.Decide.{ℕ_discrete}
use native.Mathlib.Omega.{arith}
use lib.Dec.{eqb}
use borrow.Author.Tests.{eq-eqb, ne_eqb}
use Rattle.model.specs.Basics.{if◌then◌otherwise◌, ◌and◌}
use Rattle.model.specs.Limits.{max_capacity}
use Rattle.model.specs.Table.{Table, Arrays, header, written, sizes}
use Rattle.model.specs.Refusal.{first}
use Rattle.model.specs.Search.{place_at}
use Rattle.model.specs.Initial.{initial}
use Rattle.model.specs.Expansion.{expanded, moved}
use Rattle.model.specs.Calls.{answer, fresh_tests, place_tests, find_tests, table_reply, arrays_after, find_answer}
use Rattle.model.specs.Console.{Session, no_map, current, is_fresh, is_unreadable, line_tests, command_tests, command_refusal}
use Rattle.model.specs.Console.{accepted_answer, command_answer}
use Rattle.model.specs.declared.command.Command.{Command}
use Rattle.model.specs.declared.command.Command.TheVariants.{Fresh, Grow, Where, At, Moves, Unreadable}
use Rattle.model.specs.declared.reply.TableReply.{TableReply}
use Rattle.model.specs.declared.reply.PlaceReply.{PlaceReply}
use Rattle.model.specs.declared.reply.FindReply.{FindReply}
use Rattle.model.proofs.Counts.{bit_cases}
use Rattle.model.proofs.Flags.{and_true}
use Rattle.model.proofs.Lines.{unreadable_refusal}
use Rattle.model.proofs.Refusals.{and_false, Numbered, first_number, first_found, first_both, accepted as answer_accepted, refused as answer_refused}
use Rattle.model.proofs.Soundness.{arrays_written}
use Rattle.model.proofs.Searches.{first_searched, found_refusal}
use Rattle.expansion.specs.Replies.{grow_refusal, GrowReply}
use Rattle.session.specs.Maps.{Maps, maps, is_empty, map_of, session_at, session, performed, next, is_grow, flips, Stepped, HasMap, Right}
use Rattle.session.specs.declared.state.Stage.{Stage}
use Rattle.session.specs.declared.state.Stage.TheVariants as stage
use Rattle.model.specs.declared.answer.Answer.{Answer}
use Rattle.model.specs.declared.answer.Answer.TheVariants as says
use Rattle.session.specs.declared.state.Step.{Step}

-- THE STAGE

-- no map, and the map
no_map_lem : (st : Stage) (t u : Table) → no_map (session_at st t u) ≡ is_empty st
unfolding no_map session_at is_empty
no_map_lem stage.Empty t u = refl
no_map_lem stage.Fresh t u = refl
no_map_lem stage.Grown t u = refl

pub map_current : (st : Stage) (t u : Table) → is_empty st ≡ false → current (session_at st t u) ≡ u
unfolding current session_at is_empty
map_current stage.Empty t u e = absurd (true≢false e)
map_current stage.Fresh t u e = refl
map_current stage.Grown t u e = refl

-- a reply whose refusal number is 0 where it is accepted
refusal_number : {A : Type 0} (r : ℕ) (f : A → ℕ) (a b : A) → (r ≡ 0 → f a ≡ r) → f b ≡ r → f (answer r a b) ≡ r
refusal_number r f a b h k =
    elim (ℕ_discrete r 0) [
      | yes e ↦ ap f (answer_accepted r a b e) ∙ h e
      | no n ↦ ap f (answer_refused r a b n) ∙ k
    ]

-- REFUSALS

-- the tests of every line have numbers
numbered : (s : Session) (c : Command) → Numbered (line_tests s c)
unfolding line_tests
numbered s c = omega arith

module _ (m : Maps) where
  -- the tests of every line, where u says that it is unreadable, and n that there is no map and it is not `fresh`
  pub line_tests_lem
      : (c : Command) (u n : Bool) → u ≡ is_unreadable c → n ≡ (is_empty m.state.stage and not (is_fresh c))
      → first ((23, u) ∷ (10, n) ∷ []) ≡ first (line_tests (session m) c)
  unfolding line_tests session
  line_tests_lem c u n p q = rw (p, q, no_map_lem m.state.stage _ _)

  -- a line that is accepted, they let pass
  line_passed : (c : Command) → command_refusal (session m) c ≡ 0 → first (line_tests (session m) c) ≡ 0
  unfolding command_refusal
  line_passed c e = (first_both (line_tests (session m) c) _ (numbered (session m) c) e).0

  -- one that they let pass has a map, or is `fresh`
  passed_map : (c : Command) → is_fresh c ≡ false → first (line_tests (session m) c) ≡ 0 → is_empty m.state.stage ≡ false
  passed_map c f e =
      let (readable, rest) = first_number 23 (is_unreadable c) _ (omega arith) (line_tests_lem c _ _ refl refl ∙ e) in
      let (mapped, none) = first_number 10 (is_empty m.state.stage and not (is_fresh c)) [] (omega arith) rest in
      sym (and_true (is_empty m.state.stage) (not (is_fresh c)) (ap not f)) ∙ mapped

  -- and that map is sound, if the invariant holds
  pub passed_sound
      : {c : Command} (d : Command) {r : ℕ} → c ≡ d → is_fresh d ≡ false → r ≡ first (line_tests (session m) c) → r ≡ 0 → Right m
      → HasMap m.state m.this
  passed_sound {c} d e f t z w = let map = passed_map c (ap is_fresh e ∙ f) (sym t ∙ z) in (map, w.sound map)

  pub has_map : (c : Command) → is_fresh c ≡ false → command_refusal (session m) c ≡ 0 → is_empty m.state.stage ≡ false
  has_map c f e = passed_map c f (line_passed c e)

  -- with a map the tests of a command are left
  pub map_refusal
      : (c : Command) → is_unreadable c ≡ false → is_empty m.state.stage ≡ false
      → command_refusal (session m) c ≡ first (command_tests (map_of m) c)
  unfolding command_refusal line_tests session first if◌then◌otherwise◌ ◌and◌
  map_refusal c u e = rw (u, no_map_lem m.state.stage _ _, e, map_current m.state.stage _ _ e)

  pub fresh_refusal_lem : (b n : ℕ) → command_refusal (session m) (Fresh b n) ≡ first (fresh_tests (sizes b n) max_capacity)
  unfolding command_refusal line_tests is_fresh is_unreadable command_tests first if◌then◌otherwise◌
  fresh_refusal_lem b n = rw (and_false (no_map (session m)))

  -- STEPS

  -- a refused one
  pub refused_step
      : (c : Command) (r : ℕ) (z : Step) → z ≡ record { state = m.state; flip = false; answer = says.Refused r }
      → command_refusal (session m) c ≡ r → (r ≡ 0 → ⊥) → Stepped m c z m.this m.other
  unfolding command_answer flips next answer if◌then◌otherwise◌ ◌and◌
  refused_step c r z w e n =
      let no = ne_eqb r 0 n in
      subst (λ z. Stepped m c z m.this m.other) (sym w) (record { answer = rw (e, no); flip = rw (e, no); maps = rw (e, no) })

  -- an accepted one that changes nothing
  pub told_step
      : (c : Command) (a : Answer) (z : Step) → z ≡ record { state = m.state; flip = false; answer = a }
      → command_refusal (session m) c ≡ 0 → is_grow c ≡ false → performed m c ≡ m → a ≡ accepted_answer (session m) c
      → Stepped m c z m.this m.other
  unfolding command_answer flips next answer if◌then◌otherwise◌
  told_step c a z w e g p k =
      let yes = eq-eqb (command_refusal (session m) c) 0 e in
      subst (λ z. Stepped m c z m.this m.other) (sym w) (record {
        answer =
            rw (yes, k);
        flip = rw (g, and_false (eqb (command_refusal (session m) c) 0));
        maps = rw (yes, p);
      })

  -- a step by a command, which is another
  pub step_of : {c d : Command} {z : Step} {a b : Arrays} → c ≡ d → Stepped m d z a b → Stepped m c z a b
  step_of {z = z} {a = a} {b = b} e s = subst (λ c. Stepped m c z a b) (sym e) s

  -- one that the tests of every line refuse
  pub line_step
      : (c : Command) (r : ℕ) (z : Step) → z ≡ record { state = m.state; flip = false; answer = says.Refused r }
      → r ≡ first (line_tests (session m) c) → (r ≡ 0 → ⊥) → Stepped m c z m.this m.other
  unfolding command_refusal
  line_step c r z w e n = refused_step c r z w (first_found (line_tests (session m) c) _ (λ z. n (e ∙ z)) ∙ sym e) n

  -- `moves`, and an unreadable line
  pub moves_step
      : (z : Step) → z ≡ record { state = m.state; flip = false; answer = says.Moves }
      → is_empty m.state.stage ≡ false → Stepped m Moves z m.this m.other
  unfolding is_unreadable command_tests first is_grow performed accepted_answer
  moves_step z w e = told_step Moves says.Moves z w (map_refusal Moves refl e) refl refl refl

  pub unreadable_step
      : (z : Step) → z ≡ record { state = m.state; flip = false; answer = says.Refused 23 } → Stepped m Unreadable z m.this m.other
  unreadable_step z w = refused_step Unreadable 23 z w (unreadable_refusal (session m)) (λ z. omega arith)

  -- `fresh`, accepted
  pub fresh_step
      : (b n p r : ℕ) (left : Arrays) → r ≡ first (fresh_tests (sizes b n) max_capacity) → r ≡ 0
      → left ≡ written (initial (sizes b n) max_capacity) m.this → p ≡ max_capacity
      → Stepped m (Fresh b n)
      (record {
        state =
            record {
              stage = stage.Fresh;
              flipped = m.state.flipped;
              bins = n;
              current = record { buckets = b; capacity = p; block_count = 1; interval_count = 1 };
              before = m.state.before;
            };
        flip = false;
        answer = says.Table 0 1;
      })
      left m.other
  unfolding command_answer flips next answer if◌then◌otherwise◌ accepted_answer is_grow performed initial header
  fresh_step b n p r left q z w c =
      let e : command_refusal (session m) (Fresh b n) ≡ 0 = fresh_refusal_lem b n ∙ sym q ∙ z in
      let yes = eq-eqb (command_refusal (session m) (Fresh b n)) 0 e in
      record { answer = rw yes; flip = rw (and_false (eqb (command_refusal (session m) (Fresh b n)) 0)); maps = rw (yes, w, c) }

  module _ (e : is_empty m.state.stage ≡ false) where
    here : current (session m) ≡ map_of m
    unfolding session
    here = map_current m.state.stage _ _ e

    -- `grow`
    module _ (b n : ℕ) (z : TableReply) (left : Arrays) (g : GrowReply (map_of m) (sizes b n) m.other left z) where
      number : command_refusal (session m) (Grow b n) ≡ grow_refusal (map_of m) (sizes b n)
      unfolding is_unreadable command_tests
      number = map_refusal (Grow b n) refl e

      grow_refusal_lem : command_refusal (session m) (Grow b n) ≡ z.refusal
      unfolding table_reply
      grow_refusal_lem =
          number
          ∙ sym (refusal_number (grow_refusal (map_of m) (sizes b n)) (λ (y : TableReply). y.refusal) _ _ sym refl)
          ∙ sym (ap (λ (y : TableReply). y.refusal) g.reply)

      -- refused: the arrays are as they were
      pub grow_refused
          : (y : Step) → y ≡ record { state = m.state; flip = false; answer = says.Refused z.refusal }
          → (z.refusal ≡ 0 → ⊥) → Stepped m (Grow b n) y m.this left
      unfolding arrays_after
      grow_refused y w bad =
          subst (Stepped m (Grow b n) y m.this)
          (sym (g.lent ∙ answer_refused _ _ _ (λ q. bad (sym grow_refusal_lem ∙ number ∙ q))))
          (refused_step (Grow b n) z.refusal y w grow_refusal_lem bad)

      grow_reply
          : grow_refusal (map_of m) (sizes b n) ≡ 0
          → z ≡ record { refusal = 0; moved = moved (map_of m) (expanded (map_of m) (sizes b n)); header = header (expanded (map_of m) (sizes b n)) }
      unfolding table_reply
      grow_reply y = g.reply ∙ answer_accepted _ _ _ y

      pub grow_step
          : z.refusal ≡ 0
          → Stepped m (Grow b n)
          (record {
            state = record { stage = stage.Grown; flipped = not m.state.flipped; bins = n; current = z.header; before = m.state.current };
            flip = true;
            answer = says.Table z.moved z.header.interval_count;
          })
          m.this left
      unfolding command_answer flips next answer if◌then◌otherwise◌ ◌and◌ accepted_answer is_grow performed header
      grow_step q =
          let zero : command_refusal (session m) (Grow b n) ≡ 0 = grow_refusal_lem ∙ q in
          let yes = eq-eqb (command_refusal (session m) (Grow b n)) 0 zero in
          let reply = grow_reply (sym number ∙ zero) in
          let written : left ≡ written (expanded (map_of m) (sizes b n)) m.other = g.lent ∙ arrays_written _ _ _ (sym number ∙ zero) in
          record { answer = rw (yes, here, reply); flip = rw yes; maps = rw (yes, reply, written) }

    -- `where`
    module _ (x : ℕ) (z : PlaceReply) (p : z ≡ place_at (map_of m) x) where
      pub place_refusal : command_refusal (session m) (Where x) ≡ z.refusal
      unfolding is_unreadable command_tests place_tests
      place_refusal =
          map_refusal (Where x) refl e
          ∙ first_searched (place_at (map_of m) x).refusal
          ∙ sym (ap (λ (y : PlaceReply). y.refusal) p)

      pub place_told : says.Place z.bin z.position ≡ accepted_answer (session m) (Where x)
      unfolding accepted_answer
      place_told = rw (here, p)

    -- `at`
    module _ (y k : ℕ) (z : FindReply) (p : z ≡ find_answer (first (find_tests (map_of m) y k)) (map_of m) y k) where
      find_number : command_refusal (session m) (At y k) ≡ first (find_tests (map_of m) y k)
      unfolding is_unreadable command_tests
      find_number = map_refusal (At y k) refl e

      pub find_refusal : command_refusal (session m) (At y k) ≡ z.refusal
      unfolding find_answer
      find_refusal =
          find_number
          ∙ sym
          (refusal_number (first (find_tests (map_of m) y k)) (λ (y : FindReply). y.refusal) _ _
          (λ q. found_refusal (map_of m) y k q ∙ sym q) refl)
          ∙ sym (ap (λ (y : FindReply). y.refusal) p)

      pub find_told : z.refusal ≡ 0 → says.Bucket z.bucket ≡ accepted_answer (session m) (At y k)
      unfolding accepted_answer find_answer
      find_told q =
          let zero = sym find_number ∙ find_refusal ∙ q in
          rw (here, p ∙ answer_accepted _ _ _ zero)

-- WHICH TABLE IS THE MAP

-- an accepted command turns the tables just where it is a growth
performed_flipped
    : (m : Maps) (c : Command) → (performed m c).state.flipped ≡ (if is_grow c then not m.state.flipped otherwise m.state.flipped)
unfolding performed is_grow if◌then◌otherwise◌
performed_flipped m (Fresh b n) = refl
performed_flipped m (Grow b n) = refl
performed_flipped m (Where x) = refl
performed_flipped m (At y p) = refl
performed_flipped m Moves = refl
performed_flipped m Unreadable = refl

next_flipped
    : (m : Maps) (c : Command)
    → (next m c).state.flipped ≡ (if flips (session m) c then not m.state.flipped otherwise m.state.flipped)
unfolding next flips answer if◌then◌otherwise◌ ◌and◌
next_flipped m c =
    ⊎_elim
    (λ y. rw y.0 (performed_flipped m c))
    (λ n. rw n.0)
    (bit_cases (eqb (command_refusal (session m) c) 0))

-- so does its step
pub step_flipped
    : (m : Maps) (c : Command) (d : Step) (a b : Arrays) → Stepped m c d a b
    → d.state.flipped ≡ (if d.flip then not m.state.flipped otherwise m.state.flipped)
unfolding if◌then◌otherwise◌
step_flipped m c d a b s =
    same d.flip
    ∙ ap (λ (n : Maps). n.state.flipped) s.maps
    ∙ next_flipped m c
    ∙ ap (λ f. if f then not m.state.flipped otherwise m.state.flipped) (sym s.flip)
  where
    same : (f : Bool) → d.state.flipped ≡ (if f then maps d.state b a otherwise maps d.state a b).state.flipped
    same true = refl
    same false = refl
