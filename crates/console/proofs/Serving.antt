-- Laws of one line: the two tables by which of them is the map. Assumes nothing.
use Prim.Native.Nat.{ℕ, ◌+◌, ◌≤◌}
use mathlib.Core.Path.{◌≡◌, refl, sym, ◌∙◌, ap, subst}
use mathlib.Core.Bool.{Bool, true, false, not}
use mathlib.Core.List.{List, [], ◌∷◌}
use mathlib.Core.Logic.{⊎_elim}
use native.Mathlib.Omega.{arith}
use lib.ListN.{length}
use lib.Seq.{sets}
use Rattle.model.specs.Basics.{if◌then◌otherwise◌, joined}
use Rattle.model.specs.Table.{Arrays, table}
use Rattle.model.specs.Sound.{Formed}
use Rattle.model.specs.Console.{text, read, moves_of, move_text, command_answer, answer_text}
use Rattle.model.proofs.Counts.{bit_cases}
use Rattle.model.specs.declared.answer.Answer.{Answer}
use Rattle.model.specs.declared.answer.Answer.TheVariants.{Refused, Table, Place, Bucket, Moves}
use Rattle.model.specs.declared.command.Command.{Command}
use Rattle.session.specs.Maps.{maps, is_grown, before_of, session, next, shown, is_list, Stepped, sizes_of, Right}
use Rattle.session.specs.declared.state.Stage.TheVariants.{Grown}
use Rattle.session.specs.declared.state.State.{State}
use Rattle.session.specs.declared.state.Step.{Step}
use Rattle.session.proofs.Rights.{right_next}
use Rattle.session.proofs.Steps.{step_flipped}
use Rattle.print.specs.Numbers.{line_room}
use Rattle.print.proofs.Lines.{line_short}
use Rattle.console.specs.Rack.{Rack, rack, held, moves_in, answer_to, Served}
use Rattle.console.specs.Listing.{growth_rows, Growth, Listed}
use Rattle.console.specs.declared.Reply.{Reply}
use Rattle.console.specs.declared.Page.{Page}
use Rattle.console.proofs.Rows.{none_listed, moves_none, moves_grown}

-- an answer's reply, with what it prints up to place y
abbrev pub replied : Answer → ℕ → Reply
replied a y = record { at = y; list = is_list a }

-- an answer that prints vs, from place x up to place y, and no list
pub told_reply
    : (a : Answer) (x y : ℕ) (old new vs : List ℕ) → shown a ≡ vs → is_list a ≡ false → y ≡ x + length vs → new ≡ sets old x vs
    → (record { at = y; list = false } ≡ replied a (x + length (shown a))) × (new ≡ sets old x (shown a))
told_reply a x y old new vs e l p b = rw (e, l, p, b) (refl, refl)

-- what is printed at once is short
pub shown_short : (a : Answer) → length (shown a) ≤ line_room
unfolding shown answer_text moves_of move_text joined text
shown_short (Refused r) = omega (arith, line_short "refused" (r ∷ []))
shown_short (Table m k) = omega (arith, line_short "ok" (m ∷ k ∷ []))
shown_short (Place y p) = omega (arith, line_short "place" (y ∷ p ∷ []))
shown_short (Bucket x) = omega (arith, line_short "bucket" (x ∷ []))
shown_short Moves = omega arith

-- a line served: what its command did is answered
pub served
    : {k k' : Rack} {l : List ℕ} {c : Command} {a : Answer} {r : Reply} {x : ℕ} {old new : List ℕ} → c ≡ read l
    → held k' ≡ next (held k) c → a ≡ command_answer (session (held k)) c
    → r ≡ replied a (x + length (shown a)) → new ≡ sets old x (shown a)
    → Served k l x old r k' new
unfolding answer_to
served {k} {k'} {l} {c} {a} {r} {x} {old} {new} q h s e b =
    let same : a ≡ answer_to k l = s ∙ ap (command_answer (session (held k))) q in
    record {
      maps = h ∙ ap (next (held k)) q;
      list = ap (λ (r : Reply). r.list) e ∙ ap is_list same;
      place = ap (λ (r : Reply). r.at) e ∙ ap (λ a. x + length (shown a)) same;
      bytes = b ∙ ap (λ a. sets old x (shown a)) same;
    }

module _ (st : State) (one two : Arrays) where
  -- the map is in the second table, or in the first
  pub second_held : st.flipped ≡ true → held (rack st one two) ≡ maps st two one
  unfolding held if◌then◌otherwise◌
  second_held e = rw e

  pub first_held : st.flipped ≡ false → held (rack st one two) ≡ maps st one two
  unfolding held if◌then◌otherwise◌
  first_held e = rw e

  pub second_right : st.flipped ≡ true → Right (held (rack st one two)) → Right (maps st two one)
  second_right e r = subst Right (second_held e) r

  pub first_right : st.flipped ≡ false → Right (held (rack st one two)) → Right (maps st one two)
  first_right e r = subst Right (first_held e) r

  -- and after a step from where it was
  second_after : (b : Bool) → st.flipped ≡ (if b then false otherwise true) → held (rack st one two) ≡ (if b then maps st one two otherwise maps st two one)
  unfolding if◌then◌otherwise◌
  second_after true e = first_held e
  second_after false e = second_held e

  first_after : (b : Bool) → st.flipped ≡ (if b then true otherwise false) → held (rack st one two) ≡ (if b then maps st two one otherwise maps st one two)
  unfolding if◌then◌otherwise◌
  first_after true e = second_held e
  first_after false e = first_held e

-- a step from the maps that the rack holds, with the tables after it as the rack holds them
module _ (st : State) (one two one' two' : Arrays) (c : Command) (d : Step) where
  pub second_next
      : st.flipped ≡ true → Stepped (maps st two one) c d two' one'
      → (held (rack d.state one' two') ≡ next (held (rack st one two)) c)
      × (d.answer ≡ command_answer (session (held (rack st one two))) c)
  second_next g s =
      let e = second_held st one two g in (
        second_after d.state one' two' d.flip
            (step_flipped (maps st two one) c d two' one' s ∙ ap (λ f. if d.flip then not f otherwise f) g)
            ∙ s.maps
            ∙ ap (λ m. next m c) (sym e),
        s.answer ∙ ap (λ m. command_answer (session m) c) (sym e),
      )

  pub first_next
      : st.flipped ≡ false → Stepped (maps st one two) c d one' two'
      → (held (rack d.state one' two') ≡ next (held (rack st one two)) c)
      × (d.answer ≡ command_answer (session (held (rack st one two))) c)
  first_next g s =
      let e = first_held st one two g in (
        first_after d.state one' two' d.flip
            (step_flipped (maps st one two) c d one' two' s ∙ ap (λ f. if d.flip then not f otherwise f) g)
            ∙ s.maps
            ∙ ap (λ m. next m c) (sym e),
        s.answer ∙ ap (λ m. command_answer (session m) c) (sym e),
      )

-- what a command leaves is sound
pub right_after : (k k' : Rack) (c : Command) → Right (held k) → held k' ≡ next (held k) c → Right (held k')
right_after k k' c w e = subst Right (sym e) (right_next (held k) w c)

-- no rows but for a map that has grown
pub held_state : (k : Rack) → (held k).state ≡ k.state
unfolding held if◌then◌otherwise◌
held_state k = ⊎_elim (λ t. rw t.0) (λ t. rw t.0) (bit_cases k.state.flipped)

pub none_held
    : (k : Rack) (q : ℕ) (buffer old : List ℕ) → is_grown k.state.stage ≡ false
    → Listed (moves_in k) q buffer buffer old old (record { rows = 0; total = 0; length = 0 })
none_held k q buffer old e =
    rw (moves_none (held k) (ap (λ (st : State). is_grown st.stage) (held_state k) ∙ e)) (none_listed q buffer old)

-- the other table's arrays, by what holds them
pub other_held : (k : Rack) (other : Arrays) → other ≡ (held k).other → held k ≡ maps k.state (held k).this other
unfolding held if◌then◌otherwise◌
other_held k other e = rw e (⊎_elim (λ t. rw t.0) (λ t. rw t.0) (bit_cases k.state.flipped))

-- a page of the maps that a rack holds, of which the map has grown from the table `other`
module _ (k : Rack) (this other : Arrays) (q : ℕ) (right : Right (held k)) (e : k.state.stage ≡ Grown) (h : held k ≡ maps k.state this other) where
  right_here : Right (maps k.state this other)
  right_here = subst Right h right

  rows_here : moves_in k ≡ growth_rows (table k.state.before other) (sizes_of k.state)
  unfolding is_grown before_of
  rows_here = ap (λ m. moves_of (session m)) h ∙ moves_grown (maps k.state this other) e (right_here.grown (ap is_grown e))

  pub grown_asked
      : q ≤ length (moves_in k)
      → Formed k.state.before other × Growth (table k.state.before other) (sizes_of k.state) q
  unfolding is_grown before_of
  grown_asked few =
      let g = right_here.grown (ap is_grown e) in
      (g.sound.formed, (g.asked, omega (arith, ap length rows_here)))

  pub grown_listed
      : {buffer after old new : List ℕ} {r : Page}
      → Listed (growth_rows (table k.state.before other) (sizes_of k.state)) q buffer after old new r
      → Listed (moves_in k) q buffer after old new r
  grown_listed {buffer} {after} {old} {new} {r} l = subst (λ rs. Listed rs q buffer after old new r) (sym rows_here) l
