-- Laws of a session's lines: the two orders of 23 and 10, and the first map. Assumes nothing.
use Prim.Native.Nat.{ℕ}
use mathlib.Core.Path.{◌≡◌, refl, sym, ◌∙◌, ap}
use mathlib.Core.Logic.{inl, inr, ⊎_elim}
use mathlib.Core.Bool.{Bool, true, false, not}
use mathlib.Core.List.{List, [], ◌∷◌}
use native.Mathlib.Decide.{ℕ_discrete}
use native.Mathlib.Omega.{arith}
use borrow.Author.Tests.{eq-eqb, ne_eqb}
use Rattle.model.specs.Basics.{if◌then◌otherwise◌, ◌and◌, ◌or◌}
use Rattle.model.specs.Refusal.{first}
use Rattle.model.specs.Calls.{answer}
use Rattle.model.specs.Console.{read, Session, empty, fresh, grown, no_map, current, is_fresh, is_unreadable, line_tests, command_tests, command_refusal}
use Rattle.model.specs.Console.{accepted, accepted_answer, command_answer, answer_text, after, printed, after_all}
use Rattle.model.specs.ConsoleClaims.{ten_first, after_ten_first, Orders, Refuses, begins, some_begins, TwoOrders, LinesRefused, FirstMap}
use Rattle.model.specs.declared.answer.Answer.TheVariants as says
use Rattle.model.specs.declared.command.Command.{Command}
use Rattle.model.specs.declared.command.Command.TheVariants.{Fresh, Grow, Where, At, Moves, Unreadable}
use Rattle.model.proofs.Flags.{and_true}
use Rattle.model.proofs.Refusals.{and_false, first_number, accepted as answer_accepted, refused as answer_refused}

-- THE TWO ORDERS

-- the refusals of an unreadable line: 10 and 23 without a map, and 23 with one
unreadable_orders : (s : Session) → Orders s Unreadable
unfolding no_map is_fresh is_unreadable line_tests command_refusal ten_first first if◌then◌otherwise◌ ◌and◌
unreadable_orders empty = inl (refl, refl, refl)
unreadable_orders (fresh t) = inr (refl, refl)
unreadable_orders (grown t u) = inr (refl, refl)

-- a readable line passes 23 in both
orders : (s : Session) (c : Command) → Orders s c
unfolding is_fresh is_unreadable line_tests command_refusal ten_first first if◌then◌otherwise◌
orders s (Fresh b n) = inr (and_false (no_map s), rw (and_false (no_map s)))
orders s (Grow b n) = inr (and_false (no_map s), refl)
orders s (Where x) = inr (and_false (no_map s), refl)
orders s (At y p) = inr (and_false (no_map s), refl)
orders s Moves = inr (and_false (no_map s), refl)
orders s Unreadable = unreadable_orders s

pub two_orders_lem : TwoOrders
unfolding after after_ten_first answer if◌then◌otherwise◌
two_orders_lem s l = (
  orders s (read l),
  ⊎_elim (λ u. rw (u.1, u.2)) (λ e. rw e.1) (orders s (read l)),
)

-- WHAT IS PRINTED

-- a refused line
refuses : (r : ℕ) (s : Session) (l : List ℕ) → command_refusal s (read l) ≡ r → (r ≡ 0 → ⊥) → Refuses r s l
unfolding after printed command_answer answer_text
refuses r s l e n = (
  rw e (ap (answer_text s) (answer_refused r (accepted_answer s (read l)) (says.Refused r) n)),
  rw e (answer_refused r (accepted s (read l)) s n),
)

-- of an unreadable line, with a map or without
pub unreadable_refusal : (s : Session) → command_refusal s Unreadable ≡ 23
unfolding is_unreadable line_tests command_refusal first if◌then◌otherwise◌
unreadable_refusal s = refl

-- of a readable one other than `fresh`, without a map
unmapped_refusal : (c : Command) → (c ≡ Unreadable → ⊥) → ((b n : ℕ) → c ≡ Fresh b n → ⊥) → command_refusal empty c ≡ 10
unfolding no_map is_fresh is_unreadable line_tests command_refusal first if◌then◌otherwise◌ ◌and◌
unmapped_refusal (Fresh b n) u f = absurd (f b n refl)
unmapped_refusal (Grow b n) u f = refl
unmapped_refusal (Where x) u f = refl
unmapped_refusal (At y p) u f = refl
unmapped_refusal Moves u f = refl
unmapped_refusal Unreadable u f = absurd (u refl)

pub lines_refused_lem : LinesRefused
lines_refused_lem = (
  λ s l u. refuses 23 s l (ap (command_refusal s) u ∙ unreadable_refusal s) (λ z. omega arith),
  λ l u f. refuses 10 empty l (unmapped_refusal (read l) u f) (λ z. omega arith),
)

-- THE FIRST MAP

-- there is no map after an accepted command just where there was none and it is not `fresh`; a growth needs one
accepted_map : (s : Session) (c : Command) → command_refusal s c ≡ 0 → no_map (accepted s c) ≡ (no_map s and not (is_fresh c))
unfolding accepted no_map is_fresh is_unreadable line_tests command_refusal first if◌then◌otherwise◌
accepted_map s (Fresh b n) e = sym (and_false (no_map s))
accepted_map s (Grow b n) e = sym (first_number 10 (no_map s and true) (command_tests (current s) (Grow b n)) (omega arith) e).0
accepted_map s (Where x) e = sym (and_true (no_map s) true refl)
accepted_map s (At y p) e = sym (and_true (no_map s) true refl)
accepted_map s Moves e = sym (and_true (no_map s) true refl)
accepted_map s Unreadable e = sym (and_true (no_map s) true refl)

-- a refused line is no accepted `fresh`; an accepted one is where it is `fresh`
not_begun : (s : Session) (l : List ℕ) → (command_refusal s (read l) ≡ 0 → ⊥) → begins s l ≡ false
unfolding begins
not_begun s l n = ap (λ z. is_fresh (read l) and z) (ne_eqb (command_refusal s (read l)) 0 n) ∙ and_false (is_fresh (read l))

begun : (s : Session) (l : List ℕ) → command_refusal s (read l) ≡ 0 → begins s l ≡ is_fresh (read l)
unfolding begins
begun s l e = and_true (is_fresh (read l)) _ (eq-eqb (command_refusal s (read l)) 0 e)

-- after a line
line_map : (s : Session) (l : List ℕ) → no_map (after s l) ≡ (no_map s and not (begins s l))
unfolding after
line_map s l =
    elim (ℕ_discrete (command_refusal s (read l)) 0) [
      | yes e ↦
          ap no_map (answer_accepted (command_refusal s (read l)) (accepted s (read l)) s e)
          ∙ accepted_map s (read l) e
          ∙ ap (λ f. no_map s and not f) (sym (begun s l e))
      | no n ↦
          ap no_map (answer_refused (command_refusal s (read l)) (accepted s (read l)) s n)
          ∙ sym (and_true (no_map s) _ (ap not (not_begun s l n)))
    ]

-- not the one, and not the other
and_not : (a b c : Bool) → (a and not b) and not c ≡ a and not (b or c)
unfolding ◌and◌ ◌or◌
and_not true true c = refl
and_not true false c = refl
and_not false b c = refl

-- after a list of lines
pub first_map_lem : FirstMap
unfolding after_all some_begins
first_map_lem s [] = sym (and_true (no_map s) true refl)
first_map_lem s (l ∷ ls) =
    first_map_lem (after s l) ls
    ∙ ap (λ a. a and not (some_begins (after s l) ls)) (line_map s l)
    ∙ and_not (no_map s) (begins s l) (some_begins (after s l) ls)
