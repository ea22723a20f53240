-- Laws of `where`: what it answers, by the place that is found, and that it changes nothing. Assumes nothing.
use Prim.Native.Nat.{ℕ, ◌+◌}
use mathlib.Core.Path.{◌≡◌, refl, sym, ◌∙◌, ap}
use mathlib.Core.Bool.{false}
use mathlib.Core.List.{List, [], ◌∷◌}
use lib.ListN.{length}
use lib.Seq.{sets}
use native.Mathlib.Decide.{ℕ_discrete}
use Rattle.model.specs.Table.{Table}
use Rattle.model.specs.Search.{place_at}
use Rattle.model.specs.Calls.{answer}
use Rattle.model.specs.Console.{line, command_refusal, command_answer, answer_text}
use Rattle.model.specs.declared.reply.PlaceReply.{PlaceReply}
use Rattle.model.specs.declared.command.Command.TheVariants.{Where}
use Rattle.model.proofs.Refusals.{accepted as answer_accepted, refused as answer_refused}
use Rattle.session.specs.Maps.{Maps, is_empty, map_of, session, performed, next, shown, is_list}
use Rattle.session.proofs.Steps.{place_refusal, place_told}
use Rattle.console.specs.Rack.{where_answer}

module _ (t : Table) (x : ℕ) (z : PlaceReply) (p : z ≡ place_at t x) where
  pub where_refused : (z.refusal ≡ 0 → ⊥) → shown (where_answer t x) ≡ line "refused" (z.refusal ∷ [])
  unfolding where_answer shown answer_text
  where_refused n = rw p (ap shown (answer_refused (place_at t x).refusal _ _ (λ e. n (ap (λ (y : PlaceReply). y.refusal) p ∙ e))))

  pub where_told : z.refusal ≡ 0 → shown (where_answer t x) ≡ line "place" (z.bin ∷ z.position ∷ [])
  unfolding where_answer shown answer_text
  where_told e = rw p (ap shown (answer_accepted (place_at t x).refusal _ _ (sym (ap (λ (y : PlaceReply). y.refusal) p) ∙ e)))

-- an answer that prints vs, from place a up to place b
pub where_said
    : (t : Table) (x a b : ℕ) (old new vs : List ℕ) → shown (where_answer t x) ≡ vs → b ≡ a + length vs → new ≡ sets old a vs
    → (b ≡ a + length (shown (where_answer t x))) × (new ≡ sets old a (shown (where_answer t x)))
where_said t x a b old new vs e p q = rw e (p, q)

-- whatever holds of both answers
either : {A B : Type 0} (f : A → B) (r : ℕ) (a b : A) (v : B) → f a ≡ v → f b ≡ v → f (answer r a b) ≡ v
either f r a b v h k =
    elim (ℕ_discrete r 0) [
      | yes e ↦ ap f (answer_accepted r a b e) ∙ h
      | no n ↦ ap f (answer_refused r a b n) ∙ k
    ]

module _ (m : Maps) (x : ℕ) where
  pub where_next : next m (Where x) ≡ m
  unfolding next performed
  where_next = either (λ (n : Maps). n) (command_refusal (session m) (Where x)) m m m refl refl

  pub where_answer_lem : is_empty m.state.stage ≡ false → command_answer (session m) (Where x) ≡ where_answer (map_of m) x
  unfolding command_answer where_answer
  where_answer_lem e = rw (place_refusal m e x (place_at (map_of m) x) refl, ← place_told m e x (place_at (map_of m) x) refl)

pub where_lists_none : (t : Table) (x : ℕ) → is_list (where_answer t x) ≡ false
unfolding where_answer is_list
where_lists_none t x = either is_list (place_at t x).refusal _ _ false refl refl
