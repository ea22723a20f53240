-- What a file that passes or breaks rule 11 is answered. Assumes nothing.
use Prim.Native.Nat.{ℕ}
use mathlib.Core.Path.{◌≡◌, refl, sym, ◌∙◌, ap, ap₂, subst}
use mathlib.Core.Bool.{true, false}
use mathlib.Core.List.{List}
use native.Mathlib.Omega.{arith}
use borrow.Author.Tests.{eqb-true, not-false}
use Rattle.model.specs.Table.{Arrays}
use Rattle.model.specs.Refusal.{first, room_short}
use Rattle.model.specs.Saved.{saved_length, loaded_header, file_wrong}
use Rattle.model.specs.Calls.{no_header, arrays_after, load_answer, load_tests}
use Rattle.model.specs.Results.{number}
use Rattle.model.specs.declared.refusal.Refusal.{Refusal}
use Rattle.model.specs.declared.table.Header.{Header}
use Rattle.model.proofs.Refusals.{or_left, or_right, first_here, accepted, refused}
use Rattle.model.proofs.Results.{number_some}
use Rattle.model.proofs.Rules.{blocks_inside, intervals_inside}
use Rattle.soundness.specs.Passed.{alone}
use Rattle.file_rules.specs.Judging.{Counted}
use Rattle.file_read.specs.Opening.{Opened}
use Rattle.file_judged.specs.Loading.{loaded_over, Loaded}

-- rule 11 passed
pub counted : (f : List ℕ) (p : ℕ) (h : Header) → h ≡ loaded_header f p → file_wrong f p ≡ false → Counted f h
unfolding file_wrong saved_length
counted f p h e w =
    let header = or_left _ _ w in
    let g = blocks_inside (loaded_header f p) header in
    let k = intervals_inside (loaded_header f p) header in
    subst (Counted f) (sym e)
    (record {
      some_blocks = g.0;
      block_limit = g.1;
      some_intervals = k.0;
      interval_limit = k.1;
      fits = eqb-true _ _ (not-false _ (or_right _ _ w));
    })

pub file_refused
    : (f : List ℕ) (p : ℕ) (old : Arrays) → file_wrong f p ≡ true
    → (record { refusal = 11; header = no_header } ≡ load_answer (first (load_tests f p)) (loaded_header f p)) × (old ≡ loaded_over f p old)
unfolding load_tests loaded_over arrays_after
file_refused f p old w =
    let eleven : first (load_tests f p) ≡ 11 = first_here (11, file_wrong f p) _ w in
    let never : first (load_tests f p) ≡ 0 → ⊥ = λ z. omega arith in (
      ap (λ r. record { refusal = r; header = no_header }) (sym eleven) ∙ sym (refused (first (load_tests f p)) _ _ never),
      sym (refused (first (load_tests f p)) _ _ never),
    )

-- the capacity of its header is the one given
file_capacity : (f : List ℕ) (p : ℕ) (h : Header) → h ≡ loaded_header f p → h.capacity ≡ p
unfolding loaded_header
file_capacity f p h e = ap (λ (g : Header). g.capacity) e

-- rule 11 passed, what the rules after it answer: a refusal, or none
module _ (f : List ℕ) (p : ℕ) (h : Header) (old left : Arrays) (e : h ≡ loaded_header f p) where
  pub loaded_refused
      : (r : Refusal) → Loaded f h.capacity old (number r) left
      → (record { refusal = number r; header = no_header } ≡ load_answer (first (load_tests f p)) (loaded_header f p))
      × (left ≡ loaded_over f p old)
  loaded_refused r l =
      let k = subst (λ q. Loaded f q old (number r) left) (file_capacity f p h e) l in
      (sym (refused (number r) _ _ (number_some r)) ∙ ap₂ load_answer k.refusal e, k.lent)

  pub loaded_accepted
      : Loaded f h.capacity old 0 left
      → (record { refusal = 0; header = h } ≡ load_answer (first (load_tests f p)) (loaded_header f p))
      × (left ≡ loaded_over f p old)
  loaded_accepted l =
      let k = subst (λ q. Loaded f q old 0 left) (file_capacity f p h e) l in
      (sym (accepted 0 _ _ refl) ∙ ap₂ load_answer k.refusal e, k.lent)

-- a file that passes 11, with arrays that have room
pub opened
    : (f : List ℕ) (p : ℕ) (h : Header) (out : Arrays) → h ≡ loaded_header f p → file_wrong f p ≡ false → room_short out ≡ false
    → Opened f h out
opened f p h out e w r =
    let same = sym (file_capacity f p h e) in
    record {
      says = e ∙ ap (loaded_header f) same;
      passes = subst (λ q. file_wrong f q ≡ false) same w;
      counted = counted f p h e w;
      room = r;
    }

pub opened_alone
    : (f : List ℕ) (h : Header) (out : Arrays) → Opened f h out → h.block_count ≡ 1 → h.interval_count ≡ 1
    → Opened f (alone h.buckets h.capacity) out
opened_alone f h out o p q =
    subst (λ g. Opened f g out)
    (λ i. record { buckets = h.buckets; capacity = h.capacity; block_count = p i; interval_count = q i })
    o
