-- Laws of what a fresh map with room is answered. Assumes nothing.
use Prim.Native.Nat.{ℕ}
use mathlib.Core.Path.{◌≡◌, sym, ◌∙◌}
use mathlib.Core.Bool.{true, false}
use mathlib.Core.List.{[], ◌∷◌}
use native.Mathlib.Omega.{arith}
use Rattle.model.specs.Limits.{max_capacity}
use Rattle.model.specs.Table.{Shape, Arrays, header, written}
use Rattle.model.specs.Refusal.{first, outside, overfills, capacity_outside}
use Rattle.model.specs.Initial.{initial}
use Rattle.model.specs.Calls.{no_header, size_tests, fresh_tests, table_reply, arrays_after}
use Rattle.model.proofs.Refusals.{first_here, first_skip, first_after, accepted, refused}
use Rattle.model.specs.Results.{number}
use Rattle.model.specs.declared.refusal.Refusal.{Refusal}
use Rattle.model.proofs.Results.{refused_first}
use Rattle.fresh.specs.Fresh.{fresh_refusal}

-- rules 1 and 2 have passed: 31 is the last test
pub fresh_last
    : (s : Shape) (p r : ℕ) → first (size_tests s) ≡ 0 → r ≡ first ((31, overfills p s) ∷ []) → r ≡ first (fresh_tests s p)
unfolding fresh_tests size_tests
fresh_last s p r z e = e ∙ sym (first_after (size_tests s) _ (omega arith) z)

-- and before that
pub fresh_sizes : (s : Shape) (p : ℕ) (r : Refusal) → number r ≡ first (size_tests s) → number r ≡ first (fresh_tests s p)
unfolding fresh_tests
fresh_sizes s p r e = refused_first r (size_tests s) _ e

module _ (s : Shape) (p : ℕ) where
  -- a fresh map is refused by its capacity, or by the sizes asked for
  pub fresh_outside : outside max_capacity p ≡ true → 30 ≡ fresh_refusal s p
  unfolding capacity_outside
  fresh_outside e = sym (first_here (30, capacity_outside p) (fresh_tests s p) e)

  pub fresh_within : (r : ℕ) → outside max_capacity p ≡ false → r ≡ first (fresh_tests s p) → r ≡ fresh_refusal s p
  unfolding capacity_outside
  fresh_within r c e = e ∙ sym (first_skip (30, capacity_outside p) (fresh_tests s p) c)

  pub fresh_refused
      : (r : ℕ) → r ≡ fresh_refusal s p → (r ≡ 0 → ⊥) → (out : Arrays)
      → (record { refusal = r; moved = 0; header = no_header } ≡ table_reply (fresh_refusal s p) 0 (initial s p))
      × (out ≡ arrays_after (fresh_refusal s p) (initial s p) out)
  unfolding table_reply arrays_after
  fresh_refused r e n out = (rw (← e) (sym (refused r _ _ n)), rw (← e) (sym (refused r _ _ n)))

  pub fresh_accepted
      : (r : ℕ) → r ≡ fresh_refusal s p → r ≡ 0 → (out : Arrays)
      → (record {
        refusal = 0;
        moved = 0;
        header = record { buckets = s.buckets; capacity = p; block_count = 1; interval_count = 1 };
      }
      ≡ table_reply (fresh_refusal s p) 0 (initial s p))
      × (written (initial s p) out ≡ arrays_after (fresh_refusal s p) (initial s p) out)
  unfolding table_reply arrays_after header initial
  fresh_accepted r e z out =
      (sym (accepted (fresh_refusal s p) _ _ (sym e ∙ z)), sym (accepted (fresh_refusal s p) _ _ (sym e ∙ z)))
