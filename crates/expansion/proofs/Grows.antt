-- Laws of a growth's reply. Assumes nothing.
use Prim.Native.Nat.{ℕ, ◌≤◌}
use mathlib.Core.Path.{◌≡◌, sym, ◌∙◌}
use mathlib.Core.Bool.{true, false}
use mathlib.Core.List.{[], ◌∷◌}
use native.Mathlib.Omega.{arith}
use lib.ListN.{length}
use borrow.Author.Tests.{ltb-false}
use Rattle.model.specs.Basics.{if◌then◌otherwise◌}
use Rattle.model.specs.Limits.{max_intervals}
use Rattle.model.specs.Table.{Shape, Table, shape, Arrays, header, written}
use Rattle.model.specs.Refusal.{first, intervals_full}
use Rattle.model.specs.Expansion.{grown_tops, expanded, moved}
use Rattle.model.specs.Balance.{least}
use Rattle.model.specs.Calls.{answer, no_header, growth_tests, table_reply, arrays_after}
use Rattle.model.specs.declared.reply.TableReply.{TableReply}
use Rattle.model.proofs.Refusals.{first_found, first_after, refused}
use Rattle.model.proofs.Soundness.{growth_numbered}
use Rattle.expansion.specs.Replies.{grow_refusal, GrowReply}

-- where the intervals are not too many they have their place
pub not_full : (t : Table) (s : Shape) → intervals_full t s ≡ false → length (expanded t s).intervals ≤ max_intervals
unfolding intervals_full
not_full t s e = ltb-false max_intervals (length (expanded t s).intervals) e

abbrev refusal : ℕ → TableReply
refusal r = record { refusal = r; moved = 0; header = no_header }

module _ (t : Table) (s : Shape) (out : Arrays) (r : ℕ) (e : r ≡ first (growth_tests t s)) where
  -- refused by rules 1 to 5, or 31
  pub grow_refused : (r ≡ 0 → ⊥) → GrowReply t s out out (refusal r)
  unfolding table_reply arrays_after
  grow_refused n =
      let same : grow_refusal t s ≡ r = first_found (growth_tests t s) _ (λ z. n (e ∙ z)) ∙ sym e in
      record {
        reply = rw same (sym (refused r _ _ n));
        least = λ q. absurd (n (sym same ∙ q));
        lent = rw same (sym (refused r _ _ n));
      }

  next : r ≡ 0 → grow_refusal t s ≡ first ((8, intervals_full t s) ∷ [])
  next z = first_after (growth_tests t s) _ (growth_numbered t s) (sym e ∙ z)

  -- refused by 8
  pub grow_full : r ≡ 0 → intervals_full t s ≡ true → GrowReply t s out out (refusal 8)
  unfolding table_reply arrays_after first answer if◌then◌otherwise◌
  grow_full z w =
      let eight : grow_refusal t s ≡ 8 = next z ∙ rw w in
      record { reply = rw (next z, w); least = λ q. absurd (omega arith); lent = rw (next z, w) }

  -- accepted: a reply of the new table's numbers
  pub grow_accepted
      : (left : Arrays) (z : TableReply) → r ≡ 0 → intervals_full t s ≡ false → z.refusal ≡ 0
      → z.header.buckets ≡ s.buckets → z.header.capacity ≡ t.capacity → z.header.block_count ≡ length (grown_tops t s)
      → z.header.interval_count ≡ length (expanded t s).intervals
      → z.moved ≡ moved t (expanded t s) → z.moved ≡ least (shape t) s
      → left ≡ written (expanded t s) out → GrowReply t s out left z
  unfolding table_reply arrays_after first answer if◌then◌otherwise◌ header expanded
  grow_accepted left z ok w accepted buckets capacity blocks intervals count formula stored =
      record {
        reply =
            rw (next ok, w)
            (λ i. record {
              refusal = accepted i;
              moved = count i;
              header = record { buckets = buckets i; capacity = capacity i; block_count = blocks i; interval_count = intervals i };
            });
        least = λ q. formula;
        lent = rw (next ok, w) stored;
      }
