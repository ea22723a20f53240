-- Laws of the count of written moved buckets, and the claims. Assumes nothing.
use Prim.Native.Nat.{ℕ, ◌+◌, ◌-◌, ◌*◌, ◌≤◌, ◌<◌, min}
use mathlib.Core.Path.{◌≡◌, refl, sym, ◌∙◌, ap}
use mathlib.Core.Logic.{⊎_elim}
use mathlib.Core.Bool.{Bool, true}
use mathlib.Core.List.{List, [], ◌∷◌, ◌++◌}
use native.Mathlib.Nat.{one-mul, zero-mul}
use native.Mathlib.Decide.{ℕ_discrete}
use native.Mathlib.Omega.{arith}
use lib.ListN.{length}
use borrow.Author.Tests.{le-ltb}
use Rattle.model.specs.Basics.{◌and◌, bit, sum, count}
use Rattle.model.specs.Table.{table}
use Rattle.model.specs.Refusal.{first}
use Rattle.model.specs.Expansion.{differs, moved}
use Rattle.model.specs.Calls.{table_tests, growth_tests}
use Rattle.model.specs.declared.reply.WrittenReply.{WrittenReply}
use Rattle.model.proofs.Counts.{bit_cases, sum_ext, sum_split, sum_zero, and_passed, and_failed, count_and}
use Rattle.model.proofs.Ranks.{sum_ranks}
use Rattle.model.proofs.Refusals.{accepted, refused}
use Rattle.model.proofs.Soundness.{sound_iff_lem}
use Rattle.written.specs.Written.{written, bits_short}
use Rattle.written_relocations.specs.Count.{written_moved, written_tests, written_refusal, written_reply}
use Rattle.mover_written.specs.Carry.{Growth, old_table, new_table, total, Told, bits, is_written, bucket_at, copies}
use Rattle.mover_written.specs.Run.{Stored, Begun, Tells, begun, calls, copies_made}
use Rattle.mover_written.specs.Claims.{Moves, order, Checks}
use Rattle.mover_written.specs.WrittenClaims.{count_refusal, count_reply, moved_count, CountPast, CountMost, CountAll, CountCopies}
use Rattle.mover_written.proofs.Spots.{accepted_ready, total_moved, bucket_of_lem}
use Rattle.mover_written.proofs.Replies.{copies_end}
use Rattle.mover_written.proofs.Runs.{copies_written, calls_mark}
use Rattle.mover_written.proofs.Alike.{count_refused_lem}

module _ (g : Growth) where
  abbrev moves : ℕ → Bool
  moves x = differs (old_table g) (new_table g) x

  -- the counted buckets, as a sum
  abbrev both : List ℕ → ℕ → ℕ
  both ws x = bit (moves x and written ws x)

  counted : (ws : List ℕ) → written_moved (old_table g) (new_table g) ws ≡ sum (both ws) g.header.buckets
  unfolding written_moved count table
  counted ws = refl

  moved_sum : moved_count g ≡ sum (λ x. bit (moves x)) g.header.buckets
  unfolding moved count table
  moved_sum = refl

  module _ (ws : List ℕ) where
    reply_accepted
        : count_refusal g ws ≡ 0 → count_reply g ws ≡ record { refusal = 0; count = written_moved (old_table g) (new_table g) ws }
    unfolding written_reply
    reply_accepted e = accepted _ _ _ e

    reply_refused : (count_refusal g ws ≡ 0 → ⊥) → count_reply g ws ≡ record { refusal = count_refusal g ws; count = 0 }
    unfolding written_reply
    reply_refused e = refused _ _ _ e

    both_most : written_moved (old_table g) (new_table g) ws ≤ moved_count g
    unfolding written_moved moved
    both_most = count_and moves (written ws) (old_table g).buckets

    both_all
        : ((x : ℕ) → Moves g x → written ws x ≡ true) → sum (both ws) g.header.buckets ≡ moved_count g
    unfolding bit
    both_all h =
        sum_ext (both ws) (λ x. bit (moves x)) g.header.buckets
        (λ x l.
        ⊎_elim
        (λ t. and_passed (moves x) (written ws x) t.0 ∙ ap bit (h x (l, t.0)) ∙ sym t.1)
        (λ f. and_failed (moves x) (written ws x) f.0 ∙ sym f.1)
        (bit_cases (moves x)))
        ∙ sym moved_sum

pub count_most : CountMost
count_most g ws =
    elim (ℕ_discrete (count_refusal g ws) 0) [
      | yes e ↦
          omega (arith, ap (λ (r : WrittenReply). r.count) (reply_accepted g ws e), both_most g ws)
      | no e ↦ omega (arith, ap (λ (r : WrittenReply). r.count) (reply_refused g ws e))
    ]

pub count_all_lem : CountAll
count_all_lem g ws e h =
    reply_accepted g ws e ∙ ap (λ n. record { refusal = 0; count = n }) (counted g ws ∙ both_all g ws h)

-- bits from B on are ignored
module _
    (g : Growth) (ws ws' : List ℕ) (l : g.header.buckets ≤ 64 * length ws) (l' : g.header.buckets ≤ 64 * length ws')
    (same : (x : ℕ) → x < g.header.buckets → written ws x ≡ written ws' x) where
  past_refusal : count_refusal g ws ≡ count_refusal g ws'
  unfolding written_refusal written_tests bits_short
  past_refusal =
      ap (λ few. first (table_tests g.header g.arrays ++ (growth_tests (old_table g) g.sizes ++ ((42, few) ∷ []))))
      (le-ltb (64 * length ws) g.header.buckets l ∙ sym (le-ltb (64 * length ws') g.header.buckets l'))

  past_count : written_moved (old_table g) (new_table g) ws ≡ written_moved (old_table g) (new_table g) ws'
  past_count =
      counted g ws
      ∙ sum_ext (both g ws) (both g ws') g.header.buckets (λ x b. ap (λ w. bit (moves g x and w)) (same x b))
      ∙ sym (counted g ws')

pub count_past : CountPast
unfolding written_reply
count_past g ws ws' l l' same = rw (past_refusal g ws ws' l l' same, past_count g ws ws' l l' same) refl

-- THE COPIES OF A WHOLE RUN

module _ (g : Growth) (wrote : ℕ → Bool) (content : ℕ → ℕ) (b : Stored) (start : Begun g wrote content b) where
  -- of the rows whose buckets are written
  abbrev row_bit : ℕ → ℕ
  row_bit q = bit (wrote (bucket_at g q))

  module _ (told : ℕ → Told) (tells : (i : ℕ) → Tells g wrote (told i)) where
    -- 1 for a call that copies
    abbrev call_bit : ℕ → ℕ
    call_bit i = bit (copies g (told i) (calls g told i b).mark)

    -- call i is at row i, up to the total
    mark_at : (i : ℕ) → (calls g told i b).mark ≡ min (total g) i
    mark_at i = omega (arith, calls_mark (begun start) told tells i, start.first)

    made_below : (i : ℕ) → i < total g → call_bit i ≡ row_bit i
    made_below i l =
        let same : (calls g told i b).mark ≡ i = omega (arith, mark_at i) in
        ap (λ m. bit (copies g (told i) m)) same ∙ ap bit (copies_written g wrote (told i) (tells i) i l)

    made_past : (i : ℕ) → total g ≤ i → call_bit i ≡ 0
    unfolding bit
    made_past i l = ap bit (copies_end g (told i) (calls g told i b).mark (omega (arith, mark_at i)))

    made : (k : ℕ) → total g ≤ k → copies_made g told k b ≡ sum row_bit (total g)
    unfolding copies_made count
    made k l =
        let all : total g + (k - total g) ≡ k = omega arith in
        omega (
          arith,
          ap (sum call_bit) all,
          sum_split call_bit (total g) (k - total g),
          sum_ext call_bit row_bit (total g) made_below,
          sum_zero (λ i. call_bit (total g + i)) (k - total g) (λ i _. made_past (total g + i) (omega arith)),
        )

  -- and of the moved buckets that are written
  rows_both
      : (ws : List ℕ) → Tells g wrote (bits ws) → sum row_bit (total g) ≡ sum (both g ws) g.header.buckets
  unfolding order is_written
  rows_both ws tells =
      ap (sum row_bit) (total_moved g)
      ∙ sym (sum_ranks (moves g) row_bit g.header.buckets)
      ∙ sum_ext (λ x. bit (moves g x) * row_bit (order g x)) (both g ws) g.header.buckets
      (λ x l.
      ⊎_elim
      (λ t.
      ap (λ n. n * row_bit (order g x)) t.1
      ∙ one-mul (row_bit (order g x))
      ∙ ap (λ y. bit (wrote y)) (bucket_of_lem g x (l, t.0))
      ∙ ap bit (sym (tells.same x l))
      ∙ sym (and_passed (moves g x) (written ws x) t.0))
      (λ f.
      ap (λ n. n * row_bit (order g x)) f.1
      ∙ zero-mul (row_bit (order g x))
      ∙ sym (and_failed (moves g x) (written ws x) f.0))
      (bit_cases (moves g x)))

pub count_copies_lem : CountCopies
count_copies_lem g wrote content b start told tells ws told₀ k l =
    let (ready, _, _) = accepted_ready g start.told b.words b.mark start.accepted in
    let checks : Checks g = ((sound_iff_lem g.header g.arrays).1 ready.sound, ready.asked) in
    reply_accepted g ws ((count_refused_lem g ws).1.1 (checks, told₀.enough))
    ∙ ap (λ n. record { refusal = 0; count = n })
    (counted g ws ∙ sym (rows_both g wrote content b start ws told₀) ∙ sym (made g wrote content b start told tells k l))
