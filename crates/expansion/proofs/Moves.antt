-- Laws of the move list's reply. Assumes nothing.
use Prim.Native.Nat.{ℕ, ◌≤◌, ◌<◌}
use mathlib.Core.Path.{◌≡◌, sym, ◌∙◌}
use mathlib.Core.List.{List}
use lib.ListN.{length}
use borrow.Author.Tests.{lt-ltb, le-ltb}
use Rattle.model.specs.Basics.{if◌then◌otherwise◌, joined}
use Rattle.model.specs.Table.{Shape, Table, over}
use Rattle.model.specs.Refusal.{first}
use Rattle.model.specs.Expansion.{expanded}
use Rattle.model.specs.Relocations.{rows, page}
use Rattle.model.specs.Calls.{answer, growth_tests, order_tests, relocations_answer, buffer_after}
use Rattle.model.proofs.Refusals.{first_found, first_after, refused}
use Rattle.model.proofs.Soundness.{growth_numbered}
use Rattle.expansion.specs.Replies.{moves_refusal, MovesReply}

module _ (t : Table) (s : Shape) (q : ℕ) (buffer : List ℕ) (r : ℕ) (e : r ≡ first (growth_tests t s)) where
  -- refused by rules 1 to 5
  pub moves_refused : (r ≡ 0 → ⊥) → MovesReply t s q buffer buffer (record { refusal = r; written = 0; total = 0 })
  unfolding relocations_answer buffer_after
  moves_refused n =
      let same : moves_refusal t s q ≡ r = first_found (growth_tests t s) _ (λ z. n (e ∙ z)) ∙ sym e in
      record { reply = rw same (sym (refused r _ _ n)); lent = rw same (sym (refused r _ _ n)) }

  next : r ≡ 0 → moves_refusal t s q ≡ first (order_tests (rows t (expanded t s)) q)
  next z = first_after (growth_tests t s) _ (growth_numbered t s) (sym e ∙ z)

  -- refused by 9
  pub moves_past
      : r ≡ 0 → length (rows t (expanded t s)) < q
      → MovesReply t s q buffer buffer (record { refusal = 9; written = 0; total = 0 })
  unfolding relocations_answer buffer_after order_tests first answer if◌then◌otherwise◌
  moves_past z l =
      let w = lt-ltb (length (rows t (expanded t s))) q l in
      record { reply = rw (next z, w); lent = rw (next z, w) }

  -- accepted
  pub moves_accepted
      : (written total : ℕ) (left : List ℕ) → r ≡ 0 → q ≤ length (rows t (expanded t s))
      → written ≡ length (page q (length buffer) (rows t (expanded t s))) → total ≡ length (rows t (expanded t s))
      → left ≡ over (joined (page q (length buffer) (rows t (expanded t s)))) buffer
      → MovesReply t s q buffer left (record { refusal = 0; written = written; total = total })
  unfolding relocations_answer buffer_after order_tests first answer if◌then◌otherwise◌
  moves_accepted written total left z l a b c =
      let w = le-ltb (length (rows t (expanded t s))) q l in
      record { reply = rw (next z, w, a, b); lent = rw (next z, w, c) }
