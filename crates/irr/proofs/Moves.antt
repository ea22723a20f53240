-- Laws of the move list's reply. Assumes nothing.
use Prim.Native.Nat.{ℕ}
use mathlib.Core.Path.{◌≡◌, sym, ◌∙◌, ap}
use mathlib.Core.List.{List}
use Rattle.model.specs.Table.{Shape, Arrays, table}
use Rattle.model.specs.Refusal.{first}
use Rattle.model.specs.Expansion.{expanded}
use Rattle.model.specs.Relocations.{rows}
use Rattle.model.specs.Calls.{table_tests, relocations_answer, buffer_after, rows_of, relocations_refusal, relocations_reply, relocations_rows}
use Rattle.model.specs.declared.table.Header.{Header}
use Rattle.model.specs.declared.reply.RelocationsReply.{RelocationsReply}
use Rattle.model.proofs.Refusals.{refused}
use Rattle.expansion.specs.Replies.{MovesReply}
use Rattle.model.proofs.Checked.{stands, passed}

module _ (h : Header) (a : Arrays) (r : ℕ) (e : r ≡ first (table_tests h a)) (s : Shape) (q : ℕ) (buffer : List ℕ) where
  -- refused by the table's tests
  pub list_refused
      : (r ≡ 0 → ⊥)
      → (record { refusal = r; written = 0; total = 0 } ≡ relocations_reply h a s q buffer)
      × (buffer ≡ relocations_rows h a s q buffer)
  unfolding relocations_reply relocations_rows relocations_refusal relocations_answer buffer_after
  list_refused n = (rw (← stands h a r e _ n) (sym (refused r _ _ n)), rw (← stands h a r e _ n) (sym (refused r _ _ n)))

  -- otherwise what the sound table gives
  pub list_accepted
      : (reply : RelocationsReply) (left : List ℕ) → r ≡ 0 → MovesReply (table h a) s q buffer left reply
      → (reply ≡ relocations_reply h a s q buffer) × (left ≡ relocations_rows h a s q buffer)
  unfolding relocations_reply relocations_rows relocations_refusal rows_of
  list_accepted reply left z m = (
    m.reply ∙ ap (λ r. relocations_answer r (rows (table h a) (expanded (table h a) s)) q buffer) (passed h a r e _ z),
    m.lent ∙ ap (λ r. buffer_after r (rows (table h a) (expanded (table h a) s)) q buffer) (passed h a r e _ z),
  )
