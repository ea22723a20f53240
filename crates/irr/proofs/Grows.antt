-- Laws of a growth's reply. Assumes nothing.
use Prim.Native.Nat.{ℕ}
use mathlib.Core.Path.{◌≡◌, sym, ◌∙◌, ap}
use mathlib.Core.Bool.{true, false}
use mathlib.Core.List.{[], ◌∷◌, ◌++◌, append_assoc}
use Rattle.model.specs.Basics.{if◌then◌otherwise◌}
use Rattle.model.specs.Table.{Shape, Arrays, table}
use Rattle.model.specs.Refusal.{first, room_short, intervals_full}
use Rattle.model.specs.Expansion.{expanded, moved}
use Rattle.model.specs.Calls.{
  answer,
  no_header,
  table_tests,
  growth_tests,
  table_reply,
  arrays_after,
  expand_refusal,
  expand_reply,
  expand_arrays,
}
use Rattle.model.specs.declared.table.Header.{Header}
use Rattle.model.specs.declared.reply.TableReply.{TableReply}
use Rattle.model.proofs.Refusals.{first_skip, refused}
use Rattle.expansion.specs.Replies.{grow_refusal, GrowReply}
use Rattle.model.proofs.Checked.{stands, passed}

abbrev refusal : ℕ → TableReply
refusal r = record { refusal = r; moved = 0; header = no_header }

module _ (h : Header) (a : Arrays) (s : Shape) (out : Arrays) where
  -- refused by the room lent
  pub expand_short
      : room_short out ≡ true → (refusal 21 ≡ expand_reply h a s out) × (out ≡ expand_arrays h a s out)
  unfolding expand_reply expand_arrays expand_refusal table_reply arrays_after answer if◌then◌otherwise◌ first
  expand_short w = (rw w, rw w)

  module _ (long : room_short out ≡ false) (r : ℕ) (e : r ≡ first (table_tests h a)) where
    later : expand_refusal h a s out ≡ first (table_tests h a ++ (growth_tests (table h a) s ++ ((8, intervals_full (table h a) s) ∷ [])))
    unfolding expand_refusal
    later =
        first_skip (21, room_short out) _ long
        ∙ ap first (append_assoc (table_tests h a) (growth_tests (table h a) s) ((8, intervals_full (table h a) s) ∷ []))

    -- refused by the table's tests
    pub expand_refused : (r ≡ 0 → ⊥) → (refusal r ≡ expand_reply h a s out) × (out ≡ expand_arrays h a s out)
    unfolding expand_reply expand_arrays table_reply arrays_after
    expand_refused n =
        let same : expand_refusal h a s out ≡ r = later ∙ sym (stands h a r e _ n) in
        (rw same (sym (refused r _ _ n)), rw same (sym (refused r _ _ n)))

    -- otherwise what the sound table gives
    pub expand_accepted
        : (reply : TableReply) (left : Arrays) → r ≡ 0 → GrowReply (table h a) s out left reply
        → (reply ≡ expand_reply h a s out) × (left ≡ expand_arrays h a s out)
    unfolding expand_reply expand_arrays
    expand_accepted reply left z g =
        let same : grow_refusal (table h a) s ≡ expand_refusal h a s out = passed h a r e _ z ∙ sym later in (
          g.reply ∙ ap (λ r. table_reply r (moved (table h a) (expanded (table h a) s)) (expanded (table h a) s)) same,
          g.lent ∙ ap (λ r. arrays_after r (expanded (table h a) s) out) same,
        )
