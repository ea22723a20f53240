-- The answers of rules 12 to 16 and of the check, by what the functions of the rules answer. Assumes nothing.
use Rattle.std.proofs.Common.{◌≡◌, ℕ, Bool, true, false, List, [], ◌∷◌, ◌++◌, sym, ap, ◌∙◌}
use Rattle.model.specs.Table.{Arrays, arrays}
use Rattle.model.specs.Refusal.{first, header_outside, arrays_short, holdings_wrong, adjustments_wrong, capacity_wrong}
use Rattle.model.specs.Calls.{table_tests}
use Rattle.model.specs.Results.{number}
use Rattle.model.specs.declared.refusal.Refusal.{Refusal}
use Rattle.model.specs.declared.table.Header.{Header}
use Rattle.model.proofs.Refusals.{or_both, first_none, first_here, first_skip, first_after}
use Rattle.model.proofs.Results.{refused_first}
use Rattle.model.proofs.Holdings.{holdings_same, adjustments_same}
use Rattle.soundness.specs.Passed.{layout_tests, rule_tests}
use Rattle.soundness.proofs.Passed.{layout_after, rules_numbered}

module _ (h : Header) (tops ends blocks adjustments : List ℕ) where
  -- one of rules 12 to 14 is broken
  pub judged_layout
      : (r : Refusal) → number r ≡ first (layout_tests h tops ends blocks)
      → number r ≡ first (rule_tests h (arrays tops ends blocks adjustments))
  unfolding rule_tests
  judged_layout r e = refused_first r _ _ e

  -- none is: w says whether an adjustment is wrong
  module _
      (clear : first (layout_tests h tops ends blocks) ≡ 0) (w : Bool)
      (said : w ≡ adjustments_wrong h (arrays [] ends blocks adjustments))
    where
      later
          : first (rule_tests h (arrays tops ends blocks adjustments))
          ≡ first ((15, holdings_wrong h (arrays tops ends blocks [])) ∷ (16, w) ∷ [])
      unfolding rule_tests
      later =
          layout_after h tops ends blocks _ clear
          ∙ (λ i.
          first
          ((15, holdings_same h ends blocks tops adjustments [] i)
          ∷ (16, sym (said ∙ adjustments_same h ends blocks [] tops adjustments) i)
          ∷ []))

      pub judged_adjustments
          : w ≡ true → (r : ℕ) → r ≡ first ((15, holdings_wrong h (arrays tops ends blocks [])) ∷ (16, true) ∷ [])
          → r ≡ first (rule_tests h (arrays tops ends blocks adjustments))
      judged_adjustments t r e =
          e ∙ ap (λ v. first ((15, holdings_wrong h (arrays tops ends blocks [])) ∷ (16, v) ∷ [])) (sym t) ∙ sym later

      -- v says whether a block holds another number than its due
      module _ (v : Bool) (held : v ≡ holdings_wrong h (arrays tops ends blocks [])) where
        pub judged_holdings : v ≡ true → 15 ≡ first (rule_tests h (arrays tops ends blocks adjustments))
        judged_holdings t = sym (later ∙ first_here _ _ (sym held ∙ t))

        pub judged_formed : w ≡ false → v ≡ false → 0 ≡ first (rule_tests h (arrays tops ends blocks adjustments))
        judged_formed f g = sym (later ∙ first_skip _ _ (sym held ∙ g) ∙ first_skip _ _ f ∙ first_none)

-- THE ANSWER OF THE CHECK, where rule 11 is passed

module _ (h : Header) (a : Arrays) (inside : header_outside h ≡ false) (long : arrays_short h a ≡ false) where
  after_sizes : first (table_tests h a) ≡ first (rule_tests h a ++ ((30, capacity_wrong h a) ∷ []))
  unfolding table_tests rule_tests layout_tests
  after_sizes = first_skip _ _ (or_both _ _ inside long)

  -- one of rules 12 to 16 is broken
  pub table_refused : (r : Refusal) → number r ≡ first (rule_tests h a) → number r ≡ first (table_tests h a)
  table_refused r e = refused_first r _ _ e ∙ sym after_sizes

  -- none is: 30 answers
  pub table_last : first (rule_tests h a) ≡ 0 → first (table_tests h a) ≡ first ((30, capacity_wrong h a) ∷ [])
  table_last clear = after_sizes ∙ first_after _ _ (rules_numbered h a) clear
