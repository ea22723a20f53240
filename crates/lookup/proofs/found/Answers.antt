use Prim.Native.Nat.{◌+◌, ◌-◌}
use mathlib.Core.Path.{◌≡◌, ◌∙◌, ap}
use native.Mathlib.Omega.{arith}
use Rattle.model.specs.Limits.{label}
use Rattle.model.specs.Search.{found_at}
use Rattle.lookup.proofs.Finding.{bin_refused, label_refused, bin_accepted}
use Rattle.lookup.proofs.found.Goals as goal

pub returns-then-bins-bin : goal.returns-then-bins-bin
returns-then-bins-bin c = bin_refused _ _ _ _ c.bins.ensures c.if-bins-bin.true

pub returns-then-position-lt-LABEL : goal.returns-then-position-lt-LABEL
returns-then-position-lt-LABEL c =
    label_refused _ _ _ (omega (arith, c.if-position-lt-LABEL.true)) ∙ bin_accepted _ _ _ _ c.bins.ensures c.if-bins-bin.false

pub returns : goal.returns
returns c =
    let whole : c.args.position - label + label ≡ c.args.position = omega (arith, c.if-position-lt-LABEL.false) in
    c.bucket_at.ensures ∙ ap (found_at _ _) whole ∙ bin_accepted _ _ _ _ c.bins.ensures c.if-bins-bin.false
