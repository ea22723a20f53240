-- `table::slot_by` meets its contract: the quotient and the label are the position, and what is left of the rank the bin. Assumes nothing.
use Prim.Native.Nat.{ℕ, ◌+◌, ◌-◌, ◌*◌, ◌/◌, ◌%◌}
use mathlib.Core.Path.{◌≡◌, sym, ◌∙◌, ap, ap₂}
use native.Mathlib.Nat.{div-add-mod', mod-lt, div-le_self}
use native.Mathlib.Omega.{arith}
use Rattle.model.specs.Limits.{label}
use borrow.Author.Rules.{rules}
use Rattle.table.proofs.slot_by.Statement.{statement}
use Rattle.table.proofs.slot_by.Tie as tie

sub-rank : tie.Need-overflow_sub-rank
sub-rank c = search rules

quotient-requires : tie.Need-quotient-turns-requires
quotient-requires c κs = (omega (arith, c.before.requires.0.limit), (c.before.args.placing.bins, c.before.requires.1))

-- the quotient is that by the bins, and the rank less its multiple what remains
module _ (c : tie.After-quotient-turns) where
  abbrev rank : ℕ
  rank = c.before.before.args.bucket - c.before.before.args.placing.adjustment

  abbrev bins : ℕ
  bins = c.before.before.args.placing.bins

  turns : c.quotient-turns.result ≡ rank / bins
  turns = c.quotient-turns.ensures bins c.before.before.requires.1

  rest : rank ≡ c.quotient-turns.result * bins + rank % bins
  rest = sym (ap (λ q. q * bins + rank % bins) turns ∙ div-add-mod' rank bins)

mul-t6 : tie.Need-overflow_mul-result
mul-t6 c = omega (arith, rest c.before)

sub-t7 : tie.Need-overflow_sub-result
sub-t7 c = omega (arith, rest c.before)

add-t8 : tie.Need-overflow_add-result
add-t8 c =
    let q = c.before.before in
    omega (arith, rest q, mod-lt (rank q) q.before.before.requires.0.some, q.before.before.requires.0.fits)

add-t9 : tie.Need-overflow_add-result-2
add-t9 c =
    let q = c.before.before in
    omega (arith, turns q, div-le_self (rank q) (bins q), q.before.before.requires.0.limit)

returns : tie.Need-returns
returns c =
    let q = c.before.before in
    let left : rank q - q.quotient-turns.result * bins q ≡ rank q % bins q = omega (arith, rest q) in
    ap₂ (λ y p. record { bin = q.before.before.args.placing.first + y; position = p + label }) left (turns q)

pub slot_by_spec : {M : Type 1} → statement M
slot_by_spec = tie.close (tie.spec
    sub-rank
    quotient-requires
    mul-t6
    sub-t7
    add-t8
    add-t9
    returns)
