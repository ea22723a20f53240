use Rattle.std.proofs.Common.{◌≡◌, ◌+◌, ◌-◌, ◌∙◌, ap, arith, rules, length, replicate, take, drop, length-take, length-drop}
use Prim.Native.Nat.{ℕ}
use Rattle.model.specs.Sheet.{blanks}
use Rattle.digits.proofs.Stores.{part_stored}
use Rattle.fields.proofs.put_blanks.Goals as goal

pub returns : goal.returns
returns c =
    let out = c.args.out.now in
    let at = c.args.at in
    let rest = drop at out in
    let ten : length (take (at + 10 - at) rest) ≡ 10 = omega (arith, length-take (at + 10 - at) rest, length-drop at out) in
    let filled : c.fill.new.self ≡ blanks 10 = c.fill.ensures.after (λ y k. search rules) ∙ ap (λ (n : ℕ). replicate n 32) ten in
    rw filled (part_stored out (blanks 10) at (at + 10 - at) (omega arith) c.requires)
