use Prim.Native.Nat.{ℕ, ◌+◌, ◌-◌, ◌*◌, ◌/◌, ◌≤◌}
use Rattle.std.proofs.Common.{◌≡◌, ap, arith, List, length, take, drop, length-take, length-drop}
use Rattle.model.specs.Basics.{count}
use Rattle.model.proofs.Counts.{count_most, count_mono}
use Rattle.written.specs.Written.{written}
use Rattle.written.proofs.Bits.{counted}
use Rattle.written.proofs.among.Goals as goal

-- i of the words from word q up to word r
passed
    : (bits : List ℕ) (q r i : ℕ) → q ≤ r → r ≤ length bits → i ≤ length (take (r - q) (drop q bits)) → q + i ≤ r
passed bits q r i h k l = omega (arith, length-take (r - q) (drop q bits), length-drop q bits)

-- and all of them
ended
    : (bits : List ℕ) (q r i : ℕ) → q ≤ r → r ≤ length bits → i ≤ length (take (r - q) (drop q bits))
    → length (take (r - q) (drop q bits)) ≤ i → count (written bits) (64 * (q + i)) ≡ count (written bits) (64 * r)
ended bits q r i h k l m =
    let same : q + i ≡ r = omega (arith, length-take (r - q) (drop q bits), length-drop q bits) in
    ap (λ w. count (written bits) (64 * w)) same

pub overflow_add-n : goal.overflow_add-n
overflow_add-n c =
    let bits = c.args.bits.now in
    let q = c.args.a / 64 in
    let i = c.loop-word.word-index in
    let next = passed bits q (c.args.b / 64) (i + 1) (omega arith) (omega arith) (omega (arith, c.loop-word-test.true)) in
    omega (
      arith,
      counted bits q (c.args.b / 64 - q) i c.loop-word-test.true (c.type_inv.bits (q + i)).fits,
      c.loop-word.invariant,
      count_most (written bits) (64 * (q + (i + 1))),
      next,
    )

pub loop-word-preserved : goal.loop-word-preserved
loop-word-preserved c =
    let bits = c.args.bits.now in
    let q = c.args.a / 64 in
    let i = c.loop-word.word-index in
    omega (arith, counted bits q (c.args.b / 64 - q) i c.loop-word-test.true (c.type_inv.bits (q + i)).fits, c.loop-word.invariant)

pub overflow_add-result : goal.overflow_add-result
overflow_add-result c =
    let bits = c.args.bits.now in
    let all = ended bits (c.args.a / 64) (c.args.b / 64) _ (omega arith) (omega arith) c.loop-word.auto.word-index-end c.loop-word-test.false in
    omega (arith, all, c.loop-word.invariant, c.below-tail.ensures, count_most (written bits) c.args.b)

pub overflow_sub-result : goal.overflow_sub-result
overflow_sub-result c =
    let bits = c.args.bits.now in
    let all = ended bits (c.args.a / 64) (c.args.b / 64) _ (omega arith) (omega arith) c.loop-word.auto.word-index-end c.loop-word-test.false in
    omega (arith, all, c.loop-word.invariant, c.below-head.ensures, c.below-tail.ensures, count_mono (written bits) c.args.a c.args.b (omega arith))

pub returns : goal.returns
returns c =
    let bits = c.args.bits.now in
    let all = ended bits (c.args.a / 64) (c.args.b / 64) _ (omega arith) (omega arith) c.loop-word.auto.word-index-end c.loop-word-test.false in
    omega (arith, all, c.loop-word.invariant, c.below-head.ensures, c.below-tail.ensures, count_mono (written bits) c.args.a c.args.b (omega arith))
