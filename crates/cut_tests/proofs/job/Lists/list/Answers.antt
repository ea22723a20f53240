use Rattle.std.proofs.Common.{◌≡◌, ◌≢◌, ℕ, ◌<◌, ◌+◌, List, [], length, get_or, set, arith, get_or-set_other, get_or-set_same, inl, inr, subst}
use Rattle.std.proofs.lemmas.Bool.{cases_lt}
use Rattle.std.proofs.lemmas.List.{length-set, get_or_default}
use Rattle.cut_tests.specs.declared.job.Row.{Row}
use Rattle.cut_tests.specs.Rows.{IsRow}
use Rattle.cut_tests.proofs.job.Lists.list.Goals as goal
use Rattle.cut_tests.proofs.job.Lists.list.Goals.{then-at-lt-ROWS, else-at-lt-ROWS}

-- one row more is stored
stored : (p : ℕ) (all : List (List ℕ)) (rows : List Row) (i : ℕ) (r : Row) (five : List ℕ) (row : Row) →
    i < length rows → IsRow p (get_or all i five) r → (k : ℕ) → k < i + 1 →
    (k < i → IsRow p (get_or all k five) (get_or rows k row)) → IsRow p (get_or all k five) (get_or (set rows i r) k row)
stored p all rows i r five row inside new k below old =
    elim (cases_lt k i) [
      | inl h ↦ let other : k ≢ i = omega arith in rw get_or-set_other (old h)
      | inr h ↦ let same : k ≡ i = omega arith in rw (same, get_or-set_same) new
    ]

pub loop-at-preserved : goal.loop-at-preserved
loop-at-preserved g c =
    let before = c.loop-at.invariant in
    let rows = c.loop-at.self.rows in
    let all = c.rows_of-numbers-items.result.now in
    elim c.if-at-lt-ROWS.branch [
      | then-at-lt-ROWS w ↦
          let inside : c.loop-at.at < length rows = omega (arith, before.0, w.if-at-lt-ROWS.true) in
          let made = λ (five : List ℕ). subst (λ (numbers : List ℕ). IsRow c.args.capacity numbers w.new.result) (get_or_default all c.loop-at.at [] five (c.loop-at-test.true)) w.new.ensures in
          rw
          w.self-is (
            rw length-set before.0,
            λ k five row below within.
                stored c.args.capacity all rows c.loop-at.at w.new.result five row inside (made five) k below (λ h. before.1 k five row h within),
            before.2,
          )
      | else-at-lt-ROWS w ↦
          rw w.self-is (before.0, λ k five row below within. before.1 k five row (omega (arith, within, w.if-at-lt-ROWS.false)) within, before.2)
    ]

pub returns-clause-rows : goal.returns-clause-rows
returns-clause-rows g c =
    let rows = c.loop-at.self.rows in
    λ k five row below within.
    subst
    (λ (all : List (List ℕ)). k < length all → IsRow c.args.capacity (get_or all k five) (get_or rows k row))
    c.rows_of-numbers-items.ensures
    (λ h. c.loop-at.invariant.1 k five row (omega (arith, h)) (omega (arith, within, c.loop-at.invariant.0)))
    below
