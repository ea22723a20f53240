use Rattle.std.proofs.Common.{◌≡◌, ℕ, ◌+◌, ◌<◌, List, [], ◌++◌, length, get_or, take, arith, rules, zero-add, ap}
use Rattle.std.specs.Prelude.{flat_map}
use Rattle.std.specs.List.{enumerate_from}
use Rattle.std.proofs.lemmas.List.{take_more, flat_map_more, take_all}
use Rattle.std.proofs.lemmas.List.FromFn.{length-enumerate_from, get_or-enumerate_from}
use Rattle.std.proofs.Output.{has_written_append, has_written_of_eq}
use Rattle.cut_tests.specs.Text.{refusal_text}
use Rattle.cut_tests.proofs.print.RefusalsDisplay.fmt.Goals as goal

-- the lines of the first i counts
lines : List ℕ → ℕ → List ℕ
lines counts i = flat_map (λ entry. refusal_text entry.0 entry.1) (take i (enumerate_from 0 counts))

-- one line more
lines_more : (counts : List ℕ) (i : ℕ) → i < length counts →
    lines counts i ++ refusal_text i (get_or counts i 0) ≡ lines counts (i + 1)
unfolding lines
lines_more counts i h =
    let entries = enumerate_from 0 counts in
    let inside : i < length entries = rw length-enumerate_from h in
    rw
    (take_more entries i (0, 0) inside, get_or-enumerate_from 0 counts i (0, 0) h, zero-add)
    (flat_map_more (λ entry. refusal_text entry.0 entry.1) [] (take i entries) (i, get_or counts i 0))

pub loop-number-preserved : goal.loop-number-preserved
unfolding lines
loop-number-preserved g c =
    let counts = c.args.self.now.0 in
    let i = c.loop-number.number in
    λ p.
    has_written_of_eq
    _
    _
    _
    _
    _
    (lines_more counts i (omega arith))
    (has_written_append _ _ _ _ (refusal_text i (get_or counts i 0)) _ (c.loop-number.invariant p) (search rules))

pub returns-clause-writes : goal.returns-clause-writes
returns-clause-writes g c =
    let counts = c.args.self.now.0 in
    λ p q.
    has_written_of_eq
    _
    _
    _
    _
    _
    (ap (flat_map (λ entry. refusal_text entry.0 entry.1)) (take_all c.loop-number.number (enumerate_from 0 counts) (rw length-enumerate_from (omega arith))))
    (c.loop-number.invariant p)
