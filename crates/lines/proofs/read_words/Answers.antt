-- What a line says, by its parts as they are found.
use Rattle.std.proofs.Common.{sym, ◌∙◌, arith, length-take-le}
use Rattle.model.specs.Console.{text}
use Rattle.lines.proofs.Reading.{first, second, third, read_moves}
use Rattle.lines.proofs.Reading.{read_no_second, read_where, read_no_third, read_two, read_more}
use Rattle.lines.proofs.read_words.Goals as goal

pub slice_bounds-word-end : goal.slice_bounds-word-end
slice_bounds-word-end c =
    let f = first _ _ c.requires c.place_of-end.ensures in
    sym (length-take-le c.place_of-end.result c.args.line.now f.within)

pub returns-then-end-line : goal.returns-then-end-line
unfolding text
returns-then-end-line c =
    rw c.then_some.ensures (read_moves (first _ _ c.requires c.place_of-end.ensures) c.if-end-line.true _ c.is_word.ensures)

pub overflow_add-end : goal.overflow_add-end
overflow_add-end c = let f = first _ _ c.requires c.place_of-end.ensures in omega (arith, f)

pub number-requires : goal.number-requires
number-requires c = let f = first _ _ c.requires c.place_of-end.ensures in omega (arith, f)

pub returns-in_err-first : goal.returns-in_err-first
returns-in_err-first c =
    rw c.from_residual.ensures
    (read_no_second (first _ _ c.requires c.place_of-end.ensures) c.if-end-line.false (sym c.number.ensures ∙ c.in_err-first.was))

pub returns-then-first-line : goal.returns-then-first-line
unfolding text
returns-then-first-line c =
    let one = first _ _ c.requires c.place_of-end.ensures in
    let two = second one c.if-end-line.false _ _ (sym c.number.ensures ∙ c.in_ok-first.was) in
    rw c.then_some-then-first-line.ensures (read_where two c.if-first-line.true _ c.is_word-then-first-line.ensures)

pub overflow_add-first : goal.overflow_add-first
overflow_add-first c =
    let one = first _ _ c.requires c.place_of-end.ensures in
    let two = second one c.if-end-line.false _ _ (sym c.number.ensures ∙ c.in_ok-first.was) in
    omega (arith, two.number.within)

pub number-requires-2 : goal.number-requires-2
number-requires-2 c =
    let one = first _ _ c.requires c.place_of-end.ensures in
    let two = second one c.if-end-line.false _ _ (sym c.number.ensures ∙ c.in_ok-first.was) in
    omega (arith, two.number.within)

pub returns-in_err-second : goal.returns-in_err-second
returns-in_err-second c =
    let one = first _ _ c.requires c.place_of-end.ensures in
    let two = second one c.if-end-line.false _ _ (sym c.number.ensures ∙ c.in_ok-first.was) in
    rw c.from_residual-in_err-second.ensures
    (read_no_third two c.if-first-line.false (sym c.number-2.ensures ∙ c.in_err-second.was))

pub returns-then-second-line : goal.returns-then-second-line
returns-then-second-line c =
    let one = first _ _ c.requires c.place_of-end.ensures in
    let two = second one c.if-end-line.false _ _ (sym c.number.ensures ∙ c.in_ok-first.was) in
    let three = third two c.if-first-line.false _ _ (sym c.number-2.ensures ∙ c.in_ok-second.was) in
    read_more three c.if-second-line.true

pub returns : goal.returns
returns c =
    let one = first _ _ c.requires c.place_of-end.ensures in
    let two = second one c.if-end-line.false _ _ (sym c.number.ensures ∙ c.in_ok-first.was) in
    let three = third two c.if-first-line.false _ _ (sym c.number-2.ensures ∙ c.in_ok-second.was) in
    c.with_two.ensures ∙ read_two three c.if-second-line.false
