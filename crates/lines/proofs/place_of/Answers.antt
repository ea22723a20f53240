use Rattle.std.proofs.Common.{drop, eqb, ◌∙◌, rules, tests, arith, length-drop}
use lib.Seq.{take_all}
use Rattle.std.proofs.lemmas.Iterator.{YieldsList-from_slice}
use Rattle.std.proofs.lemmas.Iterator.Search.{position_from_yields_List}
use Rattle.lines.proofs.Spans.{Searched, searched_some, searched_none}
use Rattle.lines.proofs.place_of.Goals as goal

pub returns-in-Some : goal.returns-in-Some
returns-in-Some c =
    let rest = drop c.args.from c.args.text.now in
    let searched : Searched c.args.e rest c.position.result =
    position_from_yields_List (λ x. eqb x c.args.e) _ _ c.position.result c.position.ensures.ran (YieldsList-from_slice rest
    (c.iter.ensures.rest ∙ take_all _ rest (omega (arith, length-drop c.args.from c.args.text.now))))
    (λ x b q k. search (rules, tests))
    in
    omega (arith, searched_some _ rest _ _ searched c.in-Some.is)

pub returns-in-None : goal.returns-in-None
returns-in-None c =
    let rest = drop c.args.from c.args.text.now in
    let searched : Searched c.args.e rest c.position.result =
    position_from_yields_List (λ x. eqb x c.args.e) _ _ c.position.result c.position.ensures.ran (YieldsList-from_slice rest
    (c.iter.ensures.rest ∙ take_all _ rest (omega (arith, length-drop c.args.from c.args.text.now))))
    (λ x b q k. search (rules, tests))
    in
    omega (arith, searched_none _ rest _ searched c.in-None.is, length-drop c.args.from c.args.text.now)
