use Rattle.std.proofs.Common.{rules, tests, ltb}
use Rattle.std.proofs.lemmas.Iterator.{YieldsList-from_slice}
use Rattle.std.proofs.lemmas.Iterator.Search.{position_from_yields_List}
use Rattle.lookup.proofs.Finding.{block_first}
use Rattle.lookup.proofs.block_of_bin.Goals as goal

pub returns : goal.returns
returns c =
    let first =
    position_from_yields_List (ltb c.args.bin) _ _ _ c.position.ensures.ran (YieldsList-from_slice c.args.tops.now cc)
    (λ x b q k. search (rules, tests)) in
    rw (c.unwrap_or.ensures, first) (block_first _ _)
