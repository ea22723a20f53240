use native.Mathlib.Nat.{sub-zero}
use native.Mathlib.Omega.{arith}
use Rattle.model.specs.Table.{first_bin, block_bins}
use Rattle.lookup.proofs.place_in.Goals as goal

pub placing_of-requires : goal.placing_of-requires
unfolding first_bin
placing_of-requires c = omega (arith, c.requires)

pub slot_of-requires : goal.slot_of-requires
unfolding first_bin
slot_of-requires c =
    rw c.placing_of.ensures.value
    (record {
      some = omega (arith, c.requires);
      fits = omega (arith, c.type_inv.tops c.args.block);
      ranked = omega arith;
      limit = c.requires.2;
    })

pub returns : goal.returns
unfolding first_bin block_bins
returns c = rw (c.slot_of.ensures, c.placing_of.ensures.value, sub-zero c.args.rank)
