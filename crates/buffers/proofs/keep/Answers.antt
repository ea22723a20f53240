use Rattle.std.proofs.Common.{ℕ, ◌∙◌, ap}
use Rattle.buffers.specs.declared.Machine.{Machine}
use Rattle.buffers.proofs.Receiving.{kept_length, kept_over}
use Rattle.buffers.proofs.keep.Goals as goal

-- a machine with as many bytes at the front
abbrev with_size : Machine → ℕ → Machine
with_size m n = record { listing = m.listing; from = 0; size = n }

pub returns : goal.returns
returns c =
    let m = c.args.m in
    record {
      value = ap (with_size m) (kept_length m.from m.size _ c.args.block.now c.requires.0 c.requires.1 c.min-kept.ensures);
      block_after = c.copy_within.ensures.after ∙ kept_over m.from m.size _ c.args.block.now c.requires.0 c.requires.1 c.min-kept.ensures;
    }
