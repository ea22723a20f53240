-- The halves, the pairs and the digits of a number stand side by side in a word.
use Rattle.std.proofs.Common.{◌≡◌, ◌/◌, ◌%◌, ◌++◌, ◌∙◌, arith}
use Rattle.digits.specs.Parts.{four_of}
use Rattle.digits.proofs.Stores.{part_stored}
use Rattle.digits.proofs.Lanes.{text_bytes}
use Rattle.digits.proofs.put_digits.Goals as goal

pub returns : goal.returns
returns c =
    let n = c.args.n in
    let bytes = rw (c.from.ensures, c.from-2.ensures) at c.to_be_bytes.ensures in
    let stored : c.copy_from_slice.new.self ≡ four_of (n / 10_000) ++ four_of (n % 10_000) =
    c.copy_from_slice.ensures.after ∙ bytes ∙ text_bytes n c.requires.below
    in
    rw stored (part_stored c.args.out.now (four_of (n / 10_000) ++ four_of (n % 10_000)) c.args.at _ (omega arith) c.requires.room)
