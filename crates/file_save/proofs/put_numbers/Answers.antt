use mathlib.Core.Path.{◌∙◌, ap}
use native.Mathlib.Nat.{le_refl}
use lib.ListN.{length, take}
use lib.Seq.{sets, length-take-le, take_all}
use Rattle.model.proofs.Bytes.{bytes_of_all}
use Rattle.model.proofs.Tables.{taken}
use Rattle.file_save.proofs.put_numbers.Goals as goal

pub returns : goal.returns
returns c =
    let xs = c.args.xs.now in
    c.put_each-2.ensures
    ∙ ap (λ l. sets c.args.out.now c.args.at (bytes_of_all l))
    (taken (take (length xs) xs) _ _ (length xs) c.copy.ensures (length-take-le (length xs) xs (le_refl _)) ∙ take_all (length xs) xs (le_refl _))
