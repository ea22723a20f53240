use Rattle.std.proofs.Common.{◌+◌, ◌/◌, ◌%◌, ◌++◌, [], ◌∷◌, ◌∙◌, ap, refl, arith}
use lib.Seq.{sets}
use Rattle.model.proofs.Entries.{put_none, put_more}
use Rattle.digits.specs.Parts.{four_of}
use Rattle.fields.proofs.Fields.{nine_field}
use Rattle.fields.proofs.put_nine.Goals as goal

pub returns : goal.returns
returns c =
    let n = c.args.n in
    let at = c.args.at in
    let one = put_more (put_none at c.args.out.now) {o' = at + 1} (32 ∷ []) refl refl in
    let two = put_more one {o' = at + 2} ((48 + n / 100_000_000) ∷ []) refl (omega arith) in
    let all =
    put_more two {o' = at + 10} (four_of (n % 100_000_000 / 10_000) ++ four_of (n % 100_000_000 % 10_000)) c.put_digits.ensures (omega arith)
    in
    all.holds ∙ ap (sets c.args.out.now at) (nine_field n c.requires.many c.requires.few)
