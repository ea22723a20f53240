use Rattle.std.proofs.Common.{◌≡◌, ◌+◌, ◌-◌, ◌++◌, ◌∙◌, sym, ap, arith, List, take, drop, append_assoc}
use Prim.Native.Nat.{ℕ}
use lib.Seq.{sets-eq, drop-drop}
use Rattle.model.specs.Saved.{bytes_of}
use Rattle.file_number.proofs.put_number.Goals as goal

pub returns : goal.returns
unfolding bytes_of
returns c =
    let out = c.args.out.now in
    let at = c.args.at in
    let behind : drop (at + 4 - at) (drop at out) ≡ drop (at + 4) out = drop-drop _ at out ∙ ap (λ (k : ℕ). drop k out) (omega arith) in
    rw (c.copy_from_slice.ensures.after, c.to_le_bytes.ensures)
    (sym
    (sets-eq (bytes_of c.args.x) out at c.requires
    ∙ append_assoc (take at out) (bytes_of c.args.x) (drop (at + 4) out)
    ∙ ap (λ (r : List ℕ). take at out ++ (bytes_of c.args.x ++ r)) (sym behind)))
