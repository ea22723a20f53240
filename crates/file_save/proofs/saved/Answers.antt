use mathlib.Core.Path.{refl}
use native.Mathlib.Omega.{arith}
use Rattle.model.specs.Saved.{saved_length}
use Rattle.file_save.proofs.Answers.{save_short, save_accepted}
use Rattle.file_save.proofs.saved.Goals as goal

pub returns-then-buffer-length : goal.returns-then-buffer-length
unfolding saved_length
returns-then-buffer-length c =
    let (value, left) = save_short _ _ _ c.if-buffer-length.true in
    record { value = value; buffer_left = left }

pub write_saved-requires : goal.write_saved-requires
unfolding saved_length
write_saved-requires c = omega (arith, c.if-buffer-length.false)

pub returns : goal.returns
unfolding saved_length
returns c =
    let (value, left) = save_accepted _ _ _ _ _ refl c.if-buffer-length.false c.write_saved.ensures in
    record { value = value; buffer_left = left }
