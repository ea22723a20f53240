use Rattle.model.specs.Saved.{loaded_header}
use Rattle.file_number.proofs.header_of.Goals as goal

pub returns : goal.returns
unfolding loaded_header
returns c = rw (c.number_at.ensures, c.number_at-2.ensures, c.number_at-3.ensures)
