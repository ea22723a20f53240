use mathlib.Core.Path.{ap₂}
use Rattle.model.specs.Table.{sizes}
use Rattle.table.specs.Formed.{arrays_of}
use Rattle.row_places.specs.Rows.{Listed}
use Rattle.row_places.proofs.Places.{row_bucket_lem}
use Rattle.row_places.proofs.whole.row_of.Goals as goal

pub returns : goal.returns
returns c =
    let listed : Listed c.args.table.header (arrays_of c.args.table) (sizes c.args.buckets c.args.bins) c.args.order =
    record { formed = c.args.table.formed; asked = c.requires.bins_value; below = c.requires.order_in_bounds } in
    ap₂ (λ b p. record { bucket = b; places = p })
    (row_bucket_lem _ _ _ _ listed _ _ c.bucket_of-moved.ensures)
    (c.places_at.ensures _ listed c.bucket_of-moved.ensures)
