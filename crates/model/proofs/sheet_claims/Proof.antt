-- `model::sheet_claims` meets its contract: a proof of each claim. Assumes nothing.
use Rattle.model.proofs.Computed.{sheet_example_lem, sheet_edges_lem}
use Rattle.model.proofs.Sheets.{field_width_lem, field_blanks_lem, sheet_last_lem, sheet_whole, sheet_read_lem, sheet_places_lem}
use Rattle.model.proofs.sheet_claims.Statement.{statement}
use Rattle.model.proofs.sheet_claims.Tie as tie

returns : tie.Need-returns
returns c =
    record {
      field_width = field_width_lem;
      field_blanks = field_blanks_lem;
      sheet_last = sheet_last_lem;
      sheet_length = sheet_whole;
      sheet_read = sheet_read_lem;
      sheet_places = sheet_places_lem;
      sheet_example = sheet_example_lem;
      sheet_edges = sheet_edges_lem;
    }

pub sheet_claims_spec : {M : Type 1} → statement M
sheet_claims_spec = tie.close (tie.spec returns)
