-- `model::console_claims` meets its contract: a proof of each claim. Assumes nothing.
use Rattle.model.proofs.Computed.{listing}
use Rattle.model.proofs.Lines.{two_orders_lem, lines_refused_lem, first_map_lem}
use Rattle.model.proofs.console_claims.Statement.{statement}
use Rattle.model.proofs.console_claims.Tie as tie

returns : tie.Need-returns
returns c =
    record {
      two_orders = two_orders_lem;
      lines_refused = lines_refused_lem;
      first_map = first_map_lem;
      mistyped = listing.1;
    }

pub console_claims_spec : {M : Type 1} → statement M
console_claims_spec = tie.close (tie.spec returns)
