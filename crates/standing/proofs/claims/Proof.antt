-- `standing::claims` meets its contract. Assumes nothing.
use Rattle.standing.proofs.Folding.{output_whole}
use Rattle.standing.proofs.claims.Statement.{statement}
use Rattle.standing.proofs.claims.Tie as tie

returns : tie.Need-returns
returns c = output_whole

pub claims_spec : {M : Type 1} → statement M
claims_spec = tie.close (tie.spec
    returns)
