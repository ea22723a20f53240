-- `session::claims` meets its contract: a proof of each claim. Assumes nothing.
use Rattle.session.proofs.Rights.{right_next}
use Rattle.session.proofs.Spoken.{session_kept, session_spoken}
use Rattle.session.proofs.claims.Statement.{statement}
use Rattle.session.proofs.claims.Tie as tie

returns : tie.Need-returns
returns c = record { kept = session_kept; spoken = session_spoken; right = λ m k r. right_next m r k }

pub claims_spec : {M : Type 1} → statement M
claims_spec = tie.close (tie.spec
    returns)
