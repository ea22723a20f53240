-- `model::claims` meets its contract: a proof of each claim. Assumes nothing.
use Rattle.model.proofs.Computed.{figures, listing}
use Rattle.model.proofs.Dues.{closed_form_lem, one_way, dues_sum_lem, block_dues_sum_lem}
use Rattle.model.proofs.Rooms.{room_steps_lem}
use Rattle.model.proofs.Balances.{balanced_exists_lem, most_held_lem}
use Rattle.model.proofs.Rivals.{least_of_one_lem, least_of_all_lem, least_decided_lem}
use Rattle.model.proofs.claims.Statement.{statement}
use Rattle.model.proofs.claims.Tie as tie

returns : tie.Need-returns
returns c =
    record {
      figures = figures;
      listing = listing.0;
      closed_form = closed_form_lem;
      one_way = one_way;
      dues_sum = dues_sum_lem;
      block_dues_sum = block_dues_sum_lem;
      room_steps = room_steps_lem;
      balanced_exists = balanced_exists_lem;
      most_held = most_held_lem;
      least_of_one = least_of_one_lem;
      least_of_all = least_of_all_lem;
      least_decided = least_decided_lem;
    }

pub claims_spec : {M : Type 1} → statement M
claims_spec = tie.close (tie.spec returns)
