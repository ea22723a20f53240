-- `model::expansion_claims` meets its contract: a proof of each claim. Assumes nothing.
use Rattle.model.proofs.Expanded.{expand_stays_lem, expand_read_lem, capacity_kept_lem, refused_alike_lem}
use Rattle.model.proofs.Totals.{left_lends_lem}
use Rattle.model.proofs.Kept.{expand_is_sound, places_kept, moved_is_least, moved_replies_lem, total_is_least, total_decided, left_sound_lem}
use Rattle.model.proofs.expansion_claims.Statement.{statement}
use Rattle.model.proofs.expansion_claims.Tie as tie

returns : tie.Need-returns
returns c =
    record {
      expand_sound = expand_is_sound;
      expand_read = expand_read_lem;
      capacity_kept = capacity_kept_lem;
      refused_alike = refused_alike_lem;
      expand_stays = expand_stays_lem;
      expand_places = places_kept;
      moved_least = moved_is_least;
      moved_replies = moved_replies_lem;
      least_total = total_is_least;
      least_total_decided = total_decided;
      left_lends = left_lends_lem;
      left_sound = left_sound_lem;
    }

pub expansion_claims_spec : {M : Type 1} → statement M
expansion_claims_spec = tie.close (tie.spec returns)
