-- `model::table_claims` meets its contract: a proof of each claim. Assumes nothing.
use Rattle.model.proofs.Soundness.{sound_iff_lem, capacity_last_lem, same_sound_lem, initial_sound_lem, written_read, initial_read_lem, fresh_small, lent_small}
use Rattle.model.proofs.Capacities.{overfills_where_lem, held_within}
use Rattle.model.proofs.Places.{size_due_lem, table_balanced_lem}
use Rattle.model.proofs.Finds.{position_source_lem, position_below_lem, find_placed_lem, place_found, find_refused_lem}
use Rattle.model.proofs.Searches.{place_refused_lem}
use Rattle.model.proofs.Batches.{falls_where_lem, places_single_lem}
use Rattle.model.proofs.Files.{load_sound_lem, load_read, load_small, save_length, saved_loaded_lem, loaded_saved_lem}
use Rattle.model.proofs.table_claims.Statement.{statement}
use Rattle.model.proofs.table_claims.Tie as tie

returns : tie.Need-returns
returns c =
    record {
      sound_iff = sound_iff_lem;
      capacity_last = capacity_last_lem;
      overfills_where = overfills_where_lem;
      label_alone = (fresh_small, lent_small, load_small);
      same_sound = same_sound_lem;
      initial_sound = initial_sound_lem;
      load_sound = load_sound_lem;
      written_read = written_read;
      initial_read = initial_read_lem;
      load_read = load_read;
      size_due = size_due_lem;
      table_balanced = table_balanced_lem;
      none_overfull = held_within;
      position_source = position_source_lem;
      position_below = position_below_lem;
      find_placed = find_placed_lem;
      place_found = place_found;
      place_refused = place_refused_lem;
      find_refused = find_refused_lem;
      falls_where = falls_where_lem;
      places_single = places_single_lem;
      saved_length = save_length;
      saved_loaded = saved_loaded_lem;
      loaded_saved = loaded_saved_lem;
    }

pub table_claims_spec : {M : Type 1} → statement M
table_claims_spec = tie.close (tie.spec returns)
