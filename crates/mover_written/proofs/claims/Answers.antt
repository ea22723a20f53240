use Rattle.written.proofs.Bits.{word_weights}
use Rattle.mover_written.proofs.Alike.{carry_alike_lem, carry_refused_lem, count_alike_lem, count_refused_lem}
use Rattle.mover_written.proofs.Spots.{order_row, carry_fits_lem}
use Rattle.mover_written.proofs.Runs.{
  carry_one_lem,
  carry_none_lem,
  carry_past_lem,
  run_tells_lem,
  run_begins_lem,
  carry_marks_lem,
  carry_reads_lem,
  carry_keeps_lem,
  carry_on_lem,
  carry_ends_lem,
  cuts_reach_lem,
}
use Rattle.mover_written.proofs.Written.{count_past, count_most, count_all_lem, count_copies_lem}
use Rattle.mover_written.proofs.Worked.{carry_worked_lem, count_worked_lem}
use Rattle.mover_written.proofs.claims.Goals as goal

pub returns : goal.returns
returns c = record {
  carry_claims = record {
    order_row = order_row;
    carry_alike = carry_alike_lem;
    carry_refused = carry_refused_lem;
    carry_fits = carry_fits_lem;
    carry_one = carry_one_lem;
    carry_none = carry_none_lem;
    carry_past = carry_past_lem;
    run_tells = run_tells_lem;
    run_begins = run_begins_lem;
    carry_marks = carry_marks_lem;
    carry_reads = carry_reads_lem;
    carry_keeps = carry_keeps_lem;
    carry_on = carry_on_lem;
    carry_ends = carry_ends_lem;
    cuts_reach = cuts_reach_lem;
    carry_worked = carry_worked_lem;
  };
  count_claims = record {
    bits_word = word_weights;
    count_alike = count_alike_lem;
    count_refused = count_refused_lem;
    count_past = count_past;
    count_most = count_most;
    count_all = count_all_lem;
    count_copies = count_copies_lem;
    count_worked = count_worked_lem;
  };
}
