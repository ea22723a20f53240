use Rattle.mover.proofs.Alike.{carry_alike_lem, carry_refused_lem}
use Rattle.mover.proofs.Spots.{order_row, carry_fits_lem}
use Rattle.mover.proofs.Runs.{carry_one_lem, carry_none_lem, run_begins_lem, carry_marks_lem, carry_reads_lem, carry_on_lem, carry_ends_lem, cuts_reach_lem}
use Rattle.mover.proofs.Worked.{carry_worked_lem}
use Rattle.mover.proofs.claims.Goals as goal

pub returns : goal.returns
returns c =
    record {
      order_row = order_row;
      carry_alike = carry_alike_lem;
      carry_refused = carry_refused_lem;
      carry_fits = carry_fits_lem;
      carry_one = carry_one_lem;
      carry_none = carry_none_lem;
      run_begins = run_begins_lem;
      carry_marks = carry_marks_lem;
      carry_reads = carry_reads_lem;
      carry_on = carry_on_lem;
      carry_ends = carry_ends_lem;
      cuts_reach = cuts_reach_lem;
      carry_worked = carry_worked_lem;
    }
