use Rattle.std.proofs.Common.{ap, add-zero}
use Rattle.model.specs.Basics.{joined}
use Rattle.model.specs.Console.{answer_text, moves_of, move_text}
use Rattle.session.specs.Maps.{shown, is_list}
use Rattle.console.proofs.Serving.{told_reply}
use Rattle.console.proofs.step.reply.Goals as goal

pub returns-in-Refused : goal.returns-in-Refused
unfolding shown answer_text is_list
returns-in-Refused c =
    let told = told_reply c.args.answer _ _ _ _ _ (ap shown c.in-Refused.is) (ap is_list c.in-Refused.is)
    c.put_refused.ensures.place c.put_refused.ensures.bytes in
    record { given = told.0; bytes = told.1 }

pub returns-in-Table : goal.returns-in-Table
unfolding shown answer_text is_list
returns-in-Table c =
    let told = told_reply c.args.answer _ _ _ _ _ (ap shown c.in-Table.is) (ap is_list c.in-Table.is)
    c.put_ok.ensures.place c.put_ok.ensures.bytes in
    record { given = told.0; bytes = told.1 }

pub returns-in-Place : goal.returns-in-Place
unfolding shown answer_text is_list
returns-in-Place c =
    let told = told_reply c.args.answer _ _ _ _ _ (ap shown c.in-Place.is) (ap is_list c.in-Place.is)
    c.put_place.ensures.place c.put_place.ensures.bytes in
    record { given = told.0; bytes = told.1 }

pub returns-in-Bucket : goal.returns-in-Bucket
unfolding shown answer_text is_list
returns-in-Bucket c =
    let told = told_reply c.args.answer _ _ _ _ _ (ap shown c.in-Bucket.is) (ap is_list c.in-Bucket.is)
    c.put_bucket.ensures.place c.put_bucket.ensures.bytes in
    record { given = told.0; bytes = told.1 }

pub returns-in-Moves : goal.returns-in-Moves
unfolding shown answer_text moves_of move_text joined is_list
returns-in-Moves c = record { given = rw (c.in-Moves.is, add-zero); bytes = rw c.in-Moves.is }
