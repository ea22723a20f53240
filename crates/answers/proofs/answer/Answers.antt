use Rattle.std.proofs.Common.{◌∙◌, sym, refl, arith}
use Rattle.std.proofs.lemmas.Bool.{false≢true}
use Rattle.wheres.proofs.Lines.{went_none, Went_then, end_within, line_none, line_went}
use Rattle.wheres.proofs.Placing.{none_row}
use Rattle.answers.proofs.Answering.{answers_done, answers_more}
use Rattle.answers.proofs.answer.Goals as goal

pub loop-at-init : goal.loop-at-init
loop-at-init c = record { went = went_none _ _ _ _ _ c.args.program.now.sane c.requires.2 c.requires.1; none = c.requires.0 }

pub answer_wheres-spot-requires : goal.answer_wheres-spot-requires
answer_wheres-spot-requires c =
    (c.loop-at.invariant.none, c.loop-at.invariant.went.within, c.loop-at.invariant.went.room)

pub returns-then-end-block : goal.returns-then-end-block
returns-then-end-block c =
    let gone = Went_then c.loop-at.invariant.went c.answer_wheres-spot.ensures in
    answers_done gone (line_none _ _ _ _ c.loop-at.invariant.none gone.within c.feed_at-end.ensures c.if-end-block.true)

pub slice_bounds-line-end : goal.slice_bounds-line-end
slice_bounds-line-end c = end_within _ _ _ c.answer_wheres-spot.ensures.within c.feed_at-end.ensures

pub invariant_of-program-else-reply : goal.invariant_of-program-else-reply
invariant_of-program-else-reply c =
    record { sane = record { right = c.step-reply.new.self.right; row = λ e. absurd (false≢true (sym c.loop-at.invariant.none ∙ e)) } }

pub loop-at-smaller : goal.loop-at-smaller
loop-at-smaller c =
    let gone = Went_then c.loop-at.invariant.went c.answer_wheres-spot.ensures in
    omega (
      arith,
      c.answer_wheres-spot.ensures.onward,
      c.feed_at-end.ensures,
      c.if-end-block.false,
      end_within _ _ _ gone.within c.feed_at-end.ensures,
    )

pub loop-at-preserved : goal.loop-at-preserved
loop-at-preserved c =
    let gone = Went_then c.loop-at.invariant.went c.answer_wheres-spot.ensures in
    record {
      went =
          Went_then gone
          (line_went _ _ _ _ c.loop-at.invariant.none gone.within c.feed_at-end.ensures _ _ _ _ _ _ _
          c.if-end-block.false refl gone.sane (omega arith) c.step-reply.ensures _ refl
          (c.loop-at.invariant.none ∙ sym c.if-reply.false) (none_row c.loop-at.program.machine c.loop-at.invariant.none) refl refl);
      none = c.loop-at.invariant.none;
    }

pub returns-after-loop-at : goal.returns-after-loop-at
returns-after-loop-at c =
    answers_more c.loop-at.invariant.went (omega (arith, c.loop-at.invariant.went.onward, c.loop-at-test.false))

pub returns-then-at-gt-LAST : goal.returns-then-at-gt-LAST
returns-then-at-gt-LAST c =
    let gone = Went_then c.loop-at.invariant.went c.answer_wheres-spot.ensures in
    answers_more gone (omega (arith, gone.onward, c.if-at-gt-LAST.true))

pub returns-then-reply : goal.returns-then-reply
returns-then-reply c =
    let gone = Went_then c.loop-at.invariant.went c.answer_wheres-spot.ensures in
    answers_more
    (Went_then gone
    (line_went _ _ _ _ c.loop-at.invariant.none gone.within c.feed_at-end.ensures _ _ _ _ _ _ _
    c.if-end-block.false refl gone.sane (omega arith) c.step-reply.ensures _ refl
    (sym c.if-reply.true) refl refl refl))
    (omega (arith, gone.onward, c.feed_at-end.ensures))
