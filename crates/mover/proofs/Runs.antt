-- Laws of the mover's calls and runs, and the claims. Assumes nothing.
use Prim.Native.Nat.{ℕ, zero, suc, ◌+◌, ◌≤◌, ◌<◌, min}
use mathlib.Core.Path.{◌≡◌, refl, sym, ◌∙◌, ap, subst}
use mathlib.Core.Logic.{inl, ⊎_elim}
use native.Mathlib.Omega.{arith}
use lib.ListN.{length, get_or, set}
use Rattle.model.specs.Expansion.{differs}
use Rattle.model.specs.declared.reply.CarryReply.{CarryReply}
use Rattle.model.proofs.Counts.{bit_cases, below_or}
use Rattle.model.proofs.Refusals.{refused}
use Rattle.mover.specs.Carry.{
  Growth,
  old_table,
  new_table,
  total,
  source,
  target,
  put,
  carry_refusal,
  carry_reply,
  carry_words,
}
use Rattle.mover.specs.Run.{
  Stored,
  stored,
  word_of,
  reads,
  Begun,
  words_of,
  mark_of,
  carried,
  calls,
  Run,
  begun,
  whole,
  cut_copy,
  cut_mark,
}
use Rattle.mover.specs.Claims.{Moves, order, CarryOne, CarryNone, RunBegins, CarryMarks, CarryReads, CarryOn, CarryEnds, CutsReach}
use Rattle.mover.specs.Ready.{Ready}
use Rattle.mover.proofs.Replies.{words_more, reply_more, words_end, reply_end, mark_after}
use Rattle.mover.proofs.Copies.{copies, Apart, Near, near_long, near_put, near_copy, near_end, near_kept, near_done}
use Rattle.mover.proofs.Spots.{
  accepted_ready,
  ready_accepted,
  mover,
  source_of,
  target_of,
  order_row,
  old_no_target,
  apart,
  same_word,
}

-- ONE CALL

pub carry_one_lem : CarryOne
carry_one_lem g ws m ok l =
    let (ready, _) = accepted_ready g ws m ok in
    let b = mover g m l in (
      b.bucket,
      b.moves,
      b.number,
      words_more g ws m ok l ∙ rw (b.to, b.from),
      reply_more g ws m ok l,
      λ y k e. old_no_target g ws ready m l y k (e ∙ sym b.to),
    )

pub carry_none_lem : CarryNone
unfolding carry_words carry_reply
carry_none_lem g ws m = (
  λ n. (refused (carry_refusal g ws m) _ _ n, refused (carry_refusal g ws m) _ _ n),
  λ ok l.
      let (_, within) = accepted_ready g ws m ok in
      (omega arith, words_end g ws m ok l, reply_end g ws m ok l),
)

-- RUNS

pub run_begins_lem : RunBegins
run_begins_lem g ws e = begun (record { first = refl; accepted = e; placed = λ x l. refl })

-- how a run began
began : {g : Growth} {content : ℕ → ℕ} {b st : Stored} → Run g content b st → Begun g content b
began (begun h) = h
began (whole r) = began r
began (cut_copy v l r) = began r
began (cut_mark m e r) = began r

-- a state of a run from b on: the words are those after as many uncut copies as the mark says, but for the next destination
record At (g : Growth) (b st : Stored) : Type 0 where
  near : Near (source g) (target g) (total g) b.words st.mark st.words
  within : st.mark ≤ total g

module _ (g : Growth) (content : ℕ → ℕ) (b : Stored) (start : Begun g content b) where
  ready₀ : Ready g b.words
  ready₀ = (accepted_ready g b.words b.mark start.accepted).0

  spots : Apart (source g) (target g) (total g) (length b.words)
  spots = apart g b.words ready₀

  -- so the call that follows is accepted
  at_ok : (st : Stored) → At g b st → carry_refusal g st.words st.mark ≡ 0
  at_ok st h =
      let long = near_long _ _ _ _ spots st.mark st.words h.near in
      ready_accepted g st.words st.mark
      (record { sound = ready₀.sound; asked = ready₀.asked; long = omega (arith, ready₀.long) })
      h.within

  -- and what it stores is such a state again, with the new mark and with the old
  at_new : (st : Stored) → At g b st → At g b (stored (words_of g st) (mark_of g st))
  at_new st h =
      let ok = at_ok st h in
      record {
        near =
            ⊎_elim
            (λ l.
            rw (reply_more g st.words st.mark ok l)
            (inl (words_more g st.words st.mark ok l ∙ near_copy _ _ _ _ spots st.mark st.words l h.near)))
            (λ l. rw (reply_end g st.words st.mark ok l, words_end g st.words st.mark ok l) h.near)
            (below_or st.mark (total g));
        within = omega (arith, mark_after g st.words st.mark ok);
      }

  at_old : (st : Stored) → At g b st → At g b (stored (words_of g st) st.mark)
  at_old st h =
      let ok = at_ok st h in
      record {
        near =
            ⊎_elim
            (λ l. rw (words_more g st.words st.mark ok l) (near_put _ _ _ _ spots st.mark st.words _ l h.near))
            (λ l. rw (words_end g st.words st.mark ok l) h.near)
            (below_or st.mark (total g));
        within = h.within;
      }

  run_at : {st : Stored} → Run g content b st → At g b st
  unfolding copies put carried
  run_at (begun h) =
      record { near = rw start.first (inl refl); within = (accepted_ready g b.words b.mark start.accepted).1 }
  run_at (whole {st} r) = at_new st (run_at r)
  run_at (cut_copy {st} v l r) =
      record {
        near = near_put _ _ _ _ spots st.mark st.words v (omega (arith, l)) (run_at r).near;
        within = (run_at r).within;
      }
  run_at (cut_mark {st} m e r) =
      ⊎_elim
      (λ old. subst (λ q. At g b (stored (words_of g st) q)) (sym old) (at_old st (run_at r)))
      (λ new. subst (λ q. At g b (stored (words_of g st) q)) (sym new) (at_new st (run_at r)))
      e

-- what holds in every state
at : {g : Growth} {content : ℕ → ℕ} {b st : Stored} → Run g content b st → At g b st
at {g} {content} {b} r = run_at g content b (began r) r

ok : {g : Growth} {content : ℕ → ℕ} {b st : Stored} → Run g content b st → carry_refusal g st.words st.mark ≡ 0
ok {g} {content} {b} {st} r = at_ok g content b (began r) st (at r)

pub carry_marks_lem : CarryMarks
carry_marks_lem g content b st r =
    (ok r, omega (arith, mark_after g st.words st.mark (ok r), (at r).within), (at r).within)

-- uncut calls go on with a run, and their marks rise up to the total
calls_run
    : {g : Growth} {content : ℕ → ℕ} {b st : Stored} (n : ℕ) → Run g content b st → Run g content b (calls g n st)
unfolding calls
calls_run zero r = r
calls_run (suc n) r = whole (calls_run n r)

calls_mark
    : {g : Growth} {content : ℕ → ℕ} {b st : Stored} (n : ℕ) → Run g content b st
    → (calls g n st).mark ≡ min (total g) (st.mark + n)
unfolding calls carried
calls_mark {g} {content} {b} {st} zero r = omega (arith, (at r).within)
calls_mark {g} {content} {b} {st} (suc n) r =
    let c = calls g n st in
    omega (arith, calls_mark n r, mark_after g c.words c.mark (ok (calls_run n r)))

-- at the total the words are those after all copies
end_words
    : (g : Growth) (content : ℕ → ℕ) (b st : Stored) → Run g content b st → total g ≤ st.mark
    → st.words ≡ copies (source g) (target g) b.words (total g)
end_words g content b st r l =
    let same : st.mark ≡ total g = omega (arith, (at r).within) in
    near_end _ _ _ _ (spots g content b (began r)) st.mark st.words l (at r).near
    ∙ ap (copies (source g) (target g) b.words) same

-- THE CLAIMS

stored_same : (a c : Stored) → a.words ≡ c.words → a.mark ≡ c.mark → a ≡ c
stored_same a c e f = λ i. record { words = e i; mark = f i }

pub carry_on_lem : CarryOn
carry_on_lem g content b st r n k l m =
    let fresh = begun (began r) in
    let here = calls_mark n r in
    let there = calls_mark k fresh in
    stored_same (calls g n st) (calls g k b)
    (end_words g content b _ (calls_run n r) (omega arith)
    ∙ sym (end_words g content b _ (calls_run k fresh) (omega arith)))
    (omega arith)

module _ (g : Growth) (content : ℕ → ℕ) (b st : Stored) (r : Run g content b st) (x : ℕ) where
  start : Begun g content b
  start = began r

  ready : Ready g b.words
  ready = (accepted_ready g b.words b.mark start.accepted).0

  reads_new : Moves g x → order g x < st.mark → reads (new_table g) st.words x ≡ content x
  reads_new m k =
      ap (λ i. get_or st.words i 0) (sym (target_of g x m))
      ∙ near_done _ _ _ _ (spots g content b start) st.mark (order g x) st.words (at r).within k (at r).near
      ∙ ap (λ i. get_or b.words i 0) (source_of g x m)
      ∙ start.placed x m.0

  reads_old : x < g.header.buckets → reads (old_table g) st.words x ≡ content x
  reads_old l =
      near_kept _ _ _ _ (spots g content b start) st.mark _ st.words (at r).within (at r).near
      (λ q k. old_no_target g b.words ready q k x l)
      ∙ start.placed x l

  -- where the mark is the total
  reads_end : x < g.header.buckets → total g ≤ st.mark → reads (new_table g) st.words x ≡ content x
  reads_end l m =
      ⊎_elim
      (λ e. reads_new (l, e.0) (omega (arith, (order_row g x (l, e.0)).0)))
      (λ e. ap (λ i. get_or st.words i 0) (same_word g b.words ready x l e.0) ∙ reads_old l)
      (bit_cases (differs (old_table g) (new_table g) x))

pub carry_reads_lem : CarryReads
carry_reads_lem g content b st r = (reads_new g content b st r, reads_old g content b st r)

pub carry_ends_lem : CarryEnds
unfolding carried
carry_ends_lem g content b st r m =
    let reply = reply_end g st.words st.mark (ok r) m in (
      λ x l. reads_end g content b st r x l m,
      stored_same (carried g st) st (words_end g st.words st.mark (ok r) m) (ap (λ (z : CarryReply). z.mark) reply),
      ap (λ (z : CarryReply). z.finished) reply,
    )

pub cuts_reach_lem : CutsReach
unfolding carried put
cuts_reach_lem g content b st r x m e =
    let below : st.mark < total g = omega (arith, (order_row g x m).0) in
    let spot : target g st.mark ≡ word_of (new_table g) x = ap (target g) (sym e) ∙ target_of g x m in
    let word : get_or st.words (source g st.mark) 0 ≡ content x =
    ap (λ q. get_or st.words (source g q) 0) (sym e)
    ∙ ap (λ i. get_or st.words i 0) (source_of g x m)
    ∙ reads_old g content b st r x m.0 in
    let right : words_of g st ≡ set st.words (word_of (new_table g) x) (content x) =
    words_more g st.words st.mark (ok r) below ∙ rw (spot, word) in (
      λ v. subst (λ i. Run g content b (stored (set st.words i v) st.mark)) spot (cut_copy v below r),
      subst (λ ws. Run g content b (stored ws st.mark)) right (cut_mark st.mark (inl refl) r),
      subst (λ (z : Stored). Run g content b z)
          (stored_same (carried g st) _ right (ap (λ (z : CarryReply). z.mark) (reply_more g st.words st.mark (ok r) below)))
          (whole r),
    )
