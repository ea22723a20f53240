-- Laws of the mover's calls and runs, and the claims. Assumes nothing.
use Prim.Native.Nat.{ℕ, zero, suc, ◌+◌, ◌≤◌, ◌<◌, min}
use mathlib.Core.Path.{◌≡◌, refl, sym, ◌∙◌, ap, subst}
use mathlib.Core.Logic.{inl, ⊎_elim}
use mathlib.Core.Bool.{Bool, true, false, false≢true}
use mathlib.Core.List.{List, [], ◌∷◌, ◌++◌}
use native.Mathlib.Omega.{arith}
use lib.ListN.{length, get_or, set}
use Rattle.model.specs.Refusal.{first, order_past}
use Rattle.model.specs.Expansion.{differs}
use Rattle.model.specs.Calls.{table_tests, growth_tests}
use Rattle.model.specs.declared.reply.CarryReply.{CarryReply}
use Rattle.model.proofs.Counts.{bit_cases, below_or}
use Rattle.model.proofs.Refusals.{refused}
use Rattle.mover_written.specs.Carry.{
  Growth,
  old_table,
  new_table,
  total,
  source,
  target,
  put,
  Told,
  is_written,
  bucket_at,
  copies,
  words_short,
  carry_tests,
  carry_refusal,
  carry_reply,
  carry_words,
}
use Rattle.mover_written.specs.Run.{
  Stored,
  stored,
  word_of,
  reads,
  Enough,
  Tells,
  Begun,
  words_of,
  mark_of,
  carried,
  calls,
  Run,
  begun,
  whole,
  cut_copy,
  cut_mark,
}
use Rattle.mover_written.specs.Claims.{Moves, order, CarryOne, CarryNone, CarryPast, RunTells, RunBegins, CarryMarks, CarryReads, CarryKeeps, CarryOn, CarryEnds, CutsReach}
use Rattle.mover_written.specs.Ready.{Ready}
use Rattle.mover_written.proofs.Replies.{copies_below, copies_end, copies_row, words_more, reply_more, words_end, reply_end, mark_after}
use Rattle.mover_written.proofs.Copies.{
  step,
  step_copy,
  step_none,
  step_same,
  after,
  Apart,
  Near,
  near_long,
  near_put,
  near_step,
  near_again,
  near_end,
  near_kept,
  near_done,
}
use Rattle.mover_written.proofs.Spots.{
  enough_told,
  accepted_ready,
  ready_accepted,
  mover,
  bucket_of_lem,
  source_of,
  target_of,
  order_row,
  old_no_target,
  target_once,
  apart,
  same_word,
}

-- ONE CALL

pub carry_one_lem : CarryOne
carry_one_lem g told ws m ok l =
    let (ready, _, _) = accepted_ready g told ws m ok in
    let b = mover g m l in
    let row = words_more g told ws m ok l in (
      b.bucket,
      b.moves,
      b.number,
      λ e. row ∙ step_copy _ _ _ m ws (ap (is_written told) b.at ∙ e) ∙ rw (b.to, b.from),
      λ e. row ∙ step_none _ _ _ m ws (ap (is_written told) b.at ∙ e),
      reply_more g told ws m ok l,
      λ y k e. old_no_target g ws ready m l y k (e ∙ sym b.to),
    )

pub carry_none_lem : CarryNone
unfolding carry_words carry_reply
carry_none_lem g told ws m = (
  λ n. (refused (carry_refusal g told ws m) _ _ n, refused (carry_refusal g told ws m) _ _ n),
  λ ok l.
      let (_, _, within) = accepted_ready g told ws m ok in
      (omega arith, words_end g told ws m ok l, reply_end g told ws m ok l),
)

-- it depends on what it is told of the old buckets alone
module _
    (g : Growth) (told told' : Told) (enough : Enough g told) (enough' : Enough g told')
    (same : (x : ℕ) → x < g.header.buckets → is_written told x ≡ is_written told' x) (ws : List ℕ) (m : ℕ) where
  past_refusal : carry_refusal g told ws m ≡ carry_refusal g told' ws m
  unfolding carry_refusal carry_tests
  past_refusal =
      ap (λ few. first (table_tests g.header g.arrays ++ (growth_tests (old_table g) g.sizes ++ ((40, words_short g ws) ∷ (42, few) ∷ (41, order_past (total g) m) ∷ []))))
      (enough_told g told enough ∙ sym (enough_told g told' enough'))

  past_copies : copies g told m ≡ copies g told' m
  past_copies =
      ⊎_elim
      (λ l.
      let b = mover g m l in
      copies_below g told m l ∙ same (bucket_at g m) (omega (arith, b.at, b.moves.0)) ∙ sym (copies_below g told' m l))
      (λ l. copies_end g told m l ∙ sym (copies_end g told' m l))
      (below_or m (total g))

pub carry_past_lem : CarryPast
unfolding carry_reply carry_words
carry_past_lem g told told' enough enough' same ws m =
    let refusal = past_refusal g told told' enough enough' same ws m in (
      rw refusal refl,
      rw (refusal, past_copies g told told' enough enough' same ws m) refl,
    )

-- RUNS

pub run_tells_lem : RunTells
unfolding is_written
run_tells_lem g wrote = (
  λ ws l e. record { enough = l; same = λ x k. search (e x k) },
  λ e. record { enough = tt; same = λ x k. search (sym (e x k)) },
)

pub run_begins_lem : RunBegins
run_begins_lem g told ws e =
    let (_, enough, _) = accepted_ready g told ws 0 e in
    begun
    (record {
      told = told;
      tells = record { enough = enough; same = λ x l. refl };
      first = refl;
      accepted = e;
      placed = λ x l w. refl;
    })

-- how a run began
began
    : {g : Growth} {wrote : ℕ → Bool} {content : ℕ → ℕ} {b st : Stored} → Run g wrote content b st → Begun g wrote content b
began (begun h) = h
began (whole told e r) = began r
began (cut_copy told v e y r) = began r
began (cut_mark told m e k r) = began r

-- whether the bucket of row q is written
abbrev row_written : Growth → (ℕ → Bool) → ℕ → Bool
row_written g wrote q = wrote (bucket_at g q)

-- as every call is told
told_row : (g : Growth) (wrote : ℕ → Bool) (told : Told) → Tells g wrote told → (q : ℕ) → q < total g
    → is_written told (bucket_at g q) ≡ row_written g wrote q
told_row g wrote told e q l =
    let b = mover g q l in
    e.same (bucket_at g q) (omega (arith, b.at, b.moves.0))

-- so there is a copy exactly where there is a row whose bucket is written
pub copies_written : (g : Growth) (wrote : ℕ → Bool) (told : Told) → Tells g wrote told → (q : ℕ) → q < total g
    → copies g told q ≡ row_written g wrote q
copies_written g wrote told e q l = copies_below g told q l ∙ told_row g wrote told e q l

-- a state of a run from b on: the words are those after the copies of as many rows as the mark says, but for the next destination
record At (g : Growth) (wrote : ℕ → Bool) (b st : Stored) : Type 0 where
  near : Near (source g) (target g) (row_written g wrote) (total g) b.words st.mark st.words
  within : st.mark ≤ total g

module _ (g : Growth) (wrote : ℕ → Bool) (content : ℕ → ℕ) (b : Stored) (start : Begun g wrote content b) where
  ready₀ : Ready g b.words
  ready₀ = (accepted_ready g start.told b.words b.mark start.accepted).0

  spots : Apart (source g) (target g) (total g) (length b.words)
  spots = apart g b.words ready₀

  module _ (told : Told) (tells : Tells g wrote told) (st : Stored) (h : At g wrote b st) where
    -- so the call that follows is accepted
    at_ok : carry_refusal g told st.words st.mark ≡ 0
    at_ok =
        let long = near_long _ _ _ _ _ spots st.mark st.words h.near in
        ready_accepted g told st.words st.mark
        (record { sound = ready₀.sound; asked = ready₀.asked; long = omega (arith, ready₀.long) })
        tells.enough
        h.within

    -- and does the row
    at_row : st.mark < total g → words_of g told st ≡ step (source g) (target g) (row_written g wrote) st.mark st.words
    at_row l =
        words_more g told st.words st.mark at_ok l
        ∙ step_same _ _ (λ q. is_written told (bucket_at g q)) (row_written g wrote) st.mark st.words
        (told_row g wrote told tells st.mark l)

    -- and what it stores is such a state again, with the new mark and with the old
    at_new : At g wrote b (stored (words_of g told st) (mark_of g told st))
    at_new =
        record {
          near =
              ⊎_elim
              (λ l.
              rw (reply_more g told st.words st.mark at_ok l)
              (inl (at_row l ∙ near_step _ _ _ _ _ spots st.mark st.words l h.near)))
              (λ l. rw (reply_end g told st.words st.mark at_ok l, words_end g told st.words st.mark at_ok l) h.near)
              (below_or st.mark (total g));
          within = omega (arith, mark_after g told st.words st.mark at_ok);
        }

    at_old : At g wrote b (stored (words_of g told st) st.mark)
    at_old =
        record {
          near =
              ⊎_elim
              (λ l. rw (at_row l) (near_again _ _ _ _ _ spots st.mark st.words l h.near))
              (λ l. rw (words_end g told st.words st.mark at_ok l) h.near)
              (below_or st.mark (total g));
          within = h.within;
        }

    -- a cut copy leaves one too
    at_cut : (v : ℕ) → copies g told st.mark ≡ true → At g wrote b (stored (put g st.mark v st.words) st.mark)
    unfolding put
    at_cut v y =
        let l = copies_row g told st.mark y in
        let written = sym (copies_written g wrote told tells st.mark l) ∙ y in
        record {
          near = near_put _ _ _ _ _ spots st.mark st.words v l written h.near;
          within = h.within;
        }

  run_at : {st : Stored} → Run g wrote content b st → At g wrote b st
  unfolding after carried
  run_at (begun h) =
      let (_, _, within) = accepted_ready g start.told b.words b.mark start.accepted in
      record { near = rw start.first (inl refl); within = within }
  run_at (whole {st} told e r) = at_new told e st (run_at r)
  run_at (cut_copy {st} told v e y r) = at_cut told e st (run_at r) _ (search y)
  run_at (cut_mark {st} told m e k r) =
      ⊎_elim
      (λ old. subst (λ q. At g wrote b (stored (words_of g told st) q)) (sym old) (at_old told e st (run_at r)))
      (λ new. subst (λ q. At g wrote b (stored (words_of g told st) q)) (sym new) (at_new told e st (run_at r)))
      k

-- what holds in every state
at : {g : Growth} {wrote : ℕ → Bool} {content : ℕ → ℕ} {b st : Stored} → Run g wrote content b st → At g wrote b st
at {g} {wrote} {content} {b} r = run_at g wrote content b (began r) r

ok
    : {g : Growth} {wrote : ℕ → Bool} {content : ℕ → ℕ} {b st : Stored} → Run g wrote content b st
    → (told : Told) → Tells g wrote told → carry_refusal g told st.words st.mark ≡ 0
ok {g} {wrote} {content} {b} {st} r told e = at_ok g wrote content b (began r) told e st (at r)

pub carry_marks_lem : CarryMarks
carry_marks_lem g wrote content b st r told e =
    (ok r told e, omega (arith, mark_after g told st.words st.mark (ok r told e), (at r).within), (at r).within)

-- uncut calls go on with a run, and their marks rise up to the total
module _
    {g : Growth} {wrote : ℕ → Bool} {content : ℕ → ℕ} {b st : Stored} (r : Run g wrote content b st)
    (told : ℕ → Told) (tells : (i : ℕ) → Tells g wrote (told i)) where
  pub calls_run : (n : ℕ) → Run g wrote content b (calls g told n st)
  unfolding calls
  calls_run zero = r
  calls_run (suc n) = whole (told n) (tells n) (calls_run n)

  pub calls_mark : (n : ℕ) → (calls g told n st).mark ≡ min (total g) (st.mark + n)
  unfolding calls carried
  calls_mark zero = omega (arith, (at r).within)
  calls_mark (suc n) =
      let c = calls g told n st in
      omega (arith, calls_mark n, mark_after g (told n) c.words c.mark (ok (calls_run n) (told n) (tells n)))

-- at the total the words are those after all copies
end_words
    : (g : Growth) (wrote : ℕ → Bool) (content : ℕ → ℕ) (b st : Stored) → Run g wrote content b st → total g ≤ st.mark
    → st.words ≡ after (source g) (target g) (row_written g wrote) b.words (total g)
end_words g wrote content b st r l =
    let same : st.mark ≡ total g = omega (arith, (at r).within) in
    near_end _ _ _ _ _ (spots g wrote content b (began r)) st.mark st.words l (at r).near
    ∙ ap (after (source g) (target g) (row_written g wrote) b.words) same

-- THE CLAIMS

stored_same : (a c : Stored) → a.words ≡ c.words → a.mark ≡ c.mark → a ≡ c
stored_same a c e f = λ i. record { words = e i; mark = f i }

pub carry_on_lem : CarryOn
carry_on_lem g wrote content b st r told told' e e' n k l m =
    let fresh = begun (began r) in
    let here = calls_mark r told e n in
    let there = calls_mark fresh told' e' k in
    stored_same (calls g told n st) (calls g told' k b)
    (end_words g wrote content b _ (calls_run r told e n) (omega arith)
    ∙ sym (end_words g wrote content b _ (calls_run fresh told' e' k) (omega (arith, (began r).first))))
    (omega (arith, (began r).first))

module _
    (g : Growth) (wrote : ℕ → Bool) (content : ℕ → ℕ) (b st : Stored) (r : Run g wrote content b st) where
  start : Begun g wrote content b
  start = began r

  ready : Ready g b.words
  ready = (accepted_ready g start.told b.words b.mark start.accepted).0

  -- what no written row writes is kept
  kept
      : (i : ℕ) → ((q : ℕ) → q < total g → row_written g wrote q ≡ true → i ≡ target g q → ⊥)
      → get_or st.words i 0 ≡ get_or b.words i 0
  kept i none =
      near_kept _ _ _ _ _ (spots g wrote content b start) st.mark i st.words (at r).within (at r).near none

  module _ (x : ℕ) where
    reads_new : Moves g x → wrote x ≡ true → order g x < st.mark → reads (new_table g) st.words x ≡ content x
    reads_new m w k =
        ap (λ i. get_or st.words i 0) (sym (target_of g x m))
        ∙ near_done _ _ _ _ _ (spots g wrote content b start) st.mark (order g x) st.words (at r).within k
        (ap wrote (bucket_of_lem g x m) ∙ w) (at r).near
        ∙ ap (λ i. get_or b.words i 0) (source_of g x m)
        ∙ start.placed x m.0 w

    old_kept : x < g.header.buckets → reads (old_table g) st.words x ≡ reads (old_table g) b.words x
    old_kept l = kept _ (λ q k w. old_no_target g b.words ready q k x l)

    reads_old : x < g.header.buckets → wrote x ≡ true → reads (old_table g) st.words x ≡ content x
    reads_old l w = old_kept l ∙ start.placed x l w

    -- a blank moved bucket's new place is no written row's
    new_kept : Moves g x → wrote x ≡ false → reads (new_table g) st.words x ≡ reads (new_table g) b.words x
    new_kept m w =
        kept _
        (λ q k y e.
        let same = target_once g b.words ready (order g x) q (order_row g x m).0 k (target_of g x m ∙ e) in
        false≢true (sym w ∙ ap wrote (sym (bucket_of_lem g x m)) ∙ ap (row_written g wrote) same ∙ y))

    -- where the mark is the total
    reads_end : x < g.header.buckets → wrote x ≡ true → total g ≤ st.mark → reads (new_table g) st.words x ≡ content x
    reads_end l w m =
        ⊎_elim
        (λ e. reads_new (l, e.0) w (omega (arith, (order_row g x (l, e.0)).0)))
        (λ e. ap (λ i. get_or st.words i 0) (same_word g b.words ready x l e.0) ∙ reads_old l w)
        (bit_cases (differs (old_table g) (new_table g) x))

pub carry_reads_lem : CarryReads
carry_reads_lem g wrote content b st r = (reads_new g wrote content b st r, reads_old g wrote content b st r)

pub carry_keeps_lem : CarryKeeps
carry_keeps_lem g wrote content b st r = (
  near_long _ _ _ _ _ (spots g wrote content b (began r)) st.mark st.words (at r).near,
  λ i none.
      kept g wrote content b st r i
      (λ q k y e. let m = mover g q k in none m.bucket m.moves (ap wrote (sym m.at) ∙ y) (e ∙ m.to)),
  old_kept g wrote content b st r,
  new_kept g wrote content b st r,
)

pub carry_ends_lem : CarryEnds
unfolding carried
carry_ends_lem g wrote content b st r m = (
  λ x l w. reads_end g wrote content b st r x l w m,
  λ told e.
      let reply = reply_end g told st.words st.mark (ok r told e) m in (
        stored_same (carried g told st) st (words_end g told st.words st.mark (ok r told e) m) (ap (λ (z : CarryReply). z.mark) reply),
        ap (λ (z : CarryReply). z.finished) reply,
      ),
)

module _
    (g : Growth) (wrote : ℕ → Bool) (content : ℕ → ℕ) (b st : Stored) (r : Run g wrote content b st)
    (x : ℕ) (m : Moves g x) (e : order g x ≡ st.mark) where
  abbrev told₀ : Told
  told₀ = (began r).told

  tells₀ : Tells g wrote told₀
  tells₀ = (began r).tells

  below : st.mark < total g
  below = omega (arith, (order_row g x m).0)

  own : row_written g wrote st.mark ≡ wrote x
  own = ap wrote (ap (bucket_at g) (sym e) ∙ bucket_of_lem g x m)

  spot : target g st.mark ≡ word_of (new_table g) x
  spot = ap (target g) (sym e) ∙ target_of g x m

  row_step : words_of g told₀ st ≡ step (source g) (target g) (row_written g wrote) st.mark st.words
  row_step = at_row g wrote content b (began r) told₀ tells₀ st (at r) below

  right : wrote x ≡ true → words_of g told₀ st ≡ set st.words (word_of (new_table g) x) (content x)
  right w =
      let word : get_or st.words (source g st.mark) 0 ≡ content x =
      ap (λ q. get_or st.words (source g q) 0) (sym e)
      ∙ ap (λ i. get_or st.words i 0) (source_of g x m)
      ∙ reads_old g wrote content b st r x m.0 w in
      row_step ∙ step_copy _ _ (row_written g wrote) st.mark st.words (own ∙ w) ∙ rw (spot, word)

  raised : (ws : List ℕ) → words_of g told₀ st ≡ ws → Run g wrote content b (stored ws (st.mark + 1))
  unfolding carried
  raised ws f =
      subst (λ (z : Stored). Run g wrote content b z)
      (stored_same (carried g told₀ st) _ f
      (ap (λ (z : CarryReply). z.mark) (reply_more g told₀ st.words st.mark (ok r told₀ tells₀) below)))
      (whole told₀ tells₀ r)

  reach_written
      : wrote x ≡ true
      → ((v : ℕ) → Run g wrote content b (stored (set st.words (word_of (new_table g) x) v) st.mark))
      × Run g wrote content b (stored (set st.words (word_of (new_table g) x) (content x)) st.mark)
      × Run g wrote content b (stored (set st.words (word_of (new_table g) x) (content x)) (st.mark + 1))
  unfolding put
  reach_written w = (
    λ v.
        subst (λ i. Run g wrote content b (stored (set st.words i v) st.mark)) spot
        (cut_copy told₀ v tells₀ (copies_written g wrote told₀ tells₀ st.mark below ∙ own ∙ w) r),
    subst (λ ws. Run g wrote content b (stored ws st.mark)) (right w) (cut_mark told₀ st.mark tells₀ (inl refl) r),
    raised _ (right w),
  )

  reach_blank : wrote x ≡ false → Run g wrote content b (stored st.words (st.mark + 1))
  reach_blank w = raised _ (row_step ∙ step_none _ _ (row_written g wrote) st.mark st.words (own ∙ w))

pub cuts_reach_lem : CutsReach
cuts_reach_lem g wrote content b st r x m e =
    (reach_written g wrote content b st r x m e, reach_blank g wrote content b st r x m e)
