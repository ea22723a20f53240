-- Demand 3: the calls of any history leave tables of the accepted sizes and move the least in total, so no rival moves less.
-- Assumes nothing.
use Prim.Native.Nat.{ℕ, ◌+◌, ◌≤◌}
use mathlib.Core.Path.{◌≡◌, refl, sym, ◌∙◌, ap, ap₂, subst₂}
use mathlib.Core.Logic.{⊎_elim}
use mathlib.Core.List.{List, [], ◌∷◌, ◌++◌}
use native.Mathlib.Decide.{ℕ_discrete}
use native.Mathlib.Numerals.{add-one}
use native.Mathlib.Omega.{arith}
use lib.ListN.{length, length-append}
use lib.Seq.{get_or-append_seam}
use borrow.Author.Tests.{lt-ltb, le-ltb}
use Rattle.model.specs.Basics.{if◌then◌otherwise◌, before}
use Rattle.model.specs.Table.{Shape, Table, bins, shape, Arrays, table}
use Rattle.model.specs.Sound.{Sound}
use Rattle.model.specs.Initial.{initial}
use Rattle.model.specs.Expansion.{grown_tops, expanded, moved}
use Rattle.model.specs.Calls.{table_reply, initial_refusal, expand_refusal, expand_reply}
use Rattle.model.specs.Balance.{least, Grows, Growing, least_total}
use Rattle.model.specs.History.{Call, State, table_of, started, reply_of, next, Played, added, played, Lends, handed_on}
use Rattle.model.specs.ExpansionClaims.{ExpandSound, MovedLeast, LeastTotal, LeastTotalDecided, LeftLends, LeftSound}
use Rattle.model.specs.declared.reply.TableReply.{TableReply}
use Rattle.model.proofs.Counts.{below_or}
use Rattle.model.proofs.Rivals.{least_of_all_lem, least_decided_lem}
use Rattle.model.proofs.Moves.{grows}
use Rattle.model.proofs.Refusals.{accepted, refused}
use Rattle.model.proofs.Soundness.{sound_iff_lem, initial_sound_lem, initial_read_lem}
use Rattle.model.proofs.Expanded.{expand_passes, expand_read_lem}

-- REPLIES

-- the refusal number of a reply, and its moved count
reply_refusal : (r m : ℕ) (t : Table) → (table_reply r m t).refusal ≡ r
unfolding table_reply
reply_refusal r m t =
    elim (ℕ_discrete r 0) [
      | yes e ↦ ap (λ (p : TableReply). p.refusal) (accepted r _ _ e) ∙ sym e
      | no e ↦ ap (λ (p : TableReply). p.refusal) (refused r _ _ e)
    ]

pub moved_accepted : (r m : ℕ) (t : Table) → r ≡ 0 → (table_reply r m t).moved ≡ m
unfolding table_reply
moved_accepted r m t e = ap (λ (p : TableReply). p.moved) (accepted r _ _ e)

moved_refused : (r m : ℕ) (t : Table) → (r ≡ 0 → ⊥) → (table_reply r m t).moved ≡ 0
unfolding table_reply
moved_refused r m t e = ap (λ (p : TableReply). p.moved) (refused r _ _ e)

-- SIZES

shape_initial : (s : Shape) (p : ℕ) → shape (initial s p) ≡ s
unfolding shape bins initial before
shape_initial s p = refl

-- the last of a list's entries
last_entry : (xs : List ℕ) (y : ℕ) → before (xs ++ (y ∷ [])) (length (xs ++ (y ∷ []))) ≡ y
unfolding before
last_entry xs y =
    ap (before (xs ++ (y ∷ []))) (length-append xs (y ∷ []) ∙ add-one (length xs)) ∙ get_or-append_seam xs y [] 0

-- the new table has the sizes asked for, where these are no smaller
bins_expanded : (t : Table) (s : Shape) → bins t ≤ s.bins → bins (expanded t s) ≡ s.bins
unfolding bins expanded grown_tops if◌then◌otherwise◌
bins_expanded t s l =
    ⊎_elim
    (λ m. rw (lt-ltb (bins t) s.bins m) (last_entry t.tops s.bins))
    (λ m. rw (le-ltb (bins t) s.bins m) (omega arith))
    (below_or (bins t) s.bins)

shape_expanded : (t : Table) (s : Shape) → Grows (shape t) s → shape (expanded t s) ≡ s
unfolding shape expanded
shape_expanded t s g = ap (λ n. record { buckets = s.buckets; bins = n }) (bins_expanded t s g.bins)

-- ONE CALL

-- the table that it is lent, and the one that it makes of it where it is accepted
abbrev lent : State → Call → Table
lent st c = table st.header c.given

abbrev new : State → Call → Table
new st c = expanded (lent st c) c.sizes

module _ (st : State) (c : Call) where
  refusal_of : (reply_of st c).refusal ≡ expand_refusal st.header c.given c.sizes c.out
  unfolding reply_of expand_reply
  refusal_of = reply_refusal _ _ _

  -- a refused call moves nothing and leaves the table that was there
  module _ (e : (reply_of st c).refusal ≡ 0 → ⊥) where
    moved_none : (reply_of st c).moved ≡ 0
    unfolding reply_of expand_reply
    moved_none = moved_refused _ _ _ (λ z. e (refusal_of ∙ z))

    table_kept : table_of (next st c) ≡ table_of st
    unfolding next
    table_kept = ap₂ table (refused _ _ _ e) (refused _ _ _ e)

    sound_kept : Sound st.header st.arrays → Sound (next st c).header (next st c).arrays
    unfolding next
    sound_kept = subst₂ Sound (sym (refused _ _ _ e)) (sym (refused _ _ _ e))

  -- an accepted one replies with the moved count and leaves the new table
  module _ (e : (reply_of st c).refusal ≡ 0) where
    call_accepted : expand_refusal st.header c.given c.sizes c.out ≡ 0
    call_accepted = sym refusal_of ∙ e

    moved_new : (reply_of st c).moved ≡ moved (lent st c) (new st c)
    unfolding reply_of expand_reply
    moved_new = moved_accepted _ _ _ call_accepted

    table_new : table_of (next st c) ≡ new st c
    unfolding next reply_of
    table_new =
        ap₂ table (accepted _ _ _ e) (accepted _ _ _ e)
        ∙ (expand_read_lem st.header c.given c.sizes c.out call_accepted).1

    sound_new : ExpandSound → Sound (next st c).header (next st c).arrays
    unfolding next reply_of
    sound_new grown =
        subst₂ Sound (sym (accepted _ _ _ e)) (sym (accepted _ _ _ e))
        (grown st.header c.given c.sizes c.out call_accepted)

-- A LIST OF CALLS

-- calls move the least in total, and the sizes of the accepted ones grow
abbrev Least : Shape → Played → Type 0
Least s p = (p.moved ≡ least_total s p.shapes) × Growing s p.shapes

module _ (s z : Shape) (r : TableReply) (p : Played) where
  -- a call adds the buckets that it moved, and its sizes where it is accepted
  moved_added : (added r z p).moved ≡ r.moved + p.moved
  unfolding added
  moved_added = refl

  shapes_refused : (r.refusal ≡ 0 → ⊥) → (added r z p).shapes ≡ p.shapes
  unfolding added
  shapes_refused e = refused _ _ _ e

  shapes_accepted : r.refusal ≡ 0 → (added r z p).shapes ≡ z ∷ p.shapes
  unfolding added
  shapes_accepted e = accepted _ _ _ e

  -- so calls move the least with a refused one in front of them, and with an accepted one that moves the least
  least_refused : (r.refusal ≡ 0 → ⊥) → r.moved ≡ 0 → Least s p → Least s (added r z p)
  least_refused e m rest = rw (shapes_refused e) (omega (arith, moved_added), rest.1)

  least_accepted : r.refusal ≡ 0 → r.moved ≡ least s z → Grows s z → Least z p → Least s (added r z p)
  least_accepted e m g rest = rw (shapes_accepted e) (omega (arith, moved_added), (g, rest.1))

-- so does any list of calls, each of which is lent the table that the calls before it left
totals : MovedLeast → (cs : List Call) (st : State) → Lends st cs → Least (shape (table_of st)) (played st cs)
unfolding played
totals exact [] st lends = (refl, tt)
totals exact (c ∷ cs) st (same, lends) =
    let rest = totals exact cs (next st c) lends in
    elim (ℕ_discrete (reply_of st c).refusal 0) [
      | no e ↦
          least_refused (shape (table_of st)) c.sizes (reply_of st c) _ e (moved_none st c e)
          (rw (table_kept st c e) at rest)
      | yes e ↦
          let (tests, growth, limit) = expand_passes st.header c.given c.sizes c.out (call_accepted st c e) in
          let formed = ((sound_iff_lem st.header c.given).0 tests).formed in
          let sizes = grows st.header c.given c.sizes formed growth in
          let exactly = moved_new st c e ∙ (exact st.header c.given c.sizes formed growth).0 in
          least_accepted (shape (table_of st)) c.sizes (reply_of st c) _ e
          (rw same at exactly)
          (rw same at sizes)
          (rw (table_new st c e, shape_expanded (lent st c) c.sizes sizes) at rest)
    ]

module _ (exact : MovedLeast) (s : Shape) (p : ℕ) (out : Arrays) (e : initial_refusal s p out ≡ 0) where
  -- an accepted fresh call leaves a table of its sizes
  started_shape : shape (table_of (started s p out)) ≡ s
  unfolding started
  started_shape = ap shape (initial_read_lem s p out e).1 ∙ shape_initial s p

  -- and all calls after it move the least in total
  started_least : (cs : List Call) → Lends (started s p out) cs → Least s (played (started s p out) cs)
  started_least cs lends = rw started_shape at (totals exact cs (started s p out) lends)

-- no rival moves less, and one that moves as little meets the condition in each of its growths
pub least_total_lem : MovedLeast → LeastTotal
least_total_lem exact s p out cs e lends r =
    let (same, sizes) = started_least exact s p out e cs lends in
    rw same (least_of_all_lem s (played (started s p out) cs).shapes r sizes)

pub least_total_decided_lem : MovedLeast → LeastTotalDecided
least_total_decided_lem exact s p out cs e lends r =
    let (same, sizes) = started_least exact s p out e cs lends in
    rw same (least_decided_lem s (played (started s p out) cs).shapes r sizes)

-- WHAT IS LENT

-- the arrays that were left hold the table
lends_left : (asked : List (Shape × Arrays)) (st : State) → Lends st (handed_on st asked)
unfolding handed_on
lends_left [] st = tt
lends_left (q ∷ asked) st = (refl, lends_left asked _)

pub left_lends_lem : LeftLends
left_lends_lem st asked = lends_left asked st

-- and are sound
sound_left : ExpandSound → (cs : List Call) (st : State) → Sound st.header st.arrays
    → Sound (played st cs).left.header (played st cs).left.arrays
unfolding played added
sound_left grown [] st sound = sound
sound_left grown (c ∷ cs) st sound =
    sound_left grown cs (next st c)
    (elim (ℕ_discrete (reply_of st c).refusal 0) [
      | no e ↦ sound_kept st c e sound
      | yes e ↦ sound_new st c e grown
    ])

pub sound_after : ExpandSound → LeftSound
unfolding started
sound_after grown s p out cs e = sound_left grown cs (started s p out) (initial_sound_lem s p out e)
