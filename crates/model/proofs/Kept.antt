-- The claims on growth and on totals, closed: what the theorems of Moves and Totals ask for is proved. Assumes nothing.
use Prim.Native.Nat.{ℕ, ◌<◌}
use mathlib.Core.Path.{◌≡◌, sym, ◌∙◌, ap, ap₂}
use mathlib.Core.Logic.{⊎_elim}
use mathlib.Core.Bool.{not}
use mathlib.Core.List.{List}
use native.Mathlib.Omega.{arith}
use lib.Dec.{eqb}
use lib.ListN.{length}
use lib.Seq.{get_or-take}
use Rattle.model.specs.Basics.{bit, count}
use Rattle.model.specs.Table.{Shape, Interval, Table, shape, Arrays, table, header}
use Rattle.model.specs.Place.{bin, held, size}
use Rattle.model.specs.Sound.{Sound}
use Rattle.model.specs.Expansion.{due_after, some_fall, drained, filled, expanded, differs, moved}
use Rattle.model.specs.Calls.{table_tests, expand_refusal, expand_reply, place_answer, place_reply}
use Rattle.model.specs.Balance.{changed}
use Rattle.model.specs.ExpansionClaims.{ExpandSound, ExpandPlaces, MovedLeast, MovedReplies, LeastTotal, LeastTotalDecided, LeftSound}
use Rattle.model.specs.declared.table.Header.{Header}
use Rattle.model.specs.declared.reply.PlaceReply.{PlaceReply}
use Rattle.model.proofs.Counts.{bit_cases, sum_ext}
use Rattle.model.proofs.Refusals.{first_after}
use Rattle.model.proofs.Searches.{place_answered, placed}
use Rattle.model.proofs.Soundness.{sound_iff_lem, table_numbered}
use Rattle.model.proofs.Listed.{size_same}
use Rattle.model.proofs.Wells.{Well, due_same, tops_length, formed_well}
use Rattle.model.proofs.Growths.{Accepted, accepted, due_old, none_falls, length_either, Grown}
use Rattle.model.proofs.Filled.{filled_block, filled_grown}
use Rattle.model.proofs.Drained.{drained_block, drained_grown}
use Rattle.model.proofs.Expanded.{grown_table, grown_block, expanded_drained, expanded_filled, expand_stays_lem, expand_passes, expand_sound_lem, expand_read_lem}
use Rattle.model.proofs.Moves.{OldHoldings, grows, expand_places_lem, moved_least_lem}
use Rattle.model.proofs.Totals.{moved_accepted, least_total_lem, least_total_decided_lem, sound_after}

-- an old block of the new table holds its due
grown_held
    : (t : Table) (s : Shape) (b : ℕ → ℕ) (is : List Interval) → Well t → Accepted t s → Grown t s b is
    → (j : ℕ) → j < length t.tops → held (grown_table t s is) j s.buckets ≡ due_after t s j
unfolding held size
grown_held t s b is w a g j l =
    size_same _ b s.buckets j (grown_block t s b is g)
    ∙ g.dues j
    (⊎_elim (λ e. omega (arith, e.1)) (λ e. omega (arith, e.1)) (length_either t s w a))

expanded_held
    : (t : Table) (s : Shape) → Well t → Accepted t s → (j : ℕ) → j < length t.tops
    → held (expanded t s) j s.buckets ≡ due_after t s j
expanded_held t s w a j l =
    ⊎_elim
    (λ e.
    ap (λ u. held u j s.buckets) (expanded_drained t s e.0)
    ∙ grown_held t s (drained_block t s) (drained t s) w a (drained_grown t s w a e.0) j l)
    (λ e.
    ap (λ u. held u j s.buckets) (expanded_filled t s e.0)
    ∙ grown_held t s (filled_block t s) (filled t s) w a (filled_grown t s w a (none_falls t s w a e.0)) j l)
    (bit_cases (some_fall t s))

pub old_holdings : OldHoldings
unfolding table
old_holdings h a s formed q j l =
    let t = table h a in
    let below : j < length t.tops = omega (arith, tops_length h a formed) in
    expanded_held t s (formed_well h a formed) (accepted t s q) j below
    ∙ due_old t s j below
    ∙ due_same s t.tops a.tops h.block_count (λ i k. get_or-take h.block_count a.tops i 0 k) j l

pub expand_is_sound : ExpandSound
expand_is_sound = expand_sound_lem sound_iff_lem

pub places_kept : ExpandPlaces
places_kept = expand_places_lem expand_stays_lem

pub moved_is_least : MovedLeast
moved_is_least = moved_least_lem expand_stays_lem old_holdings

-- `place` answers the bin of a bucket of a sound table
place_accepted : (h : Header) (a : Arrays) → Sound h a → (x : ℕ) → x < h.buckets → (place_reply h a x).bin ≡ bin (table h a) x
unfolding place_reply table
place_accepted h a s x l =
    ap (λ (p : PlaceReply). p.bin)
    (ap (λ r. place_answer r (table h a) x) (first_after (table_tests h a) _ (table_numbered h a) ((sound_iff_lem h a).1 s))
    ∙ place_answered (table h a) x
    ∙ placed (table h a) x l)

pub moved_replies_lem : MovedReplies
unfolding expand_reply moved changed count differs table shape expanded header
moved_replies_lem h a s out e =
    let (tests, growth, limit) = expand_passes h a s out e in
    let sound = (sound_iff_lem h a).0 tests in
    let (new-header, new-table) = expand_read_lem h a s out e in
    moved_accepted (expand_refusal h a s out) (moved (table h a) (expanded (table h a) s)) (expanded (table h a) s) e
    ∙ sum_ext _ _ h.buckets
    (λ x l.
    ap₂ (λ y z. bit (not (eqb y z)))
    (sym (place_accepted h a sound x l))
    (sym
    (place_accepted _ _ (expand_is_sound h a s out e) x
    (omega (arith, (grows h a s sound.formed growth).buckets, ap (λ (g : Header). g.buckets) new-header))
    ∙ ap (λ t. bin t x) new-table)))

pub total_is_least : LeastTotal
total_is_least = least_total_lem moved_is_least

pub total_decided : LeastTotalDecided
total_decided = least_total_decided_lem moved_is_least

pub left_sound_lem : LeftSound
left_sound_lem = sound_after expand_is_sound
