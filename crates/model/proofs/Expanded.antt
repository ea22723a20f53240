-- A growth's table: which buckets stay, and that it is sound. Assumes nothing.
use Prim.Native.Nat.{ℕ, ◌≤◌, ◌<◌}
use mathlib.Core.Path.{◌≡◌, sym, ◌∙◌, ap, subst}
use mathlib.Core.Logic.{◌⊎◌, inl, inr, ⊎_elim}
use mathlib.Core.Bool.{Bool, true, false}
use mathlib.Core.List.{List, [], ◌∷◌, ◌++◌}
use native.Mathlib.Decide.{ℕ_discrete}
use native.Mathlib.Omega.{arith}
use lib.ListN.{length}
use borrow.Author.Tests.{ltb-false, eq-eqb}
use Rattle.model.specs.Basics.{if◌then◌otherwise◌}
use Rattle.model.specs.Limits.{max_capacity, max_intervals}
use Rattle.model.specs.Table.{Shape, Interval, Table, bins, shape, Arrays, table, header, written}
use Rattle.model.specs.Place.{interval_of, block_of, rank, size}
use Rattle.model.specs.Due.{due_of_block}
use Rattle.model.specs.Refusal.{Test, first, overfills, intervals_full, capacity_outside, room_short}
use Rattle.model.specs.Sound.{Sound}
use Rattle.model.specs.Expansion.{grown_tops, due_after, some_fall, filled, drained, expanded, moved}
use Rattle.model.specs.Calls.{table_tests, growth_tests, answer, table_reply, arrays_after, expand_refusal, expand_reply, expand_arrays, order_tests, relocations_refusal}
use Rattle.model.specs.TableClaims.{SoundIff}
use Rattle.model.specs.ExpansionClaims.{ExpandSound, ExpandRead, CapacityKept, RefusedAlike, Stays, ExpandStays}
use Rattle.model.specs.declared.table.Header.{Header}
use Rattle.model.proofs.Counts.{bit_cases, below_or}
use Rattle.model.proofs.Listed.{Placed, size_same, tells_same, tells_placed}
use Rattle.model.proofs.Wells.{Well, tops_length, formed_well, well_formed}
use Rattle.model.proofs.Growths.{Accepted, accepted, roomy, old_below, tops_last, new_rise, block_limits, none_falls, some_more, Grown}
use Rattle.model.proofs.Filled.{filled_block, filled_old, filled_grown}
use Rattle.model.proofs.Drained.{drained_block, drained_stays, drained_moves, drained_new, drained_kept, drained_grown}
use Rattle.model.proofs.Refusals.{first_number, first_both, first_here, first_skip, first_none, first_found, first_after, Numbered, not_outside}
use Rattle.model.proofs.Tables.{table_written}
use Rattle.model.proofs.Capacities.{due_sound}
use Rattle.model.proofs.Soundness.{table_numbered, growth_numbered, table_left}

-- the new table with given intervals
abbrev pub grown_table : Table → Shape → List Interval → Table
grown_table t s is = record { buckets = s.buckets; capacity = t.capacity; tops = grown_tops t s; intervals = is }

-- its sizes are those asked for
pub grown_shape
    : (t : Table) (s : Shape) (is : List Interval) → Well t → Accepted t s → shape (grown_table t s is) ≡ s
unfolding shape bins
grown_shape t s is w a = λ i. record { buckets = s.buckets; bins = tops_last t s w a i }

module _ (t : Table) (s : Shape) (b : ℕ → ℕ) (is : List Interval) (g : Grown t s b is) where
  -- the interval of a bucket of the new table
  pub grown_placed : (x : ℕ) → x < s.buckets → Placed b (length (grown_tops t s)) x (interval_of is x)
  grown_placed x l = tells_placed b (length (grown_tops t s)) 0 is s.buckets g.tells x (omega arith) l

  -- so its block is that of the map
  pub grown_block : (x : ℕ) → x < s.buckets → block_of (grown_table t s is) x ≡ b x
  unfolding block_of
  grown_block x l = (grown_placed x l).block

  -- a bucket whose block, and the number of that block's buckets before it, are the old ones stays
  pub grown_stays
      : Well t → (x : ℕ) → x < t.buckets → x < s.buckets → b x ≡ block_of t x
      → size b x (block_of t x) ≡ size (block_of t) x (block_of t x) → Stays t (grown_table t s is) x
  unfolding rank
  grown_stays w x l k e q = (
    grown_block x k ∙ e,
    (grown_placed x k).rank
        ∙ ap (size b x) e
        ∙ q
        ∙ sym (tells_placed (block_of t) (length t.tops) 0 t.intervals t.buckets w.tells x (omega arith) l).rank,
  )

  -- the new table is well formed
  pub grown_well : Well t → Accepted t s → length is ≤ max_intervals → Well (grown_table t s is)
  unfolding bins due_after
  grown_well w a l =
      record {
        some_buckets = a.some_buckets;
        bucket_limit = a.bucket_limit;
        some_blocks = (block_limits t s w a).0;
        block_limit = (block_limits t s w a).1;
        interval_limit = l;
        tops_rise = new_rise t s w a;
        bin_limit = omega (arith, tops_last t s w a, a.bin_limit);
        bins_few = omega (arith, tops_last t s w a, a.bins_few);
        tells =
            tells_same b (block_of (grown_table t s is)) (length (grown_tops t s)) (length (grown_tops t s)) 0 is s.buckets
            (λ x l. sym (grown_block x l))
            (omega arith)
            g.tells;
        holdings =
            λ j l.
            size_same (block_of (grown_table t s is)) b s.buckets j grown_block
            ∙ g.dues j l
            ∙ ap (λ z. due_of_block z (grown_tops t s) j) (sym (grown_shape t s is w a));
      }

-- EXPANDED

module _ (t : Table) (s : Shape) where
  -- the table of each of the two cases
  pub expanded_drained : some_fall t s ≡ true → expanded t s ≡ grown_table t s (drained t s)
  unfolding expanded if◌then◌otherwise◌
  expanded_drained e = rw e

  pub expanded_filled : some_fall t s ≡ false → expanded t s ≡ grown_table t s (filled t s)
  unfolding expanded if◌then◌otherwise◌
  expanded_filled e = rw e

-- the new table is well formed
pub expanded_well
    : (t : Table) (s : Shape) → Well t → Accepted t s → length (expanded t s).intervals ≤ max_intervals → Well (expanded t s)
expanded_well t s w a l =
    ⊎_elim
    (λ e.
    let same = expanded_drained t s e.0 in
    subst Well (sym same)
    (grown_well t s (drained_block t s) (drained t s) (drained_grown t s w a e.0) w a
    (subst (λ u. length u.intervals ≤ max_intervals) same l)))
    (λ e.
    let same = expanded_filled t s e.0 in
    subst Well (sym same)
    (grown_well t s (filled_block t s) (filled t s) (filled_grown t s w a (none_falls t s w a e.0)) w a
    (subst (λ u. length u.intervals ≤ max_intervals) same l)))
    (bit_cases (some_fall t s))

-- no old bucket moves
filled_stays
    : (t : Table) (s : Shape) → Well t → Accepted t s → some_fall t s ≡ false
    → (x : ℕ) → x < t.buckets → Stays t (grown_table t s (filled t s)) x
filled_stays t s w a e x l =
    grown_stays t s (filled_block t s) (filled t s) (filled_grown t s w a (none_falls t s w a e)) w x l
    (omega (arith, a.more_buckets))
    (filled_old t s x l)
    (size_same (filled_block t s) (block_of t) x (block_of t x) (λ z k. filled_old t s z (omega arith)))

-- a bucket stays or goes to the new block
drained_either
    : (t : Table) (s : Shape) → Well t → Accepted t s → some_fall t s ≡ true → (x : ℕ) → x < s.buckets
    → ((x < t.buckets) × Stays t (grown_table t s (drained t s)) x)
    ⊎ (block_of (grown_table t s (drained t s)) x ≡ length t.tops)
drained_either t s w a e x l =
    let g = drained_grown t s w a e in
    let moves = grown_block t s (drained_block t s) (drained t s) g x l in
    ⊎_elim
    (λ k.
    ⊎_elim
    (λ m.
    inl (
      k,
      grown_stays t s (drained_block t s) (drained t s) g w x k l
          (drained_stays t s x k m)
          (omega (arith, drained_kept t s (block_of t x) x (old_below t w x k) (omega arith))),
    ))
    (λ m. inr (moves ∙ drained_moves t s x m))
    (below_or (size (block_of t) x (block_of t x)) (due_after t s (block_of t x))))
    (λ k. inr (moves ∙ drained_new t s x k))
    (below_or x t.buckets)

-- a growth moves no old bucket, or adds a block for all that does not stay
pub expanded_stays
    : (t : Table) (s : Shape) → Well t → Accepted t s
    → ((x : ℕ) → x < t.buckets → Stays t (expanded t s) x)
    ⊎ ((bins t < s.bins)
    × ((x : ℕ) → x < s.buckets
    → ((x < t.buckets) × Stays t (expanded t s) x) ⊎ (block_of (expanded t s) x ≡ length t.tops)))
expanded_stays t s w a =
    ⊎_elim
    (λ e. inr (some_more t s w a e.0, rw (expanded_drained t s e.0) (drained_either t s w a e.0)))
    (λ e. inl (rw (expanded_filled t s e.0) (filled_stays t s w a e.0)))
    (bit_cases (some_fall t s))

pub expand_stays_lem : ExpandStays
unfolding table
expand_stays_lem h a s formed q =
    rw (tops_length h a formed) at (expanded_stays (table h a) s (formed_well h a formed) (accepted (table h a) s q))

-- SOUNDNESS

-- what an accepted call's tests say
pub expand_passes
    : (h : Header) (a : Arrays) (s : Shape) (out : Arrays) → expand_refusal h a s out ≡ 0
    → (first (table_tests h a) ≡ 0)
    × (first (growth_tests (table h a) s) ≡ 0)
    × (length (expanded (table h a) s).intervals ≤ max_intervals)
unfolding expand_refusal intervals_full table_tests
expand_passes h a s out q =
    let (room, q₁) = first_number 21 (room_short out) _ (omega arith) q in
    let (tests, q₂) = first_both (table_tests h a) _ (table_numbered h a) q₁ in
    let (growth, q₃) = first_both (growth_tests (table h a) s) _ (growth_numbered (table h a) s) q₂ in
    let (full, q₄) = first_number 8 (intervals_full (table h a) s) [] (omega arith) q₃ in
    (tests, growth, ltb-false _ _ full)

-- the table of a growth of a sound one, if it needs no more intervals than there may be, is sound
pub grown_sound
    : (h : Header) (a : Arrays) (s : Shape) (out : Arrays) → Sound h a → first (growth_tests (table h a) s) ≡ 0
    → length (expanded (table h a) s).intervals ≤ max_intervals
    → Sound (header (expanded (table h a) s)) (written (expanded (table h a) s) out)
unfolding header expanded capacity_outside table
grown_sound h a s out sound growth limit =
    let t = table h a in
    let ok = accepted t s growth in
    let old = formed_well h a sound.formed in
    let w = expanded_well t s old ok limit in
    due_sound _ _ (well_formed (expanded t s) w out)
    (not_outside max_capacity t.capacity sound.some_capacity sound.capacity_limit)
    (ap (overfills t.capacity) (ap shape (table_written (expanded t s) out) ∙ grown_shape t s (expanded t s).intervals old ok) ∙ roomy t s growth)

-- the table of an accepted growth is sound, as the check answers 0 just for sound tables
pub expand_sound_lem : SoundIff → ExpandSound
unfolding expand_reply expand_arrays table_reply arrays_after answer if◌then◌otherwise◌
expand_sound_lem sound_iff_lem h a s out q =
    let t = table h a in
    let (tests, growth, limit) = expand_passes h a s out q in
    rw (eq-eqb (expand_refusal h a s out) 0 q) (grown_sound h a s out ((sound_iff_lem h a).0 tests) growth limit)

-- and it is the table of its definition
pub expand_read_lem : ExpandRead
unfolding expand_reply expand_arrays
expand_read_lem h a s out q = table_left (expand_refusal h a s out) (moved (table h a) (expanded (table h a) s)) _ out q

-- which has the capacity of the old one
pub capacity_kept_lem : CapacityKept
unfolding header expanded table
capacity_kept_lem h a s out q = ap (λ (g : Header). g.capacity) (expand_read_lem h a s out q).0

-- REFUSALS

-- two lists of tests that begin alike: a refusal by the beginning is that of both
first_alike
    : (ts us vs : List Test) → Numbered ts → (r : ℕ) → (first us ≡ r → first vs ≡ r) → first (ts ++ us) ≡ r → first (ts ++ vs) ≡ r
first_alike ts us vs n r ends e =
    elim (ℕ_discrete (first ts) 0) [
      | yes z ↦ first_after ts vs n z ∙ ends (sym (first_after ts us n z) ∙ e)
      | no z ↦ first_found ts vs z ∙ sym (first_found ts us z) ∙ e
    ]

-- a single test brings about its own number alone
pub first_only : (k : ℕ) (b : Bool) (r : ℕ) → (r ≡ 0 → ⊥) → (r ≡ k → ⊥) → first ((k, b) ∷ []) ≡ r → ⊥
first_only k b r none other e =
    ⊎_elim
    (λ t. other (sym e ∙ first_here (k, b) [] t.0))
    (λ f. none (sym e ∙ first_skip (k, b) [] f.0 ∙ first_none))
    (bit_cases b)

-- calls that test a table and a growth's sizes first are refused by those alike
pub growth_alike
    : (h : Header) (a : Arrays) (s : Shape) (us vs : List Test) (r : ℕ) → (first us ≡ r → first vs ≡ r)
    → first (table_tests h a ++ (growth_tests (table h a) s ++ us)) ≡ r
    → first (table_tests h a ++ (growth_tests (table h a) s ++ vs)) ≡ r
growth_alike h a s us vs r ends =
    first_alike (table_tests h a) _ _ (table_numbered h a) r
    (first_alike (growth_tests (table h a) s) us vs (growth_numbered (table h a) s) r ends)

pub refused_alike_lem : RefusedAlike
unfolding expand_refusal relocations_refusal order_tests table_tests
refused_alike_lem h a s out q r room none eight nine = (
  λ e. growth_alike h a s _ _ r (λ z. absurd (first_only 8 _ r none eight z)) (sym skip ∙ e),
  λ e. skip ∙ growth_alike h a s _ _ r (λ z. absurd (first_only 9 _ r none nine z)) e,
)
  where
    t : Table
    t = table h a

    skip : expand_refusal h a s out ≡ first (table_tests h a ++ (growth_tests t s ++ ((8, intervals_full t s) ∷ [])))
    skip = first_skip (21, room_short out) _ room
