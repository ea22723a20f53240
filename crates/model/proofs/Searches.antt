-- Laws of what the two searches answer: their refusal numbers as tests, and the place of a bucket. Assumes nothing.
use Prim.Native.Nat.{ℕ, ◌≤◌, ◌<◌}
use mathlib.Core.Path.{◌≡◌, refl, sym, ◌∙◌}
use mathlib.Core.List.{List, [], ◌∷◌}
use mathlib.Core.Logic.{⊎_elim}
use native.Mathlib.Decide.{ℕ_discrete}
use native.Mathlib.Omega.{arith}
use lib.ListN.{get_or}
use lib.Dec.{ltb}
use borrow.Author.Tests.{eq-eqb, ne_eqb, le-leb, lt-leb}
use Rattle.model.specs.Basics.{if◌then◌otherwise◌}
use Rattle.model.specs.Table.{Interval, interval, Table, bins}
use Rattle.model.specs.Place.{interval_of, block_of, bin, position}
use Rattle.model.specs.Refusal.{first, searched, bucket_past, bin_past}
use Rattle.model.specs.Search.{interval_at, index_of, located, place_of, place_at, found_of, found_at}
use Rattle.model.specs.Calls.{answer, place_answer, place_tests, find_tests}
use Rattle.model.specs.TableClaims.{PlaceRefused}
use Rattle.std.specs.Prelude.{Some, None}
use Rattle.std.specs.declared.option.Option.{Option}
use Rattle.model.specs.declared.search.Located.{Located}
use Rattle.model.proofs.Counts.{bit_cases, below_or}
use Rattle.model.proofs.Refusals.{first_skip, first_clear}

-- a search's refusal as the only test left
pub first_searched : (r : ℕ) → first (searched r) ≡ r
unfolding first searched if◌then◌otherwise◌
first_searched r =
    elim (ℕ_discrete r 0) [
      | yes e ↦ rw (eq-eqb r 0 e, e)
      | no n ↦ rw (ne_eqb r 0 n)
    ]

-- a search's answer is a whole reply: where it refuses, its number and zeros
pub place_whole
    : (t : Table) (l : Option Located)
    → answer (place_of t l).refusal (place_of t l) (record { refusal = (place_of t l).refusal; bin = 0; position = 0 })
    ≡ place_of t l
unfolding answer place_of if◌then◌otherwise◌
place_whole t (Some l) = refl
place_whole t None = refl

pub found_whole
    : (t : Table) (r : ℕ) (o : Option ℕ)
    → answer (found_of t r o).refusal (found_of t r o) (record { refusal = (found_of t r o).refusal; bucket = 0 }) ≡ found_of t r o
unfolding answer found_of if◌then◌otherwise◌
found_whole t r (Some k) = refl
found_whole t r None = refl

pub place_answered : (t : Table) (x : ℕ) → place_answer (first (place_tests t x)) t x ≡ place_at t x
unfolding place_answer place_tests place_at
place_answered t x = rw (first_searched (place_of t (located t x)).refusal) (place_whole t (located t x))

-- where there is the bin, finding's refusal is the search's
pub bin_searched : (t : Table) (y p : ℕ) → y < bins t → first (find_tests t y p) ≡ (found_at t y p).refusal
unfolding find_tests bin_past
bin_searched t y p l =
    first_skip (7, bin_past t y) (searched (found_at t y p).refusal) (lt-leb (bins t) y l) ∙ first_searched (found_at t y p).refusal

-- where finding is accepted, so is the search
pub found_refusal : (t : Table) (y p : ℕ) → first (find_tests t y p) ≡ 0 → (found_at t y p).refusal ≡ 0
unfolding find_tests
found_refusal t y p e =
    sym (first_searched (found_at t y p).refusal) ∙ (first_clear (7, bin_past t y) _ (λ z. omega arith) e).1

-- PLACING

-- the interval at the place that the search answers is the bucket's
index_interval : (is : List Interval) (x : ℕ) → get_or is (index_of is x) (interval 0 0 0) ≡ interval_of is x
unfolding index_of interval_of if◌then◌otherwise◌
index_interval [] x = refl
index_interval (i ∷ rest) x =
    ⊎_elim
    (λ y. rw y.0)
    (λ n. rw n.0 (index_interval rest x))
    (bit_cases (ltb x i.end))

pub placed : (t : Table) (x : ℕ) → x < t.buckets → place_at t x ≡ record { refusal = 0; bin = bin t x; position = position t x }
unfolding place_at place_of located bucket_past interval_at if◌then◌otherwise◌ bin position block_of
placed t x l = rw (lt-leb t.buckets x l, index_interval t.intervals x)

pub outside : (t : Table) (x : ℕ) → t.buckets ≤ x → place_at t x ≡ record { refusal = 6; bin = 0; position = 0 }
unfolding place_at place_of located bucket_past if◌then◌otherwise◌
outside t x l = rw (le-leb t.buckets x l)

pub place_refused_lem : PlaceRefused
unfolding place_tests first bucket_past if◌then◌otherwise◌
place_refused_lem t x =
    first_searched (place_at t x).refusal
    ∙ ⊎_elim
    (λ l. rw (placed t x l, lt-leb t.buckets x l))
    (λ l. rw (outside t x l, le-leb t.buckets x l))
    (below_or x t.buckets)
