-- What blocks gain, and the pieces of the blocks from j on. Assumes nothing.
use Prim.Native.Nat.{ℕ, suc, ◌+◌, ◌-◌, ◌≤◌, ◌<◌}
use mathlib.Core.Path.{◌≡◌, sym, ◌∙◌, ap}
use mathlib.Core.Bool.{Bool, false}
use mathlib.Core.Logic.{⊎_elim}
use mathlib.Core.List.{List, ◌∷◌}
use native.Mathlib.Omega.{arith}
use lib.ListN.{length, get_or}
use borrow.Author.Tests.{eq-eqb, ne_eqb}
use Rattle.model.specs.Basics.{if◌then◌otherwise◌}
use Rattle.model.specs.Limits.{max_blocks}
use Rattle.model.specs.Table.{Shape, interval, Table, Arrays, arrays, table, sizes}
use Rattle.model.specs.Refusal.{first}
use Rattle.model.specs.Sound.{Formed}
use Rattle.model.specs.Calls.{growth_tests}
use Rattle.model.specs.Expansion.{grown_tops, has, due_after, some_fall, last_block, gain, pieces}
use Rattle.model.specs.declared.table.Header.{Header}
use Rattle.model.proofs.Listed.{equal_or}
use Rattle.model.proofs.Wells.{Well, formed_well}
use Rattle.model.proofs.Growths.{Accepted, accepted, block_limits, none_falls}
use Rattle.model.proofs.Filled.{last_of, pieces_last, pieces_none, pieces_one}
use Rattle.model.proofs.Steps.{pieces_length, has_most, last_lent}
use Rattle.table.specs.Formed.{arrays_of}
use Rattle.expansion_plan.specs.Shares.{DuesBefore, DuesAfter}
use Rattle.expansion_count.specs.declared.growth.Growth.{Growth}
use Rattle.expansion_count.specs.Given.{Drains, LentGrows, Shares, NoneFalls}
use Rattle.expansion_count.specs.Growths.{old_table, new_sizes}
use Rattle.expansion_count.specs.Made.{piece_of}

-- a growth by which no old block is due less
pub record Fills (h : Header) (a : Arrays) (s : Shape) (olds dues : List ℕ) : Type 0 where
  pub formed : Formed h a
  pub asked : first (growth_tests (table h a) s) ≡ 0
  pub before : DuesBefore (table h a) olds
  pub after : DuesAfter (table h a) s dues
  pub none : some_fall (table h a) s ≡ false

module _ (t : Table) (s : Shape) (j : ℕ) where
  -- the last interval's block has no piece, and the others have what they gain
  pub piece_own : j ≡ last_of t → piece_of t s j ≡ 0
  unfolding piece_of if◌then◌otherwise◌
  piece_own e = rw (eq-eqb j (last_of t) e)

  pub piece_other : (j ≡ last_of t → ⊥) → piece_of t s j ≡ gain t s j
  unfolding piece_of if◌then◌otherwise◌
  piece_other e = rw (ne_eqb j (last_of t) e)

  module _ (c g : ℕ) (l : j < g) where
    one_more : g - j ≡ suc (g - (j + 1))
    one_more = omega arith

    next : suc j ≡ j + 1
    next = omega arith

    -- a block with no piece is passed over
    pub pieces_skip : piece_of t s j ≡ 0 → pieces t s c j (g - j) ≡ pieces t s c (j + 1) (g - (j + 1))
    pieces_skip z =
        ap (pieces t s c j) one_more
        ∙ ⊎_elim
        (λ e. pieces_last t s c j (g - (j + 1)) e)
        (λ e. pieces_none t s c j (g - (j + 1)) e (sym (piece_other e) ∙ z))
        (equal_or j (last_of t))
        ∙ ap (λ k. pieces t s c k (g - (j + 1))) next

    -- and one with a piece has it before the others
    pub pieces_take
        : (piece_of t s j ≡ 0 → ⊥)
        → pieces t s c j (g - j)
        ≡ interval (c + piece_of t s j) j (c - has t j) ∷ pieces t s (c + piece_of t s j) (j + 1) (g - (j + 1))
    pieces_take n =
        let other : j ≡ last_of t → ⊥ = λ e. n (piece_own e) in
        let same = piece_other other in
        ap (pieces t s c j) one_more
        ∙ pieces_one t s c j (g - (j + 1)) other (λ z. n (same ∙ z))
        ∙ ap
        (λ k. interval (c + gain t s j) j (c - has t j) ∷ pieces t s (c + gain t s j) k (g - (j + 1)))
        next
        ∙ ap
        (λ d. interval (c + d) j (c - has t j) ∷ pieces t s (c + d) (j + 1) (g - (j + 1)))
        (sym same)

  -- how many pieces there are
  module _ (g : ℕ) (l : j < g) where
    pub count_skip : piece_of t s j ≡ 0 → length (pieces t s 0 j (g - j)) ≡ length (pieces t s 0 (j + 1) (g - (j + 1)))
    count_skip z = ap length (pieces_skip 0 g l z)

    pub count_take
        : (piece_of t s j ≡ 0 → ⊥) → length (pieces t s 0 j (g - j)) ≡ suc (length (pieces t s 0 (j + 1) (g - (j + 1))))
    count_take n =
        ap length (pieces_take 0 g l n) ∙ ap suc (pieces_length t s (g - (j + 1)) (j + 1) (0 + piece_of t s j) 0)

module _ (h : Header) (a : Arrays) (s : Shape) (olds dues : List ℕ) (f : Fills h a s olds dues) where
  pub fills_well : Well (table h a)
  fills_well = formed_well h a f.formed

  pub fills_asked : Accepted (table h a) s
  fills_asked = accepted (table h a) s f.asked

  -- no block is due less than it has
  pub fills_up : (j : ℕ) → has (table h a) j ≤ due_after (table h a) s j
  fills_up = none_falls (table h a) s fills_well fills_asked f.none

  -- what a block gains, from the arrays of dues
  pub gain_from : (j : ℕ) → j < max_blocks → get_or olds j 0 + gain (table h a) s j ≡ get_or dues j 0
  unfolding gain
  gain_from j l = omega (arith, f.before j l, f.after j l, fills_up j)

  -- there are at most 65 blocks
  pub blocks_few : (n : ℕ) → n ≡ length (grown_tops (table h a) s) → n ≤ max_blocks
  blocks_few n e = omega (arith, block_limits (table h a) s fills_well fills_asked)

  -- no block has more than the buckets up to where the pieces have come to
  pub had_below : (j at : ℕ) → j < max_blocks → h.buckets ≤ at → get_or olds j 0 ≤ at
  unfolding table
  had_below j at l b = omega (arith, f.before j l, has_most (table h a) s j)

  -- no entry of the arrays is less after the growth
  pub fills_rise : NoneFalls olds dues
  fills_rise j l = omega (arith, gain_from j l)

  -- what the pieces are made from
  pub fills_shares : Shares (table h a) s (get_or a.blocks (h.interval_count - 1) 0) olds dues
  fills_shares = record { own = sym (last_lent h a f.formed.some_intervals); before = f.before; after = f.after }

-- a growth of a table in lent arrays
module _
    {h : Header}
    {ends blocks adjustments : List ℕ}
    {buckets : ℕ}
    {olds dues : List ℕ}
    {falls : Bool}
    {count : ℕ}
    {tops : List ℕ}
    {bins : ℕ}
    (g : LentGrows h ends blocks adjustments buckets olds dues falls count tops bins)
  where
    pub grows_drains : Drains h ends blocks adjustments buckets dues tops bins
    grows_drains = record { formed = g.formed; asked = g.grows.asked; after = g.grows.after }

    -- one by which no old block is due less
    pub grows_fills : falls ≡ false → Fills h (arrays tops ends blocks adjustments) (sizes buckets bins) olds dues
    grows_fills e =
        record {
          formed = g.formed;
          asked = g.grows.asked;
          before = g.grows.before;
          after = g.grows.after;
          none = sym g.grows.falling ∙ e;
        }

-- a growth, as one of lent arrays
pub growth_lent
    : (g : Growth)
    → LentGrows g.table.header g.table.ends.now g.table.blocks.now g.table.adjustments.now g.buckets g.olds.now g.dues.now g.falls
    g.block_count g.table.tops.now g.bins
growth_lent g = record { formed = g.table.formed; grows = g.grows }

-- a growth by which no old block is due less
pub growth_fills
    : (g : Growth) → g.falls ≡ false → Fills g.table.header (arrays_of g.table) (new_sizes g) g.olds.now g.dues.now
growth_fills g e = grows_fills (growth_lent g) e

-- what the pieces of a growth are made from
pub growth_shares
    : (g : Growth) (last : ℕ) → last ≡ last_block (old_table g).intervals
    → Shares (old_table g) (new_sizes g) last g.olds.now g.dues.now
growth_shares g last e = record { own = e; before = g.grows.before; after = g.grows.after }

-- what a block gains in an interval of its own, from the arrays of dues
module _ {t : Table} {s : Shape} {last : ℕ} {olds dues : List ℕ} (shares : Shares t s last olds dues) (j : ℕ) where
  pub piece_last : j ≡ last → piece_of t s j ≡ 0
  piece_last e = piece_own t s j (e ∙ shares.own)

  pub piece_gained : j < max_blocks → (j ≡ last → ⊥) → piece_of t s j ≡ get_or dues j 0 - get_or olds j 0
  unfolding gain
  piece_gained l n =
      piece_other t s j (λ e. n (e ∙ sym shares.own))
      ∙ omega (arith, shares.before j l, shares.after j l)
