use Prim.Native.Nat.{ℕ, ◌-◌}
use mathlib.Core.Path.{◌≡◌, refl, sym, ◌∙◌, ap}
use mathlib.Core.List.{List}
use native.Mathlib.Omega.{arith}
use lib.ListN.{length}
use Rattle.model.specs.Table.{Shape, Table, bins, table, sizes}
use Rattle.model.specs.Balance.{due_below}
use Rattle.model.specs.Lent.{lent}
use Rattle.model.specs.Expansion.{grown_tops, due_after}
use Rattle.model.specs.declared.table.Header.{Header}
use Rattle.model.proofs.Wells.{tops_length, bins_last, formed_well}
use Rattle.model.proofs.Growths.{accepted}
use Rattle.model.proofs.Shares.{due_within, new_room, After_more, after_same}
use Rattle.expansion_plan.specs.Shares.{TopsAsked}
use Rattle.expansion_plan.proofs.Turns.{formed_tops}
use Rattle.expansion_plan.proofs.Written.{dues_whole}
use Rattle.expansion_plan.proofs.dues_after.Goals as goal

-- a formed table with the tops lent
abbrev witness : {h : Header} {tops : List ℕ} {s : Shape} → TopsAsked h tops s → Table
witness {h} {tops} a = lent h tops a.whole.ends a.whole.blocks a.whole.adjustments

-- any table with these tops has the same dues
after-tops
    : (h : Header) (tops : List ℕ) (s : Shape) (ends blocks adjustments ends' blocks' adjustments' : List ℕ) (j : ℕ)
    → due_after (lent h tops ends blocks adjustments) s j ≡ due_after (lent h tops ends' blocks' adjustments') s j
unfolding due_after grown_tops bins table
after-tops h tops s ends blocks adjustments ends' blocks' adjustments' j = refl

pub block_dues-requires-clause-tops_within : goal.block_dues-requires-clause-tops_within
block_dues-requires-clause-tops_within c =
    let a = c.requires.tops_asked in
    let formed = a.whole.formed in
    formed_tops _ _ formed _ (omega (arith, bins_last _ _ formed, (accepted _ _ a.asked).more_bins))

pub bounds-dues-h : goal.bounds-dues-h
bounds-dues-h c =
    let a = c.requires.tops_asked in
    let t = witness a in
    let z = sizes c.args.buckets c.args.bins in
    omega (
      arith,
      tops_length _ _ a.whole.formed,
      new_room t z (formed_well _ _ a.whole.formed) (accepted t z a.asked)
          (omega (arith, c.bin_count-old.ensures a.whole.ends a.whole.blocks a.whole.adjustments, c.if-old-bins.true)),
    )

pub returns-then-old-bins : goal.returns-then-old-bins
unfolding due_below table
returns-then-old-bins c ends blocks adjustments j l =
    let a = c.requires.tops_asked in
    let t = witness a in
    let z = sizes c.args.buckets c.args.bins in
    let asked = accepted t z a.asked in
    let old = c.bin_count-old.ensures a.whole.ends a.whole.blocks a.whole.adjustments in
    let within = due_within z c.bin_count-old.result (omega (arith, old, asked.more_bins)) in
    (rw (tops_length _ _ a.whole.formed) at
    (After_more t z (formed_well _ _ a.whole.formed) asked (omega (arith, old, c.if-old-bins.true))
    (c.args.buckets - c.due_below.result)
    c.block_dues.new.dues
    (c.block_dues.ensures.cells ∙ ap length c.requires.dues_value)
    (omega (arith, within, c.due_below.ensures, ap (due_below z) old))
    (λ k b. dues_whole _ _ _ _ _ c.block_dues.ensures a.whole.formed.tops_long c.requires.dues_value k)
    j
    l))
    ∙ after-tops _ _ z _ _ _ ends blocks adjustments j

pub returns-else-old-bins : goal.returns-else-old-bins
unfolding table
returns-else-old-bins c ends blocks adjustments j l =
    let t = lent c.args.h c.args.tops.now ends blocks adjustments in
    let z = sizes c.args.buckets c.args.bins in
    dues_whole _ _ _ _ _ c.block_dues.ensures c.requires.tops_asked.whole.formed.tops_long c.requires.dues_value j
    ∙ sym (after_same t z (omega (arith, c.bin_count-old.ensures ends blocks adjustments, c.if-old-bins.false)) j)
