-- The new tops as they are written. Assumes nothing.
use Prim.Native.Nat.{ℕ, ◌≤◌, ◌<◌}
use mathlib.Core.Path.{◌≡◌, sym, ◌∙◌, ap}
use mathlib.Core.Logic.{⊎_elim}
use mathlib.Core.List.{List, [], ◌∷◌, ◌++◌}
use native.Mathlib.Omega.{arith}
use lib.ListN.{length, take, set, length-append}
use lib.Seq.{length-take-le}
use Rattle.model.specs.Table.{Shape, Table, bins, over}
use Rattle.model.specs.Expansion.{grown_tops}
use Rattle.model.proofs.Counts.{below_or}
use Rattle.model.proofs.Growths.{tops_more, tops_same}
use Rattle.model.proofs.Entries.{sets_over, store_behind}

-- a table of the first `old` tops, which are written over the first of `ns`
module _
    (t : Table)
    (s : Shape)
    (tops ns out : List ℕ)
    (old count : ℕ)
    (e : t.tops ≡ take old tops)
    (long : old ≤ length tops)
    (q : count ≡ length (grown_tops t s))
    (copied : out ≡ over (take old tops) ns)
  where
    held : length t.tops ≡ old
    held = ap length e ∙ length-take-le old tops long

    -- there is one block more, whose top goes behind them
    pub tops_added : (n : ℕ) → old < length ns → s.bins ≡ n → old < count → set out old n ≡ over (grown_tops t s) ns
    tops_added n room b more =
        ⊎_elim
        (λ l.
        store_behind t.tops ns out old n
        (copied ∙ ap (λ xs. over xs ns) (sym e) ∙ sym (sets_over t.tops ns (omega (arith, held))))
        (sym held)
        room
        ∙ ap (λ k. over (t.tops ++ (k ∷ [])) ns) (sym b)
        ∙ ap (λ xs. over xs ns) (sym (tops_more t s l)))
        (λ l. absurd (omega (arith, ap length (tops_same t s l), held)))
        (below_or (bins t) s.bins)

    -- there are no more blocks
    pub tops_kept : count ≤ old → out ≡ over (grown_tops t s) ns
    tops_kept same =
        ⊎_elim
        (λ l. absurd (omega (arith, ap length (tops_more t s l), length-append t.tops (s.bins ∷ []), held)))
        (λ l. copied ∙ ap (λ xs. over xs ns) (sym e ∙ sym (tops_same t s l)))
        (below_or (bins t) s.bins)
