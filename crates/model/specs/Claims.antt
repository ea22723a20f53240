-- What is proved of the definitions alone. Each claim is a type; the contract of `claims` is all of them. Assumes nothing.
use Rattle.std.specs.Prelude.{ℕ, ◌+◌, ◌%◌, ◌≤◌, ◌<◌, ◌≡◌, ◌⊎◌, ◌↔◌, true, List, map, length}
use Rattle.model.specs.Basics.{sum, before}
use Rattle.model.specs.Limits.{max_intervals, max_expansions}
use Rattle.model.specs.Table.{Shape}
use Rattle.model.specs.Due.{due, due_of_bins, due_of_block}
use Rattle.model.specs.Refusal.{rises}
use Rattle.model.specs.Room.{room}
use Rattle.model.specs.Console.{text, output}
use Rattle.model.specs.Figures.{starred, computed}
use Rattle.model.specs.Balance.{
  Balanced,
  changed,
  held_below,
  due_below,
  most,
  least,
  Optimal,
  Grows,
  Growing,
  Rival,
  total,
  AllOptimal,
  least_total,
}

-- the starred figures of document 01: what the definitions compute is what it states
abbrev pub Figures : Type 0
Figures = map computed starred ≡ map (λ f. f.stated) starred

-- the listing of document 01: the program's output for its input
abbrev pub Listing : Type 0
Listing =
    output (text "fresh 10 2\ngrow 10 3\nwhere 8\nat 2 1\ngrow 14 4\ngrow 14 5\nmoves\nwhere 14\n")
    ≡ text "ok 0 1\nok 3 2\nplace 2 9\nrefused 7\nok 0 4\nok 2 5\nmove 6 0 11 4 8\nmove 10 1 11 4 9\nrefused 6\n"

-- the closed form of due sizes
abbrev pub ClosedForm : Type 0
ClosedForm = (s : Shape) (f d : ℕ) → due_of_bins s f d + due_below s f ≡ due_below s (f + d)

-- between two sizes the dues of blocks never fall for one block and rise for another
abbrev pub OneWay : Type 0
OneWay =
    (s s' : Shape) (tops : List ℕ)
    → ((j : ℕ) → due_of_block s tops j ≤ due_of_block s' tops j) ⊎ ((j : ℕ) → due_of_block s' tops j ≤ due_of_block s tops j)

-- the dues of a map sum to B: over its bins, and over its blocks
abbrev pub DuesSum : Type 0
DuesSum = (s : Shape) → 1 ≤ s.bins → sum (due s) s.bins ≡ s.buckets

abbrev pub BlockDuesSum : Type 0
BlockDuesSum =
    (s : Shape) (tops : List ℕ) → 1 ≤ s.bins → rises tops (length tops) ≡ true → before tops (length tops) ≡ s.bins
    → sum (due_of_block s tops) (length tops) ≡ s.buckets

-- room: one interval before any expansion, m + 1 more with expansion m + 1, and with the most expansions the most intervals
abbrev pub RoomSteps : Type 0
RoomSteps = (room 0 ≡ 1) × ((m : ℕ) → room (m + 1) ≡ room m + (m + 1)) × (room max_expansions ≡ max_intervals)

-- a balanced map exists for all sizes, so a rival does
abbrev pub BalancedExists : Type 0
BalancedExists = (s : Shape) → 1 ≤ s.bins → Balanced s (λ x. x % s.bins)

-- T is the most that the old bins hold in any balanced map of the new sizes: none holds more, and one holds that many
abbrev pub MostHeld : Type 0
MostHeld =
    (s s' : Shape) → Grows s s'
    → ((g : ℕ → ℕ) → Balanced s' g → held_below g s'.buckets s.bins ≤ most s s')
    × ((g : ℕ → ℕ) × Balanced s' g × (held_below g s'.buckets s.bins ≡ most s s'))

-- one growth: at least max(0, B - T) old buckets change bins, and exactly that many just where the condition holds
abbrev pub LeastOfOne : Type 0
LeastOfOne =
    (s s' : Shape) (f g : ℕ → ℕ) → Grows s s' → Balanced s f → Balanced s' g
    → (least s s' ≤ changed f g s.buckets) × ((least s s' ≡ changed f g s.buckets) ↔ Optimal s s' f g)

-- any list of growths: the least total equals the rival's just where each of its growths meets the condition;
-- where the two differ the least total is smaller
abbrev pub LeastOfAll : Type 0
LeastOfAll =
    (s : Shape) (ss : List Shape) (r : Rival s ss) → Growing s ss
    → ((least_total s ss ≡ total r) ↔ AllOptimal r) × ((least_total s ss ≡ total r → ⊥) → least_total s ss < total r)

-- the same, decided
abbrev pub LeastDecided : Type 0
LeastDecided =
    (s : Shape) (ss : List Shape) (r : Rival s ss) → Growing s ss
    → ((least_total s ss ≡ total r) × AllOptimal r) ⊎ ((least_total s ss < total r) × (AllOptimal r → ⊥))

pub record Claims : Type 0 where
  pub figures : Figures
  pub listing : Listing
  pub closed_form : ClosedForm
  pub one_way : OneWay
  pub dues_sum : DuesSum
  pub block_dues_sum : BlockDuesSum
  pub room_steps : RoomSteps
  pub balanced_exists : BalancedExists
  pub most_held : MostHeld
  pub least_of_one : LeastOfOne
  pub least_of_all : LeastOfAll
  pub least_decided : LeastDecided
