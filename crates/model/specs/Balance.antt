-- Document 01, 'A fresh map and a growth', its last two paragraphs: balanced maps, T, what enters, and a rival of demand 3.
-- A map of B and n is a function from buckets to bins. Assumes nothing.
use Rattle.std.specs.Prelude.{ℕ, ◌+◌, ◌-◌, ◌*◌, ◌/◌, ◌%◌, min, ◌≤◌, ◌<◌, ◌≡◌, ◌⊎◌, not, List, [], ◌∷◌, ltb, eqb}
use Rattle.model.specs.Basics.{count}
use Rattle.model.specs.Table.{Shape}
use Rattle.model.specs.Place.{size}

-- a balanced map of the given sizes (source 000, section 2): every bucket below B has a bin below n, and no two bins differ
-- in size by more than 1
pub record Balanced (s : Shape) (f : ℕ → ℕ) : Type 0 where
  pub within : (x : ℕ) → x < s.buckets → f x < s.bins
  pub even : (y z : ℕ) → y < s.bins → z < s.bins → size f s.buckets y ≤ size f s.buckets z + 1

-- how many of the first b buckets have another bin in g than in f
unfoldable pub changed : (ℕ → ℕ) → (ℕ → ℕ) → ℕ → ℕ
changed f g b = count (λ x. not (eqb (f x) (g x))) b

-- how many of the first b buckets the map g puts into the bins below n
unfoldable pub held_below : (ℕ → ℕ) → ℕ → ℕ → ℕ
held_below g b n = count (λ x. ltb (g x) n) b

-- what the bins below m are due, in closed form: m × floor(B/n) + min(m, B mod n)
unfoldable pub due_below : Shape → ℕ → ℕ
due_below s m = m * (s.buckets / s.bins) + min m (s.buckets % s.bins)

-- T for a growth from sizes s to sizes s', n × floor(B'/n') + min(n, B' mod n'): what the old bins are due
unfoldable pub most : Shape → Shape → ℕ
most s s' = due_below s' s.bins

-- max(0, B - T)
unfoldable pub least : Shape → Shape → ℕ
least s s' = s.buckets - most s s'

-- the growth from f to g moves no old bucket
abbrev pub MovesNone : Shape → (ℕ → ℕ) → (ℕ → ℕ) → Type 0
MovesNone s f g = (x : ℕ) → x < s.buckets → f x ≡ g x

-- no bucket, old or new, enters an old bin: one that is there after the growth was there before
abbrev pub EntersNone : Shape → Shape → (ℕ → ℕ) → (ℕ → ℕ) → Type 0
EntersNone s s' f g = (x : ℕ) → x < s'.buckets → g x < s.bins → (x < s.buckets) × (f x ≡ g x)

-- demand 3's condition on one growth
abbrev pub Optimal : Shape → Shape → (ℕ → ℕ) → (ℕ → ℕ) → Type 0
Optimal s s' f g = MovesNone s f g ⊎ (EntersNone s s' f g × (held_below g s'.buckets s.bins ≡ most s s'))

-- sizes that a growth may lead from and to
pub record Grows (s s' : Shape) : Type 0 where
  pub some : 1 ≤ s.bins
  pub buckets : s.buckets ≤ s'.buckets
  pub bins : s.bins ≤ s'.bins

abbrev pub Growing : Shape → List Shape → Type 0
Growing s [] = Unit {0}
Growing s (s' ∷ rest) = Grows s s' × Growing s' rest

-- a rival: a balanced map of the first sizes, and one more for each growth
pub data Rival : Shape → List Shape → Type 0 where
  last : {s : Shape} (f : ℕ → ℕ) → Balanced s f → Rival s []
  next : {s s' : Shape} {rest : List Shape} (f : ℕ → ℕ) → Balanced s f → Rival s' rest → Rival s (s' ∷ rest)

abbrev pub first_map : {s : Shape} {ss : List Shape} → Rival s ss → ℕ → ℕ
first_map (last f b) = f
first_map (next f b r) = f

-- the rival's total of old buckets whose bin differs, over its growths
abbrev pub total : {s : Shape} {ss : List Shape} → Rival s ss → ℕ
total (last f b) = 0
total (next {s = s} f b r) = changed f (first_map r) s.buckets + total r

-- each growth of the rival meets the condition
abbrev pub AllOptimal : {s : Shape} {ss : List Shape} → Rival s ss → Type 0
AllOptimal (last f b) = Unit {0}
AllOptimal (next {s = s} {s' = s'} f b r) = Optimal s s' f (first_map r) × AllOptimal r

-- the sum of max(0, B - T) over the growths
abbrev pub least_total : Shape → List Shape → ℕ
least_total s [] = 0
least_total s (s' ∷ rest) = least s s' + least_total s' rest
