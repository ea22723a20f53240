-- Laws of the pairs of digits from which short fields are copied. Assumes nothing.
use Prim.Native.Nat.{ℕ, ◌+◌, ◌*◌, ◌/◌, ◌%◌, ◌≤◌, ◌<◌}
use mathlib.Core.Path.{◌≡◌, refl, sym, ◌∙◌, ap}
use mathlib.Core.List.{List, [], append-nil}
use native.Mathlib.Nat.{add-zero, zero-add, min-le_right}
use native.Mathlib.Omega.{arith}
use lib.ListN.{length, get_or, take, drop, length-take}
use lib.Seq.{sets, get_or-take, get_or-drop}
use Rattle.model.specs.Basics.{from, joined}
use Rattle.model.proofs.Entries.{sets_over}
use Rattle.model.proofs.Parts.{parts_length, part_at}
use Rattle.model.proofs.Tables.{taken}
use Rattle.digits.specs.Parts.{pair_of}
use Rattle.fields.specs.Parts.{pairs_to, HoldsPairs}

-- stored from the first place on
pub pairs_held : (own out : List ℕ) → 200 ≤ length own → out ≡ sets own 0 (pairs_to 100) → HoldsPairs out
unfolding pairs_to
pairs_held own out room e =
    let size : length (pairs_to 100) ≡ 200 = parts_length pair_of 2 (λ i. refl) 0 100 in
    taken (pairs_to 100) own out 200 (e ∙ sets_over (pairs_to 100) own (omega (arith, size))) size

-- it is 200 entries long, or longer
pub pairs_long : (xs : List ℕ) → HoldsPairs xs → 200 ≤ length xs
unfolding pairs_to
pairs_long xs e =
    let size : length (take 200 xs) ≡ 200 = ap length e ∙ parts_length pair_of 2 (λ i. refl) 0 100 in
    omega (arith, length-take 200 xs, min-le_right 200 (length xs))

-- those of n stand at 2n and 2n + 1
pub pair_at
    : (xs : List ℕ) → HoldsPairs xs → (n : ℕ) → n < 100
    → (get_or xs (2 * n) 0 ≡ 48 + n / 10) × (get_or xs (2 * n + 1) 0 ≡ 48 + n % 10)
unfolding pairs_to
pair_at xs e n l =
    let two : take 2 (drop (2 * n) (take 200 xs)) ≡ pair_of n =
    ap (λ (ys : List ℕ). take 2 (drop (2 * n) ys)) (e ∙ sym (append-nil (joined (from pair_of 0 100))))
    ∙ part_at pair_of 2 (λ i. refl) 0 100 n [] l
    ∙ ap pair_of (zero-add n) in
    let entry : (m : ℕ) → m < 2 → get_or (pair_of n) m 0 ≡ get_or xs (2 * n + m) 0 =
    λ m k.
    ap (λ (ys : List ℕ). get_or ys m 0) (sym two)
    ∙ get_or-take 2 (drop (2 * n) (take 200 xs)) m 0 k
    ∙ get_or-drop (2 * n) (take 200 xs) m 0
    ∙ get_or-take 200 xs (2 * n + m) 0 (omega arith) in
    (ap (λ k. get_or xs k 0) (sym (add-zero (2 * n))) ∙ sym (entry 0 (omega arith)), sym (entry 1 (omega arith)))
