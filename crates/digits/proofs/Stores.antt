-- A pair of digits, and a part of a list, stored. Assumes nothing.
use Prim.Native.Nat.{ℕ, ◌+◌, ◌/◌, ◌%◌, ◌≤◌}
use mathlib.Core.Path.{◌≡◌, sym, ◌∙◌, ap, ap₂}
use mathlib.Core.List.{List, [], ◌∷◌, ◌++◌, append_assoc}
use borrow.Rule.Slice.PartMut.{put_mid}
use lib.ListN.{length, take, drop, set}
use lib.Seq.{sets, sets-eq, drop-drop}
use Rattle.digits.specs.Parts.{pair_of}
use Rattle.model.proofs.Entries.{two_stores}

pub pair_stored
    : (p : ℕ) (l : List ℕ) (o a b : ℕ) → a ≡ 48 + p / 10 → b ≡ 48 + p % 10
    → set (set l o a) (o + 1) b ≡ sets l o (pair_of p)
pair_stored p l o a b e f = two_stores l o a b ∙ ap₂ (λ a b. sets l o (a ∷ b ∷ [])) e f

-- entries copied over the n from place o on
pub part_stored
    : (l xs : List ℕ) (o n : ℕ) → n ≡ length xs → o + length xs ≤ length l → put_mid o n l xs ≡ sets l o xs
part_stored l xs o n e h =
    let behind : drop n (drop o l) ≡ drop (o + length xs) l = drop-drop n o l ∙ ap (λ k. drop (o + k) l) e in
    sym (sets-eq xs l o h ∙ append_assoc (take o l) xs (drop (o + length xs) l) ∙ ap (λ (r : List ℕ). take o l ++ (xs ++ r)) (sym behind))
