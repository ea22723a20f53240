-- Laws of a page filled part by part. Assumes nothing.
use Prim.Native.Nat.{ℕ, ◌+◌, ◌-◌, ◌*◌, ◌/◌, min, ◌≤◌}
use mathlib.Core.Path.{◌≡◌, sym, ◌∙◌, ap, ap₂}
use mathlib.Core.Logic.{⊎_elim}
use mathlib.Core.List.{List, [], ◌++◌, append-nil}
use native.Mathlib.Omega.{arith}
use lib.ListN.{length, drop, length-append}
use lib.Seq.{take_at, drop-append-add, drop-drop}
use Rattle.model.specs.Basics.{from, joined}
use Rattle.model.specs.Table.{over}
use Rattle.model.specs.Relocations.{page}
use Rattle.model.proofs.Counts.{below_or}
use Rattle.model.proofs.Tables.{length_over}
use Rattle.model.proofs.Rows.{joined_append}
use Rattle.model.proofs.Pages.{Fives, fives_length, fives_page, page_length, page_none, page_append, page_from}
use Rattle.rows.proofs.Spans.{with_none}
use Rattle.rows.specs.Spans.{with_rows}
use Rattle.relocations.specs.Parts.{paged}

-- A PAGE FILLED PART BY PART

-- rows behind those that begin a buffer
behind
    : (rs ss : List (List ℕ)) (k : ℕ) (old : List ℕ) → Fives rs → Fives ss → length rs ≡ k
    → with_rows k ss (over (joined rs) old) ≡ over (joined (rs ++ ss)) old
unfolding with_rows over
behind rs ss k old f g e =
    let P = joined rs in
    let Q = drop (length P) old in
    let whole = fives_length rs f in
    let more = fives_length ss g in
    let past : 5 * (k + length ss) ≡ length P + length (joined ss) = omega arith in
    let joint = joined_append rs ss in
    let last : length P + length (joined ss) ≡ length (joined (rs ++ ss)) =
    omega (arith, ap length joint, length-append P (joined ss)) in
    ap₂ (λ l m. l ++ m)
    (ap (λ l. l ++ joined ss) (take_at P Q (5 * k) (omega arith)) ∙ sym joint)
    (ap (λ n. drop n (P ++ Q)) past
    ∙ drop-append-add P Q (length (joined ss))
    ∙ drop-drop (length (joined ss)) (length P) old
    ∙ ap (λ n. drop n old) last)

-- a page that some rows fill has none of those behind them
pub page_full
    : (q n : ℕ) (rs ss : List (List ℕ)) → n / 5 ≤ length rs - q → page q n rs ≡ page q n (rs ++ ss)
page_full q n rs ss l =
    let none = page_none (q - length rs) (n - 5 * (length rs - q)) ss (omega arith) in
    sym (page_append q n rs ss ∙ ap (λ b. page q n rs ++ b) none ∙ append-nil (page q n rs))

-- a page of some rows, and then what is left of it of the rows behind them
page_filled
    : (q : ℕ) (rs ss : List (List ℕ)) (old : List ℕ) → Fives rs → Fives ss
    → with_rows (length rs - q) (page (q - length rs) (length old - 5 * (length rs - q)) ss) (over (joined (page q (length old) rs)) old)
    ≡ over (joined (page q (length old) (rs ++ ss))) old
page_filled q rs ss old f g =
    let A = page q (length old) rs in
    let B = page (q - length rs) (length old - 5 * (length rs - q)) ss in
    ⊎_elim
    (λ l.
    let none : B ≡ [] = page_none (q - length rs) _ ss (omega arith) in
    ap (λ b. with_rows (length rs - q) b (over (joined A) old)) none
    ∙ with_none (length rs - q) (over (joined A) old)
    ∙ ap (λ l. over (joined l) old) (page_full q (length old) rs ss (omega arith)))
    (λ l.
    behind A B (length rs - q) old (fives_page q (length old) rs f) (fives_page _ _ ss g)
    (omega (arith, page_length q (length old) rs))
    ∙ ap (λ l. over (joined l) old) (sym (page_append q (length old) rs ss)))
    (below_or (length old / 5) (length rs - q))

-- a page over a buffer is as long as the buffer
page_fits
    : (q : ℕ) (rs : List (List ℕ)) (old : List ℕ) → Fives rs → length (over (joined (page q (length old) rs)) old) ≡ length old
page_fits q rs old f =
    length_over (joined (page q (length old) rs)) old
    (omega (arith, fives_length (page q (length old) rs) (fives_page q (length old) rs f), page_length q (length old) rs))

pub paged_behind
    : (q : ℕ) (rs ss : List (List ℕ)) (old : List ℕ) → Fives rs → Fives ss
    → paged q (length rs) ss (over (joined (page q (length old) rs)) old) ≡ over (joined (page q (length old) (rs ++ ss))) old
unfolding paged
paged_behind q rs ss old f g =
    ap
    (λ n.
    with_rows (length rs - q) (page (q - length rs) (n - 5 * (length rs - q)) ss) (over (joined (page q (length old) rs)) old))
    (page_fits q rs old f)
    ∙ page_filled q rs ss old f g

-- A PART CUT TO THE PAGE

-- the rows that fit behind `at` others
free : (n at : ℕ) → (n - 5 * at) / 5 ≡ n / 5 - at
free n at = omega arith

less_twice : (e p skip : ℕ) → e - p - skip ≡ e - (p + skip)
less_twice e p skip = omega arith

module _ (f : ℕ → List ℕ) (p e q w : ℕ) (buffer : List ℕ) where
  -- what the page has of it, in all
  paged_some
      : (k : ℕ) → min ((length buffer - 5 * (w - q)) / 5) (e - p - (q - w)) ≡ k
      → paged q w (from f p (e - p)) buffer ≡ with_rows (w - q) (from f (p + (q - w)) k) buffer
  unfolding paged
  paged_some k same =
      ap (λ l. with_rows (w - q) l buffer) (page_from (q - w) (length buffer - 5 * (w - q)) f p (e - p))
      ∙ ap (λ k. with_rows (w - q) (from f (p + (q - w)) k) buffer) same

  -- none if the page starts past it, or is full
  pub paged_past : e - p ≤ q - w → buffer ≡ paged q w (from f p (e - p)) buffer
  unfolding from
  paged_past l = sym (paged_some 0 (omega arith) ∙ with_none (w - q) buffer)

  pub paged_full : length buffer / 5 ≤ w - q → buffer ≡ paged q w (from f p (e - p)) buffer
  unfolding from
  paged_full l = sym (paged_some 0 (omega arith) ∙ with_none (w - q) buffer)

  module _ (at skip : ℕ) (placed : at ≡ w - q) (skipped : skip ≡ q - w) where
    -- all that is left of it, or as much as there is room for
    pub paged_cut
        : (k : ℕ) → k ≡ min (length buffer / 5 - at) (e - (p + skip))
        → with_rows at (from f (p + skip) (p + skip + k - (p + skip))) buffer ≡ paged q w (from f p (e - p)) buffer
    paged_cut k same =
        let whole = ap₂ min (free (length buffer) at) (less_twice e p skip) ∙ sym same in
        let count : p + skip + k - (p + skip) ≡ k = omega arith in
        rw (count, placed, skipped) (sym (paged_some k (rw (placed, skipped) at whole)))
