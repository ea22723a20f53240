-- Laws of copies in a list: the q-th is from src q to dst q, no destination is a source, and none comes twice. Assumes nothing.
use Prim.Native.Nat.{ℕ, zero, suc, ◌+◌, ◌≤◌, ◌<◌}
use mathlib.Core.Path.{◌≡◌, refl, sym, ◌∙◌, ap}
use mathlib.Core.Logic.{◌⊎◌, inr, ⊎_elim}
use mathlib.Core.List.{List}
use native.Mathlib.Omega.{arith}
use lib.ListN.{length, get_or, set, length-set}
use lib.Seq.{get_or-set_same, get_or-set_other, set-set}
use Rattle.model.proofs.Counts.{below_or}

-- the list after m copies
unfoldable pub copies : (ℕ → ℕ) → (ℕ → ℕ) → List ℕ → ℕ → List ℕ
copies src dst ws zero = ws
copies src dst ws (suc m) = set (copies src dst ws m) (dst m) (get_or (copies src dst ws m) (src m) 0)

-- n copies in a list as long
pub record Apart (src dst : ℕ → ℕ) (n long : ℕ) : Type 0 where
  pub room : (q : ℕ) → q < n → dst q < long
  pub other : (q r : ℕ) → q < n → r < n → src q ≡ dst r → ⊥
  pub once : (q r : ℕ) → q < r → r < n → dst q ≡ dst r → ⊥

-- a list that is the one after m copies, but for the m-th destination
abbrev pub Near : (ℕ → ℕ) → (ℕ → ℕ) → ℕ → List ℕ → ℕ → List ℕ → Type 0
Near src dst n ws m zs = (zs ≡ copies src dst ws m) ⊎ ((v : ℕ) × (m < n) × (zs ≡ set (copies src dst ws m) (dst m) v))

module _ (src dst : ℕ → ℕ) (n : ℕ) (ws : List ℕ) (a : Apart src dst n (length ws)) where
  pub copies_long : (m : ℕ) → length (copies src dst ws m) ≡ length ws
  unfolding copies
  copies_long zero = refl
  copies_long (suc m) = length-set (copies src dst ws m) (dst m) _ ∙ copies_long m

  -- what is no destination is kept
  pub copies_kept
      : (m i : ℕ) → m ≤ n → ((q : ℕ) → q < n → i ≡ dst q → ⊥) → get_or (copies src dst ws m) i 0 ≡ get_or ws i 0
  unfolding copies
  copies_kept zero i l e = refl
  copies_kept (suc m) i l e =
      get_or-set_other (copies src dst ws m) (dst m) i _ 0 (e m l) ∙ copies_kept m i (omega arith) e

  -- a destination has its source's word from then on
  pub copies_done : (m q : ℕ) → m ≤ n → q < m → get_or (copies src dst ws m) (dst q) 0 ≡ get_or ws (src q) 0
  unfolding copies
  copies_done zero q l k = absurd (omega arith)
  copies_done (suc m) q l k =
      ⊎_elim
      (λ b.
      get_or-set_other (copies src dst ws m) (dst m) (dst q) _ 0 (a.once q m b l)
      ∙ copies_done m q (omega arith) b)
      (λ b.
      let same : q ≡ m = omega arith in
      ap (λ r. get_or (copies src dst ws (suc m)) (dst r) 0) same
      ∙ get_or-set_same (copies src dst ws m) (dst m) _ 0 (omega (arith, copies_long m, a.room m l))
      ∙ copies_kept m (src m) (omega arith) (λ r b e. a.other m r l b e)
      ∙ ap (λ r. get_or ws (src r) 0) (sym same))
      (below_or q m)

  pub near_long : (m : ℕ) (zs : List ℕ) → Near src dst n ws m zs → length zs ≡ length ws
  near_long m zs h =
      ⊎_elim
      (λ e. ap length e ∙ copies_long m)
      (λ e. ap length e.2 ∙ length-set (copies src dst ws m) (dst m) e.0 ∙ copies_long m)
      h

  -- any word there leaves it so
  pub near_put : (m : ℕ) (zs : List ℕ) (v : ℕ) → m < n → Near src dst n ws m zs → Near src dst n ws m (set zs (dst m) v)
  near_put m zs v l h =
      ⊎_elim
      (λ e. inr (v, l, ap (λ xs. set xs (dst m) v) e))
      (λ e. inr (v, l, ap (λ xs. set xs (dst m) v) e.2 ∙ set-set (copies src dst ws m) (dst m) e.0 v))
      h

  -- and the m-th copy makes it the list after one more
  pub near_copy
      : (m : ℕ) (zs : List ℕ) → m < n → Near src dst n ws m zs
      → set zs (dst m) (get_or zs (src m) 0) ≡ copies src dst ws (m + 1)
  unfolding copies
  near_copy m zs l h =
      let next : suc m ≡ m + 1 = omega arith in
      ⊎_elim
      (λ e. ap (λ xs. set xs (dst m) (get_or xs (src m) 0)) e)
      (λ e.
      ap (λ xs. set xs (dst m) (get_or xs (src m) 0)) e.2
      ∙ set-set (copies src dst ws m) (dst m) e.0 _
      ∙ ap (set (copies src dst ws m) (dst m))
      (get_or-set_other (copies src dst ws m) (dst m) (src m) e.0 0 (a.other m m l l)))
      h
      ∙ ap (copies src dst ws) next

  pub near_end : (m : ℕ) (zs : List ℕ) → n ≤ m → Near src dst n ws m zs → zs ≡ copies src dst ws m
  near_end m zs l h = ⊎_elim (λ e. e) (λ e. absurd (omega (arith, e.1))) h

  -- what is read of it
  pub near_kept
      : (m i : ℕ) (zs : List ℕ) → m ≤ n → Near src dst n ws m zs → ((q : ℕ) → q < n → i ≡ dst q → ⊥) → get_or zs i 0 ≡ get_or ws i 0
  near_kept m i zs l h e =
      ⊎_elim
      (λ k. ap (λ xs. get_or xs i 0) k ∙ copies_kept m i l e)
      (λ k.
      ap (λ xs. get_or xs i 0) k.2
      ∙ get_or-set_other (copies src dst ws m) (dst m) i k.0 0 (e m k.1)
      ∙ copies_kept m i l e)
      h

  pub near_done : (m q : ℕ) (zs : List ℕ) → m ≤ n → q < m → Near src dst n ws m zs → get_or zs (dst q) 0 ≡ get_or ws (src q) 0
  near_done m q zs l b h =
      ⊎_elim
      (λ k. ap (λ xs. get_or xs (dst q) 0) k ∙ copies_done m q l b)
      (λ k.
      ap (λ xs. get_or xs (dst q) 0) k.2
      ∙ get_or-set_other (copies src dst ws m) (dst m) (dst q) k.0 0 (a.once q m b k.1)
      ∙ copies_done m q l b)
      h
