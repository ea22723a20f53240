-- Laws of copies in a list: the q-th is from src q to dst q, where there is one, no destination is a source, and none comes twice.
-- Assumes nothing.
use Prim.Native.Nat.{ℕ, zero, suc, ◌+◌, ◌≤◌, ◌<◌}
use mathlib.Core.Path.{◌≡◌, refl, sym, ◌∙◌, ap}
use mathlib.Core.Logic.{◌⊎◌, inr, ⊎_elim}
use mathlib.Core.Bool.{Bool, true, false}
use mathlib.Core.List.{List}
use native.Mathlib.Omega.{arith}
use lib.ListN.{length, get_or, set, length-set}
use lib.Seq.{get_or-set_same, get_or-set_other, set-set}
use Rattle.model.specs.Basics.{if◌then◌otherwise◌}
use Rattle.model.proofs.Counts.{bit_cases, below_or}

-- the m-th copy, where c says that there is one
unfoldable pub step : (ℕ → ℕ) → (ℕ → ℕ) → (ℕ → Bool) → ℕ → List ℕ → List ℕ
step src dst c m zs = if c m then set zs (dst m) (get_or zs (src m) 0) otherwise zs

-- the list after the first m
unfoldable pub after : (ℕ → ℕ) → (ℕ → ℕ) → (ℕ → Bool) → List ℕ → ℕ → List ℕ
after src dst c ws zero = ws
after src dst c ws (suc m) = step src dst c m (after src dst c ws m)

-- it is by what c says of m alone
pub step_same
    : (src dst : ℕ → ℕ) (c d : ℕ → Bool) (m : ℕ) (zs : List ℕ) → c m ≡ d m → step src dst c m zs ≡ step src dst d m zs
unfolding step
step_same src dst c d m zs e = ap (λ b. if b then set zs (dst m) (get_or zs (src m) 0) otherwise zs) e

-- n copies in a list as long
pub record Apart (src dst : ℕ → ℕ) (n long : ℕ) : Type 0 where
  pub room : (q : ℕ) → q < n → dst q < long
  pub other : (q r : ℕ) → q < n → r < n → src q ≡ dst r → ⊥
  pub once : (q r : ℕ) → q < r → r < n → dst q ≡ dst r → ⊥

-- a list that is the one after m copies, but for the destination of the m-th, if there is one
abbrev pub Near : (ℕ → ℕ) → (ℕ → ℕ) → (ℕ → Bool) → ℕ → List ℕ → ℕ → List ℕ → Type 0
Near src dst c n ws m zs =
    (zs ≡ after src dst c ws m)
    ⊎ ((v : ℕ) × (m < n) × (c m ≡ true) × (zs ≡ set (after src dst c ws m) (dst m) v))

-- an index that none of the n writes
abbrev pub Unwritten : (ℕ → ℕ) → (ℕ → Bool) → ℕ → ℕ → Type 0
Unwritten dst c n i = (q : ℕ) → q < n → c q ≡ true → i ≡ dst q → ⊥

module _ (src dst : ℕ → ℕ) (c : ℕ → Bool) (m : ℕ) (zs : List ℕ) where
  pub step_copy : c m ≡ true → step src dst c m zs ≡ set zs (dst m) (get_or zs (src m) 0)
  unfolding step if◌then◌otherwise◌
  step_copy e = rw e refl

  pub step_none : c m ≡ false → step src dst c m zs ≡ zs
  unfolding step if◌then◌otherwise◌
  step_none e = rw e refl

module _ (src dst : ℕ → ℕ) (c : ℕ → Bool) (n : ℕ) (ws : List ℕ) (a : Apart src dst n (length ws)) where
  abbrev done : ℕ → List ℕ
  done m = after src dst c ws m

  pub after_long : (m : ℕ) → length (done m) ≡ length ws
  unfolding after
  after_long zero = refl
  after_long (suc m) =
      ⊎_elim
      (λ y. ap length (step_copy src dst c m (done m) y.0) ∙ length-set (done m) (dst m) _ ∙ after_long m)
      (λ y. ap length (step_none src dst c m (done m) y.0) ∙ after_long m)
      (bit_cases (c m))

  -- what is no destination is kept
  pub after_kept : (m i : ℕ) → m ≤ n → Unwritten dst c n i → get_or (done m) i 0 ≡ get_or ws i 0
  unfolding after
  after_kept zero i l e = refl
  after_kept (suc m) i l e =
      let rest = after_kept m i (omega arith) e in
      ⊎_elim
      (λ y.
      ap (λ xs. get_or xs i 0) (step_copy src dst c m (done m) y.0)
      ∙ get_or-set_other (done m) (dst m) i _ 0 (e m l y.0)
      ∙ rest)
      (λ y. ap (λ xs. get_or xs i 0) (step_none src dst c m (done m) y.0) ∙ rest)
      (bit_cases (c m))

  -- a destination has its source's word from then on
  pub after_done : (m q : ℕ) → m ≤ n → q < m → c q ≡ true → get_or (done m) (dst q) 0 ≡ get_or ws (src q) 0
  unfolding after
  after_done zero q l k y = absurd (omega arith)
  after_done (suc m) q l k y =
      ⊎_elim
      (λ b.
      let rest = after_done m q (omega arith) b y in
      ⊎_elim
      (λ z.
      ap (λ xs. get_or xs (dst q) 0) (step_copy src dst c m (done m) z.0)
      ∙ get_or-set_other (done m) (dst m) (dst q) _ 0 (a.once q m b l)
      ∙ rest)
      (λ z. ap (λ xs. get_or xs (dst q) 0) (step_none src dst c m (done m) z.0) ∙ rest)
      (bit_cases (c m)))
      (λ b.
      let same : q ≡ m = omega arith in
      ap (λ r. get_or (done (suc m)) (dst r) 0) same
      ∙ ap (λ xs. get_or xs (dst m) 0) (step_copy src dst c m (done m) (ap c (sym same) ∙ y))
      ∙ get_or-set_same (done m) (dst m) _ 0 (omega (arith, after_long m, a.room m l))
      ∙ after_kept m (src m) (omega arith) (λ r b z e. a.other m r l b e)
      ∙ ap (λ r. get_or ws (src r) 0) (sym same))
      (below_or q m)

  pub near_long : (m : ℕ) (zs : List ℕ) → Near src dst c n ws m zs → length zs ≡ length ws
  near_long m zs h =
      ⊎_elim
      (λ e. ap length e ∙ after_long m)
      (λ e. ap length e.3 ∙ length-set (done m) (dst m) e.0 ∙ after_long m)
      h

  -- any word there leaves it so
  pub near_put
      : (m : ℕ) (zs : List ℕ) (v : ℕ) → m < n → c m ≡ true → Near src dst c n ws m zs → Near src dst c n ws m (set zs (dst m) v)
  near_put m zs v l y h =
      ⊎_elim
      (λ e. inr (v, l, y, ap (λ xs. set xs (dst m) v) e))
      (λ e. inr (v, l, y, ap (λ xs. set xs (dst m) v) e.3 ∙ set-set (done m) (dst m) e.0 v))
      h

  -- and the m-th copy makes it the list after one more
  pub near_step : (m : ℕ) (zs : List ℕ) → m < n → Near src dst c n ws m zs → step src dst c m zs ≡ done (m + 1)
  unfolding after
  near_step m zs l h =
      let next : suc m ≡ m + 1 = omega arith in
      ⊎_elim
      (λ e. ap (step src dst c m) e)
      (λ e.
      ap (step src dst c m) e.3
      ∙ step_copy src dst c m _ e.2
      ∙ set-set (done m) (dst m) e.0 _
      ∙ ap (set (done m) (dst m)) (get_or-set_other (done m) (dst m) (src m) e.0 0 (a.other m m l l))
      ∙ sym (step_copy src dst c m (done m) e.2))
      h
      ∙ ap done next

  -- and leaves it near
  pub near_again : (m : ℕ) (zs : List ℕ) → m < n → Near src dst c n ws m zs → Near src dst c n ws m (step src dst c m zs)
  near_again m zs l h =
      ⊎_elim
      (λ y. rw (step_copy src dst c m zs y.0) (near_put m zs _ l y.0 h))
      (λ y. rw (step_none src dst c m zs y.0) h)
      (bit_cases (c m))

  -- where there is no m-th copy, it is the list after m
  pub near_end : (m : ℕ) (zs : List ℕ) → n ≤ m → Near src dst c n ws m zs → zs ≡ done m
  near_end m zs l h = ⊎_elim (λ e. e) (λ e. absurd (omega (arith, e.1))) h

  -- what is read of it
  pub near_kept
      : (m i : ℕ) (zs : List ℕ) → m ≤ n → Near src dst c n ws m zs → Unwritten dst c n i → get_or zs i 0 ≡ get_or ws i 0
  near_kept m i zs l h e =
      ⊎_elim
      (λ k. ap (λ xs. get_or xs i 0) k ∙ after_kept m i l e)
      (λ k.
      ap (λ xs. get_or xs i 0) k.3
      ∙ get_or-set_other (done m) (dst m) i k.0 0 (e m k.1 k.2)
      ∙ after_kept m i l e)
      h

  pub near_done
      : (m q : ℕ) (zs : List ℕ) → m ≤ n → q < m → c q ≡ true → Near src dst c n ws m zs → get_or zs (dst q) 0 ≡ get_or ws (src q) 0
  near_done m q zs l b y h =
      ⊎_elim
      (λ k. ap (λ xs. get_or xs (dst q) 0) k ∙ after_done m q l b y)
      (λ k.
      ap (λ xs. get_or xs (dst q) 0) k.3
      ∙ get_or-set_other (done m) (dst m) (dst q) k.0 0 (a.once q m b k.1)
      ∙ after_done m q l b y)
      h
