-- A growth by which no old block is due less than it has: its intervals tell the old blocks of the old buckets, and every block
-- gets its due. Assumes nothing.
use Prim.Native.Nat.{ℕ, zero, suc, ◌+◌, ◌-◌, ◌≤◌, ◌<◌}
use mathlib.Core.Path.{◌≡◌, refl, sym, ◌∙◌, ap, subst}
use mathlib.Core.Logic.{⊎_elim}
use mathlib.Core.List.{List, ◌∷◌}
use native.Mathlib.Omega.{arith}
use lib.Dec.{ltb}
use lib.ListN.{length}
use borrow.Author.Tests.{eq-eqb, ne_eqb, lt-ltb, le-ltb}
use Rattle.model.specs.Basics.{if◌then◌otherwise◌}
use Rattle.model.specs.Table.{Shape, Interval, interval, Table, shape}
use Rattle.model.specs.Place.{interval_of, block_of, size}
use Rattle.model.specs.Expansion.{grown_tops, has, due_after, last_block, lengthened, gain, length_to, pieces, filled}
use Rattle.model.specs.Balance.{least}
use Rattle.model.proofs.Counts.{sum_le}
use Rattle.model.proofs.Listed.{
  Told,
  Tells,
  equal_or,
  positive,
  up_to,
  size_most,
  size_same,
  size_own,
  size_other,
  tells_append,
  tells_same,
  tells_lengthened,
}
use Rattle.model.proofs.Wells.{held_size, Well}
use Rattle.model.proofs.Growths.{Accepted, length_either, old_dues, old_most, Grown, grown}

-- the last interval's block
abbrev pub last_of : Table → ℕ
last_of t = last_block t.intervals

-- THE PIECES, BLOCK BY BLOCK

module _ (t : Table) (s : Shape) (c j n : ℕ) where
  -- the last interval's block gets none,
  pub pieces_last : j ≡ last_of t → pieces t s c j (suc n) ≡ pieces t s c (suc j) n
  unfolding pieces if◌then◌otherwise◌
  pieces_last e = rw (eq-eqb j (last_of t) e)

  -- one that gains nothing neither,
  pub pieces_none
      : (j ≡ last_of t → ⊥) → gain t s j ≡ 0 → pieces t s c j (suc n) ≡ pieces t s c (suc j) n
  unfolding pieces if◌then◌otherwise◌
  pieces_none e z = rw (ne_eqb j (last_of t) e, eq-eqb (gain t s j) 0 z)

  -- and every other one gets one
  pub pieces_one
      : (j ≡ last_of t → ⊥) → (gain t s j ≡ 0 → ⊥)
      → pieces t s c j (suc n)
      ≡ interval (c + gain t s j) j (c - has t j) ∷ pieces t s (c + gain t s j) (suc j) n
  unfolding pieces if◌then◌otherwise◌
  pieces_one e z = rw (ne_eqb j (last_of t) e, ne_eqb (gain t s j) 0 z)

-- the blocks of a list's intervals, past the first of them
blocks_past
    : (i : Interval) (is : List Interval) (x : ℕ) → i.end ≤ x → (interval_of (i ∷ is) x).block ≡ (interval_of is x).block
unfolding interval_of if◌then◌otherwise◌
blocks_past i is x l = rw (le-ltb x i.end l)

blocks_first : (i : Interval) (is : List Interval) (x : ℕ) → x < i.end → (interval_of (i ∷ is) x).block ≡ i.block
unfolding interval_of if◌then◌otherwise◌
blocks_first i is x l = rw (lt-ltb x i.end l)

-- what a block gains brings it to its due
pub gain_due : (t : Table) (s : Shape) (j : ℕ) → has t j ≤ due_after t s j → has t j + gain t s j ≡ due_after t s j
unfolding gain
gain_due t s j l = omega arith

module _ (t : Table) (s : Shape) (b : ℕ → ℕ) where
  -- the blocks below j and the last interval's have their due below bucket c, and the others what they had
  record Filling (j c : ℕ) : Type 0 where
    done : (k : ℕ) → k < j → size b c k ≡ due_after t s k
    last : size b c (last_of t) ≡ due_after t s (last_of t)
    todo : (k : ℕ) → j ≤ k → (k ≡ last_of t → ⊥) → size b c k ≡ has t k

  -- a block that has its due is done
  filling_skip : (j c : ℕ) → Filling j c → size b c j ≡ due_after t s j → Filling (suc j) c
  filling_skip j c f e =
      record {
        done = up_to (λ k. size b c k ≡ due_after t s k) j f.done e;
        last = f.last;
        todo = λ k l. f.todo k (omega arith);
      }

  -- and so is one whose piece brings it to its due
  filling_piece
      : (j c e : ℕ) → Filling j c → (j ≡ last_of t → ⊥) → c + (due_after t s j - has t j) ≡ e
      → has t j ≤ due_after t s j → ((x : ℕ) → c ≤ x → x < e → b x ≡ j) → Filling (suc j) e
  filling_piece j c e f d q le own =
      record {
        done =
            up_to (λ k. size b e k ≡ due_after t s k) j (λ k l. other k (λ f. omega arith) ∙ f.done k l)
            (omega (arith, size_own b j c e (omega arith) own, f.todo j (omega arith) d));
        last = other (last_of t) d ∙ f.last;
        todo = λ k l n. other k (λ f. omega arith) ∙ f.todo k (omega arith) n;
      }
    where
      other : (k : ℕ) → (j ≡ k → ⊥) → size b e k ≡ size b c k
      other k n = size_other b k c e (omega arith) (λ x l m h. n (sym (own x l m) ∙ h))

  -- the pieces from bucket c on, for the blocks from j on
  pieces_tell
      : (g : ℕ) → ((j : ℕ) → has t j ≤ due_after t s j)
      → (n j c : ℕ) (ps : List Interval) → ps ≡ pieces t s c j n → j + n ≡ g
      → ((x : ℕ) → c ≤ x → b x ≡ (interval_of ps x).block) → Filling j c
      → (e : ℕ) × Tells b g c ps e × ((k : ℕ) → k < g → size b e k ≡ due_after t s k)
  pieces_tell g up zero j c ps q whole tell f = (c, (unfold pieces in rw q refl), λ k l. f.done k (omega arith))
  pieces_tell g up (suc n) j c ps q whole tell f =
      ⊎_elim
      (λ e.
      pieces_tell g up n (suc j) c ps (q ∙ pieces_last t s c j n e) (omega arith) tell
      (filling_skip j c f (rw e f.last)))
      (λ e.
      ⊎_elim
      (λ z.
      pieces_tell g up n (suc j) c ps (q ∙ pieces_none t s c j n e z) (omega arith) tell
      (filling_skip j c f (omega (arith, f.todo j (omega arith) e, gain_due t s j (up j)))))
      (λ z.
      let c' = c + gain t s j in
      let rest = pieces t s c' (suc j) n in
      let i = interval c' j (c - has t j) in
      let split : ps ≡ i ∷ rest = q ∙ pieces_one t s c j n e z in
      let own : (x : ℕ) → c ≤ x → x < c' → b x ≡ j =
      λ x l k. tell x l ∙ ap (λ is. (interval_of is x).block) split ∙ blocks_first i rest x k in
      let (end, tells, sized) =
      pieces_tell g up n (suc j) c' rest refl (omega arith)
      (λ x l. tell x (omega arith) ∙ ap (λ is. (interval_of is x).block) split ∙ blocks_past i rest x l)
      (filling_piece j c c' f e (omega (arith, gain_due t s j (up j))) (up j) own) in
      let told : Told b g c i =
      record {
        some = positive c (gain t s j) z;
        own = own;
        below = omega arith;
        adjusted = omega (arith, size_most b c j, f.todo j (omega arith) e);
      } in
      (end, subst (λ is. Tells b g c is end) (sym split) (told, tells), sized))
      (equal_or (gain t s j) 0))
      (equal_or j (last_of t))

-- THE WHOLE LIST

-- the block of bucket x after the growth
unfoldable pub filled_block : Table → Shape → ℕ → ℕ
filled_block t s x =
    if ltb x t.buckets then block_of t x
    otherwise if ltb x (length_to t s) then last_of t
    otherwise (interval_of
    (pieces t s (length_to t s) 0 (length (grown_tops t s)))
    x
    ).block

module _ (t : Table) (s : Shape) where
  -- old buckets stay, the next ones are of the last interval's block, and the others of the pieces'
  pub filled_old : (x : ℕ) → x < t.buckets → filled_block t s x ≡ block_of t x
  unfolding filled_block if◌then◌otherwise◌
  filled_old x l = rw (lt-ltb x t.buckets l)

  filled_last
      : (x : ℕ) → t.buckets ≤ x → x < length_to t s
      → filled_block t s x ≡ last_of t
  unfolding filled_block if◌then◌otherwise◌
  filled_last x l k =
      rw (le-ltb x t.buckets l, lt-ltb x (length_to t s) k)

  filled_piece
      : (x : ℕ) → length_to t s ≤ x
      → filled_block t s x
      ≡ (interval_of (pieces t s (length_to t s) 0 (length (grown_tops t s))) x).block
  unfolding filled_block if◌then◌otherwise◌
  filled_piece x l =
      rw
      (le-ltb x t.buckets (omega arith), le-ltb x (length_to t s) l)

  -- what a block has among the old buckets
  filled_has : (k : ℕ) → size (filled_block t s) t.buckets k ≡ has t k
  unfolding has
  filled_has k = size_same (filled_block t s) (block_of t) t.buckets k filled_old ∙ sym (held_size t k t.buckets)

module _ (t : Table) (s : Shape) (w : Well t) (a : Accepted t s) (up : (j : ℕ) → has t j ≤ due_after t s j) where
  -- the lengthened intervals
  lengthened_tell
      : Tells (filled_block t s) (length (grown_tops t s)) 0 (lengthened (gain t s (last_of t)) t.intervals)
      (length_to t s)
  lengthened_tell =
      tells_lengthened (filled_block t s) (length (grown_tops t s)) 0 (gain t s (last_of t)) t.intervals
      t.buckets
      w.some_buckets
      (tells_same (block_of t) (filled_block t s) (length t.tops) (length (grown_tops t s)) 0 t.intervals t.buckets
      (λ x l. sym (filled_old t s x l))
      (⊎_elim (λ l. omega arith) (λ l. omega arith) (length_either t s w a))
      w.tells)
      (filled_last t s)

  -- after them the last interval's block has its due, and the others what they had
  filling : Filling t s (filled_block t s) 0 (length_to t s)
  filling =
      record {
        done = λ k l. absurd (omega arith);
        last =
            omega (
              arith,
              size_own (filled_block t s) (last_of t) t.buckets
                  (length_to t s)
                  (omega arith)
                  (filled_last t s),
              filled_has t s (last_of t),
              gain_due t s (last_of t) (up (last_of t)),
            );
        todo =
            λ k l n.
            size_other (filled_block t s) k t.buckets (length_to t s) (omega arith)
            (λ x b m e. n (sym e ∙ filled_last t s x b m))
            ∙ filled_has t s k;
      }

  -- so the whole list tells every block its due, and ends at B'
  pub filled_grown : Grown t s (filled_block t s) (filled t s)
  unfolding filled
  filled_grown =
      let c = length_to t s in
      let g = length (grown_tops t s) in
      let (e, tells, dues) =
      pieces_tell t s (filled_block t s) g up g 0 c (pieces t s c 0 g) refl (omega arith) (filled_piece t s) filling in
      grown t s w a (filled_block t s) (filled t s) e
      (tells_append (filled_block t s) g 0 (lengthened (gain t s (last_of t)) t.intervals) c _ e
      lengthened_tell
      tells)
      dues

  -- the old blocks may hold all old buckets
  pub filled_least : least (shape t) s ≡ 0
  unfolding least shape
  filled_least =
      omega (arith, old_most t s w a, old_dues t s w a, sum_le (has t) (due_after t s) (length t.tops) (λ j l. up j))
