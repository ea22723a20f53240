-- What the plans for the old intervals make of them, one interval at a time. Assumes nothing.
use Prim.Native.Nat.{ℕ, ◌+◌, ◌-◌, ◌≤◌, ◌<◌}
use mathlib.Core.Path.{◌≡◌, refl, sym, ◌∙◌, ap}
use mathlib.Core.Logic.{⊎_elim}
use mathlib.Core.List.{List, [], ◌∷◌, ◌++◌, append-nil}
use native.Mathlib.Omega.{arith}
use lib.Dec.{ltb}
use lib.ListN.{length, get_or, length-append}
use borrow.Author.Tests.{eq-eqb, ne_eqb, lt-ltb, le-ltb}
use Rattle.model.specs.Basics.{if◌then◌otherwise◌}
use Rattle.model.specs.Table.{Shape, Interval, interval, Table, Arrays, table}
use Rattle.model.specs.Sound.{Formed}
use Rattle.model.specs.Expansion.{last_block, lengthened, parts, extended, plan_for, drained}
use Rattle.model.specs.declared.plan.Action.TheVariants.{Stay, Move, Split}
use Rattle.model.specs.declared.plan.Plan.{Plan}
use Rattle.model.specs.declared.table.Header.{Header}
use Rattle.model.proofs.Counts.{below_or}
use Rattle.model.proofs.Tables.{lent_interval}
use Rattle.model.proofs.Wells.{tops_length}
use Rattle.model.proofs.Walks.{extended_none, walked}
use Rattle.model.proofs.Steps.{Walk, walk_start, walk_next, ahead, end_within, end_last, walked_next, walked_last, walked_drained}
use Rattle.expansion_count.specs.Made.{made, left_behind}

-- a list is `is` and then `behind`
pub record Front (whole is behind : List Interval) : Type 0 where
  pub joined : whole ≡ is ++ behind

-- by the action: of an interval of an old block
module _ (p : Plan) (i : Interval) (g m : ℕ) where
  pub made_stay : p.action ≡ Stay → i.block < g → m ≡ 0 → made p i g m ≡ i ∷ []
  unfolding made parts extended last_block if◌then◌otherwise◌
  made_stay e l z = rw (e, ne_eqb i.block g (λ q. omega arith), eq-eqb m 0 z)

  pub made_fresh
      : p.action ≡ Stay → i.block < g → (m ≡ 0 → ⊥)
      → made p i g m ≡ i ∷ interval (i.end + m) g (i.end - p.moved) ∷ []
  unfolding made parts extended last_block if◌then◌otherwise◌
  made_fresh e l z = rw (e, ne_eqb i.block g (λ q. omega arith), ne_eqb m 0 z)

  pub made_move : (c : ℕ) → p.action ≡ Move c → made p i g m ≡ interval (i.end + m) g c ∷ []
  unfolding made parts extended last_block lengthened if◌then◌otherwise◌
  made_move c e = rw (e, eq-eqb g g refl)

  pub made_split
      : (b c : ℕ) → p.action ≡ Split b c
      → made p i g m ≡ interval b i.block i.adjustment ∷ interval (i.end + m) g c ∷ []
  unfolding made parts extended last_block lengthened if◌then◌otherwise◌
  made_split b c e = rw (e, eq-eqb g g refl)

-- the new buckets behind interval i
module _ (h : Header) (b i : ℕ) where
  pub behind_none : i + 1 < h.interval_count → left_behind h b i ≡ 0
  unfolding left_behind if◌then◌otherwise◌
  behind_none l = rw (lt-ltb (i + 1) h.interval_count l)

  pub behind_all : h.interval_count ≤ i + 1 → left_behind h b i ≡ b - h.buckets
  unfolding left_behind if◌then◌otherwise◌
  behind_all l = rw (le-ltb (i + 1) h.interval_count l)

module _ (h : Header) (a : Arrays) (s : Shape) where
  abbrev t : Table
  t = table h a

  -- what the walk still makes from interval i on; past the last one nothing
  unfoldable pub to_make : ℕ → ℕ → ℕ → List Interval
  to_make i start w = if ltb i h.interval_count then walked t s start (ahead h a i) w otherwise []

  pub make_none : (i start w : ℕ) → h.interval_count ≤ i → to_make i start w ≡ []
  unfolding to_make if◌then◌otherwise◌
  make_none i start w l = rw (le-ltb i h.interval_count l)

  make_some : (i start w : ℕ) → i < h.interval_count → to_make i start w ≡ walked t s start (ahead h a i) w
  unfolding to_make if◌then◌otherwise◌
  make_some i start w l = rw (lt-ltb i h.interval_count l)

  module _ (formed : Formed h a) where
    -- all that the growth makes
    pub make_all : drained t s ≡ to_make 0 0 0
    make_all = walked_drained h a s ∙ sym (make_some 0 0 0 formed.some_intervals)

    -- no interval ends past B' with the new buckets behind it
    pub behind_fits
        : (i : ℕ) → i < h.interval_count → h.buckets ≤ s.buckets
        → get_or a.ends i 0 + left_behind h s.buckets i ≤ s.buckets
    behind_fits i l more =
        ⊎_elim
        (λ n. omega (arith, behind_none h s.buckets i n, end_within h a formed i l))
        (λ n. omega (arith, behind_all h s.buckets i n, end_within h a formed i l))
        (below_or (i + 1) h.interval_count)

    -- what the plan for interval i makes of it comes first, with the m new buckets behind it
    pub made_first
        : (i start w : ℕ) → i < h.interval_count → (p : Plan) → p ≡ plan_for t s start (lent_interval a i) w
        → (m : ℕ) → m ≡ left_behind h s.buckets i
        → Front
        (to_make i start w)
        (made p (lent_interval a i) h.block_count m)
        (to_make (i + 1) (get_or a.ends i 0) p.moved)
    unfolding made
    made_first i start w l p e m q =
        let end = get_or a.ends i 0 in
        let own = parts p.action (lent_interval a i) (length t.tops) [] in
        let count = tops_length h a formed in
        record {
          joined =
              make_some i start w l
              ∙ ⊎_elim
              (λ n.
              walked_next h a s i start w l p e n
              ∙ ap (λ is. is ++ walked t s end (ahead h a (i + 1)) p.moved)
              (sym (extended_none (length t.tops) end p.moved own)
              ∙ ap (λ m. made p (lent_interval a i) (length t.tops) m) (sym (q ∙ behind_none h s.buckets i n)))
              ∙ ap (λ is. made p (lent_interval a i) (length t.tops) m ++ is)
              (sym (make_some (i + 1) end p.moved n)))
              (λ n.
              walked_last h a s i start w l p e (omega arith)
              ∙ ap (λ b. extended (length t.tops) b (s.buckets - h.buckets) p.moved own)
              (sym (end_last h a formed i (omega arith)))
              ∙ ap (made p (lent_interval a i) (length t.tops)) (sym (q ∙ behind_all h s.buckets i n))
              ∙ sym (append-nil _)
              ∙ ap (λ is. made p (lent_interval a i) (length t.tops) m ++ is)
              (sym (make_none (i + 1) end p.moved n)))
              (below_or (i + 1) h.interval_count)
              ∙ ap
              (λ g. made p (lent_interval a i) g m ++ to_make (i + 1) end p.moved)
              count;
        }

    -- n intervals are made of those before i, and the rest of them all is still to make
    pub record Making (n i start w : ℕ) : Type 0 where
      pub walk : Walk h a s i start w
      pub whole : n + length (to_make i start w) ≡ length (drained t s)

    pub making_start : Making 0 0 0 0
    making_start = record { walk = walk_start h a s; whole = omega (arith, ap length make_all) }

    -- one interval further, of which k are made
    pub making_more
        : (n i start w : ℕ) → Making n i start w → i < h.interval_count → (p : Plan) → p ≡ plan_for t s start (lent_interval a i) w
        → (k : ℕ) → k ≡ length (made p (lent_interval a i) h.block_count (left_behind h s.buckets i))
        → Making (n + k) (i + 1) (get_or a.ends i 0) p.moved
    making_more n i start w m l p e k c =
        record {
          walk = walk_next h a s i start w l p e formed m.walk;
          whole = omega (arith, m.whole, simp length-append at (ap length (made_first i start w l p e _ refl).joined));
        }

    pub making_end : (n i start w : ℕ) → Making n i start w → h.interval_count ≤ i → n ≡ length (drained t s)
    making_end n i start w m l = omega (arith, m.whole, ap length (make_none i start w l))
