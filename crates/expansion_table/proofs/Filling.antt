-- A growth by which no old block is due less: its intervals as they are written. Assumes nothing.
use Prim.Native.Nat.{ℕ, ◌+◌, ◌-◌, ◌^◌, ◌≤◌, ◌<◌}
use mathlib.Core.Path.{◌≡◌, refl, sym, ◌∙◌, ap}
use mathlib.Core.Bool.{false}
use mathlib.Core.List.{List, [], ◌∷◌, ◌++◌, map, append_assoc}
use native.Mathlib.Omega.{arith}
use lib.ListN.{length, get_or, take, length-append}
use lib.Seq.{sets, length-take-le}
use Rattle.model.specs.Basics.{from}
use Rattle.model.specs.Limits.{max_blocks}
use Rattle.model.specs.Table.{Shape, Interval, interval, Arrays, table, over}
use Rattle.model.specs.Expansion.{grown_tops, has, lengthened, gain, length_to, pieces, filled}
use Rattle.model.specs.declared.table.Header.{Header}
use Rattle.model.proofs.Entries.{sets_over}
use Rattle.model.proofs.Tables.{length_from, from_ext, from_get_d, map_from, lent_interval}
use Rattle.model.proofs.Filled.{last_of}
use Rattle.model.proofs.Steps.{last_lent, lengthened_lent, end_last, Filled_within, filled_length}
use Rattle.expansion_count.specs.declared.growth.Growth.{Growth}
use Rattle.expansion_count.specs.Made.{piece_of}
use Rattle.expansion_count.proofs.Parts.{Front}
use Rattle.expansion_count.specs.Growths.{old_table, new_sizes}
use Rattle.expansion_drain.specs.Stored.{Room, Stored}
use Rattle.expansion_count.proofs.Pieces.{Fills, growth_fills, pieces_take, fills_well, fills_asked, fills_up, gain_from}
use Rattle.expansion_drain.proofs.Stores.{stored_more}

module _ (h : Header) (a : Arrays) (s : Shape) (olds dues : List ℕ) (f : Fills h a s olds dues) where
  abbrev last : ℕ
  last = h.interval_count - 1

  abbrev block : ℕ
  block = get_or a.blocks last 0

  -- the last interval's block is one of at most 65
  pub block_few : block < max_blocks
  block_few =
      let formed = f.formed in
      let some = formed.some_intervals in
      omega (arith, formed.blocks_below last (omega arith), formed.block_limit)

  -- where the last interval ends once it is lengthened
  pub end_filled : h.buckets + (get_or dues block 0 - get_or olds block 0) ≡ length_to (table h a) s
  unfolding table
  end_filled =
      omega (
        arith,
        gain_from h a s olds dues f block block_few,
        ap (gain (table h a) s) (last_lent h a f.formed.some_intervals),
      )

  -- the old intervals but the last, that one, and the pieces
  pub filled_lent
      : (e : ℕ) → e ≡ length_to (table h a) s
      → filled (table h a) s
      ≡ (from (lent_interval a) 0 last ++ (interval e block (get_or a.adjustments last 0) ∷ []))
      ++ pieces (table h a) s e 0 (length (grown_tops (table h a) s))
  unfolding filled table
  filled_lent e q =
      let some = f.formed.some_intervals in
      ap (λ is. is ++ pieces (table h a) s (length_to (table h a) s) 0 (length (grown_tops (table h a) s)))
      (lengthened_lent h a some (gain (table h a) s (last_of (table h a))))
      ∙ ap
      (λ k.
      (from (lent_interval a) 0 last
      ++ (interval (k + gain (table h a) s (last_of (table h a))) block (get_or a.adjustments last 0) ∷ []))
      ++ pieces (table h a) s (length_to (table h a) s) 0 (length (grown_tops (table h a) s)))
      (end_last h a f.formed last (omega arith))
      ∙ ap
      (λ k.
      (from (lent_interval a) 0 last ++ (interval k block (get_or a.adjustments last 0) ∷ []))
      ++ pieces (table h a) s k 0 (length (grown_tops (table h a) s)))
      (sym q)

  -- all end at B' or before: that one, and each piece
  pub end_most : length_to (table h a) s ≤ s.buckets
  end_most =
      Filled_within (table h a) s (fills_well h a s olds dues f) (fills_asked h a s olds dues f) (fills_up h a s olds dues f)
      (from (lent_interval a) 0 last)
      (interval (length_to (table h a) s) block (get_or a.adjustments last 0))
      (pieces (table h a) s (length_to (table h a) s) 0 (length (grown_tops (table h a) s)))
      (filled_lent (length_to (table h a) s) refl ∙ append_assoc (from (lent_interval a) 0 last) _ _)

  -- the pieces begin behind the old buckets
  pub start_most : h.buckets ≤ length_to (table h a) s
  unfolding table
  start_most = omega arith

  pub piece_most
      : (done : List Interval) (i : Interval) (behind : List Interval)
      → done ++ (i ∷ behind) ≡ pieces (table h a) s (length_to (table h a) s) 0 (length (grown_tops (table h a) s))
      → i.end ≤ s.buckets
  unfolding filled
  piece_most done i behind e =
      let old = lengthened (gain (table h a) s (last_of (table h a))) (table h a).intervals in
      Filled_within (table h a) s (fills_well h a s olds dues f) (fills_asked h a s olds dues f) (fills_up h a s olds dues f)
      (old ++ done) i behind
      (ap (λ is. old ++ is) (sym e) ∙ sym (append_assoc old done (i ∷ behind)))

  -- the old intervals but the last, copied array by array
  column
      : (g : Interval → ℕ) (xs : List ℕ) → ((i : ℕ) → g (lent_interval a i) ≡ get_or xs i 0) → h.interval_count ≤ length xs
      → take last xs ≡ map g (from (lent_interval a) 0 last)
  column g xs e long =
      sym
      (map_from g (lent_interval a) 0 last
      ∙ from_ext (λ i. g (lent_interval a i)) (λ i. get_or xs i 0) 0 last (λ i l m. e i)
      ∙ from_get_d xs 0 last (omega arith))

  copied_stored
      : (g : Interval → ℕ) (xs old out : List ℕ) → ((i : ℕ) → g (lent_interval a i) ≡ get_or xs i 0) → h.interval_count ≤ length xs
      → last ≤ length old → out ≡ over (take last xs) old → out ≡ sets old 0 (map g (from (lent_interval a) 0 last))
  copied_stored g xs old out e long room copied =
      copied
      ∙ sym (sets_over (take last xs) old (omega (arith, length-take-le last xs (omega arith))))
      ∙ ap (sets old 0) (column g xs e long)

  pub old_stored
      : {es bs cs es' bs' cs' : List ℕ} → Room last es bs cs
      → (es' ≡ over (take last a.ends) es)
      × (bs' ≡ over (take last a.blocks) bs)
      × (cs' ≡ over (take last a.adjustments) cs)
      → Stored 0 (from (lent_interval a) 0 last) es bs cs es' bs' cs'
  old_stored r copied =
      let formed = f.formed in
      record {
        ends = copied_stored (λ i. i.end) a.ends _ _ (λ i. refl) formed.ends_long r.ends copied.0;
        blocks = copied_stored (λ i. i.block) a.blocks _ _ (λ i. refl) formed.blocks_long r.blocks copied.1;
        adjustments =
            copied_stored (λ i. i.adjustment) a.adjustments _ _ (λ i. refl) formed.adjustments_long r.adjustments copied.2;
      }

  -- how many they are
  pub filled_pieces
      : (e n : ℕ) → e ≡ length_to (table h a) s → n ≡ length (grown_tops (table h a) s)
      → length (filled (table h a) s) ≡ h.interval_count + length (pieces (table h a) s e 0 n)
  filled_pieces e n q c = rw (q, c) (filled_length h a s f.formed)

  -- so what is stored one after the other are the filled intervals
  pub filled_stored
      : {es bs cs es' bs' cs' es'' bs'' cs'' es''' bs''' cs''' : List ℕ} (e n : ℕ) → e ≡ length_to (table h a) s
      → n ≡ length (grown_tops (table h a) s) → Stored 0 (from (lent_interval a) 0 last) es bs cs es' bs' cs'
      → Stored last (interval e block (get_or a.adjustments last 0) ∷ []) es' bs' cs' es'' bs'' cs''
      → Stored h.interval_count (pieces (table h a) s e 0 n) es'' bs'' cs'' es''' bs''' cs'''
      → Stored 0 (filled (table h a) s) es bs cs es''' bs''' cs'''
  filled_stored e n q c x y w =
      let some = f.formed.some_intervals in
      let olds = length_from (lent_interval a) 0 last in
      rw (filled_lent e q, sym c)
      (stored_more h.interval_count
      (omega (arith, length-append (from (lent_interval a) 0 last) (interval e block (get_or a.adjustments last 0) ∷ [])))
      (stored_more last (omega arith) x y)
      w)

-- so the pieces of a growth end below 2^32
pub piece_fits
    : (g : Growth) → g.falls ≡ false → (start : ℕ) → start ≡ length_to (old_table g) (new_sizes g)
    → (done : List Interval) (i : Interval) (behind : List Interval)
    → done ++ (i ∷ behind) ≡ pieces (old_table g) (new_sizes g) start 0 g.block_count → i.end < 2 ^ 32
piece_fits g e start q done i behind k =
    let fills = growth_fills g e in
    omega (
      arith,
      piece_most _ _ _ _ _ fills done i behind
          (k
          ∙ ap (λ m. pieces (old_table g) (new_sizes g) m 0 g.block_count) q
          ∙ ap (pieces (old_table g) (new_sizes g) (length_to (old_table g) (new_sizes g)) 0) g.grows.counted),
      (fills_asked _ _ _ _ _ fills).bucket_limit,
    )

-- in a turn in which block j gains, its piece comes first
pub piece_turn
    : (g : Growth) (j at gained : ℕ) → j < g.block_count → j < max_blocks → gained ≡ piece_of (old_table g) (new_sizes g) j
    → (gained ≡ 0 → ⊥)
    → Front
    (pieces (old_table g) (new_sizes g) at j (g.block_count - j))
    (interval (at + gained) j (at - get_or g.olds.now j 0) ∷ [])
    (pieces (old_table g) (new_sizes g) (at + gained) (j + 1) (g.block_count - (j + 1)))
piece_turn g j at gained l few e n =
    let t = old_table g in
    let s = new_sizes g in
    let behind = g.block_count - (j + 1) in
    record {
      joined =
          pieces_take t s j at g.block_count l (λ q. n (e ∙ q))
          ∙ ap (λ d. interval (at + d) j (at - has t j) ∷ pieces t s (at + d) (j + 1) behind) (sym e)
          ∙ ap
          (λ d. interval (at + gained) j (at - d) ∷ pieces t s (at + gained) (j + 1) behind)
          (sym (g.grows.before j few));
    }
