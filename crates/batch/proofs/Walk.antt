-- Laws of the walk of a formed table's intervals for a list of buckets that does not fall. Assumes nothing.
use Prim.Native.Nat.{ℕ, ◌+◌, ◌-◌, ◌*◌, ◌≤◌, ◌<◌}
use mathlib.Core.Path.{◌≡◌, refl, sym, ◌∙◌, ap, ap₂, subst}
use mathlib.Core.Bool.{false}
use mathlib.Core.List.{List, [], ◌∷◌, ◌++◌}
use mathlib.Core.Logic.{⊎_elim}
use native.Mathlib.Omega.{arith}
use lib.ListN.{length, get_or, take, drop, length-drop}
use lib.Seq.{get_or-drop, get_or-take, take-add, take_all, length-take-le}
use Rattle.model.specs.Basics.{before, joined}
use Rattle.model.specs.Table.{Arrays, table, over}
use Rattle.model.specs.Place.{place, places}
use Rattle.model.specs.Refusal.{falls}
use Rattle.model.specs.Sound.{Formed}
use Rattle.model.specs.declared.table.Header.{Header}
use Rattle.model.proofs.Counts.{below_or}
use Rattle.model.proofs.Batches.{falls_not}
use Rattle.model.proofs.Intervals.{before_mono}
use Rattle.model.proofs.Entries.{Put, put_none, put_more, put_over}
use Rattle.model.proofs.Mapped.{mapped_length, mapped_append, mapped_same}
use Rattle.model.proofs.Rows.{lent_place}
use Rattle.model.proofs.Rules.{before_next}
use Rattle.lookup.specs.Search.{Among}
use Rattle.lookup.proofs.Searches.{adjustment_below}
use Rattle.table.specs.Placing.{placing_at}
use Rattle.table.specs.declared.Placing.{Placing}
use Rattle.batch.specs.Slots.{slot_pair, slot_pairs, Placeable, Placed, Stops}

-- at interval `interval` and bucket number i: the places of the buckets before it are written, and it is not before that interval
pub record Walking (h : Header) (a : Arrays) (xs : List ℕ) (interval i : ℕ) (old out : List ℕ) : Type 0 where
  pub within : interval < h.interval_count
  pub on : i ≤ length xs
  pub after : i < length xs → before a.ends interval ≤ get_or xs i 0
  pub put : Put 0 (2 * i) (places (table h a) (take i xs)) old out

module _
    {h : Header} {a : Arrays} (xs : List ℕ) (formed : Formed h a)
    (asked : (falls xs ≡ false) × ((i : ℕ) → i < length xs → get_or xs i 0 < h.buckets)) where
  pub walking_starts : (old : List ℕ) → Walking h a xs 0 0 old old
  unfolding before places joined
  walking_starts old =
      record { within = formed.some_intervals; on = omega arith; after = λ l. omega arith; put = put_none 0 old }

  pub walking_ends
      : {interval i : ℕ} {old out : List ℕ} → Walking h a xs interval i old out → length xs ≤ i → 2 * length xs ≤ length old
      → out ≡ over (places (table h a) xs) old
  walking_ends {interval} {i} {old} w l room =
      put_over w.put (omega (arith, w.on)) ∙ ap (λ (ys : List ℕ). over (places (table h a) ys) old) (take_all i xs l)

  -- the search for the bucket's interval
  pub walking_among
      : {interval i : ℕ} {old out : List ℕ} → Walking h a xs interval i old out → i < length xs
      → Among a.ends h.interval_count (get_or xs i 0) interval (h.interval_count - interval)
  walking_among {interval} {i} w l =
      let last : interval + (h.interval_count - interval) ≡ h.interval_count = omega (arith, w.within) in
      record {
        some = omega (arith, w.within);
        within = omega arith;
        from = w.after l;
        to = rw last (omega (arith, formed.last_end, asked.1 i l));
      }

  -- bucket i lies in interval j
  module _ {i j : ℕ} (l : i < length xs) (m : Among a.ends h.interval_count (get_or xs i 0) j 1) where
    -- which is one of the table's, and whose numbers place that bucket and the later ones
    pub found_within : j < h.interval_count
    found_within = omega (arith, m.within)

    pub found_placeable
        : {p : Placing} {out : List ℕ} → p ≡ placing_at a j → 2 * length xs ≤ length out → Placeable p xs i out
    found_placeable e room =
        let block = formed.blocks_below j found_within in
        let top = before_mono a.tops h.block_count formed.tops_rise h.block_count (get_or a.blocks j 0 + 1) (omega (arith, block)) (omega arith) in
        let next = before_next a.tops (get_or a.blocks j 0) in
        record {
          rise = asked.0;
          places =
              λ k b c.
              record {
                some = omega (arith, ap (λ p. p.bins) e, formed.tops_rise _ block);
                fits = omega (arith, ap (λ p. p.first + p.bins) e, formed.tops_rise _ block, top, next, formed.bin_limit);
                ranked =
                    omega (
                      arith,
                      ap (λ p. p.adjustment) e,
                      adjustment_below h a formed j found_within,
                      m.from,
                      falls_not xs asked.0 i k b c,
                    );
                limit = omega (arith, asked.1 k c, formed.bucket_limit);
              };
          room = room;
        }

    module _ {p : Placing} {r : ℕ} {out out' : List ℕ} (e : p ≡ placing_at a j) (w : Placed p (get_or a.ends j 0) xs i r out out') where
      -- at least that bucket is placed
      pub found_more : Stops (get_or a.ends j 0) xs r → i < r
      found_more stops =
          ⊎_elim
          (λ k. k)
          (λ k.
          let same : r ≡ i = omega (arith, w.on, k) in
          let stop : get_or a.ends j 0 ≤ get_or xs i 0 = rw same at (stops (omega (arith, same, l))) in
          absurd (omega (arith, stop, m.to, before_next a.ends j)))
          (below_or i r)

      -- the places of a bucket among those that are written
      pair_same : (k : ℕ) → k < r - i → place (table h a) (get_or xs (i + k) 0) ≡ slot_pair p (get_or xs (i + k) 0)
      unfolding place
      pair_same k b =
          let x = get_or xs (i + k) 0 in
          let low : get_or xs i 0 ≤ x = falls_not xs asked.0 i (i + k) (omega arith) (omega (arith, w.within)) in
          let high : x < get_or a.ends j 0 = w.below (i + k) (omega arith) (omega arith) in
          let at = lent_place h a formed j x found_within (omega (arith, m.from, low)) high in
          ap₂ (λ y q. y ∷ q ∷ []) at.0 at.1 ∙ ap (λ p. slot_pair p x) (sym e)

      -- so they are the table's
      part_places : places (table h a) (take r xs) ≡ places (table h a) (take i xs) ++ slot_pairs p (take (r - i) (drop i xs))
      unfolding places
      part_places =
          let part = take (r - i) (drop i xs) in
          let all : r ≡ i + (r - i) = omega (arith, w.on) in
          let few : length part ≡ r - i = length-take-le (r - i) (drop i xs) (omega (arith, length-drop i xs, w.within, w.on)) in
          let entry : (k : ℕ) → k < r - i → get_or part k 0 ≡ get_or xs (i + k) 0 =
          λ k b. get_or-take (r - i) (drop i xs) k 0 b ∙ get_or-drop i xs k 0 in
          ap (λ n. places (table h a) (take n xs)) all
          ∙ ap (places (table h a)) (take-add i (r - i) xs)
          ∙ mapped_append (place (table h a)) (take i xs) part
          ∙ ap (λ (ys : List ℕ). places (table h a) (take i xs) ++ ys)
          (mapped_same (place (table h a)) (slot_pair p) part
          (λ k b.
          let near : k < r - i = omega (arith, few) in
          ap (place (table h a)) (entry k near) ∙ pair_same k near ∙ sym (ap (slot_pair p) (entry k near))))

      -- and the walk goes on
      pub walking_more : {interval : ℕ} {old : List ℕ} → Walking h a xs interval i old out → Walking h a xs j r old out'
      walking_more {interval} {old} s =
          let part = take (r - i) (drop i xs) in
          let few : length part ≡ r - i = length-take-le (r - i) (drop i xs) (omega (arith, length-drop i xs, w.within, w.on)) in
          let long : length (slot_pairs p part) ≡ 2 * length part = mapped_length (slot_pair p) 2 (λ x. refl) part in
          record {
            within = found_within;
            on = w.within;
            after = λ b. omega (arith, m.from, falls_not xs asked.0 i r w.on b);
            put =
                subst (λ (new : List ℕ). Put 0 (2 * r) new old out') (sym part_places)
                (put_more s.put (slot_pairs p part) w.holds (omega (arith, long, few, w.on)));
          }
