-- Laws of intervals stored at a place of the interval arrays, and what a loop that writes them keeps. Assumes nothing.
use Prim.Native.Nat.{ℕ, ◌+◌, ◌≤◌}
use mathlib.Core.Path.{◌≡◌, refl, sym, ◌∙◌, ap, subst}
use mathlib.Core.List.{List, [], ◌++◌, map, map-append, append_assoc, append-nil}
use native.Mathlib.Nat.{add-zero}
use native.Mathlib.Omega.{arith}
use lib.ListN.{length, length-append, length-map}
use lib.Seq.{sets, length-sets}
use Rattle.model.specs.Table.{Interval, Table, arrays, over, written}
use Rattle.model.proofs.Entries.{sets_over, Put, put_more}
use Rattle.expansion_count.proofs.Parts.{Front}
use Rattle.expansion_drain.specs.Stored.{Room, Stored}

-- room for fewer
pub room_less : {m n : ℕ} {es bs cs : List ℕ} → m ≤ n → Room n es bs cs → Room m es bs cs
room_less l r = record { ends = omega arith; blocks = omega arith; adjustments = omega arith }

-- the lengths are kept, and so is room
pub stored_same
    : {o : ℕ} {is : List Interval} {es bs cs es' bs' cs' : List ℕ} → Stored o is es bs cs es' bs' cs'
    → (length es' ≡ length es) × (length bs' ≡ length bs) × (length cs' ≡ length cs)
stored_same {o} {is} {es} {bs} {cs} s = (
  ap length s.ends ∙ length-sets es o (map (λ i. i.end) is),
  ap length s.blocks ∙ length-sets bs o (map (λ i. i.block) is),
  ap length s.adjustments ∙ length-sets cs o (map (λ i. i.adjustment) is),
)

pub stored_room
    : {o n : ℕ} {is : List Interval} {es bs cs es' bs' cs' : List ℕ}
    → Stored o is es bs cs es' bs' cs' → Room n es bs cs → Room n es' bs' cs'
stored_room s r =
    let same = stored_same s in
    record { ends = omega arith; blocks = omega arith; adjustments = omega arith }

pub stored_none : (o : ℕ) (es bs cs : List ℕ) → Stored o [] es bs cs es bs cs
stored_none o es bs cs = record { ends = refl; blocks = refl; adjustments = refl }

-- one column: more of it behind what is stored
column_more
    : (f : Interval → ℕ) (is js : List Interval) (o p : ℕ) (xs xs' xs'' : List ℕ) → p ≡ o + length is
    → xs' ≡ sets xs o (map f is) → xs'' ≡ sets xs' p (map f js) → xs'' ≡ sets xs o (map f (is ++ js))
column_more f is js o p xs xs' xs'' c e k =
    let p : Put o p (map f is) xs xs' = record { place = omega (arith, length-map is f); holds = e } in
    (put_more p (map f js) k refl).holds
    ∙ ap (sets xs o) (sym (map-append f is js))

-- more intervals behind those stored
pub stored_more
    : {o : ℕ} {is js : List Interval} {es bs cs es' bs' cs' es'' bs'' cs'' : List ℕ} (p : ℕ) → p ≡ o + length is
    → Stored o is es bs cs es' bs' cs' → Stored p js es' bs' cs' es'' bs'' cs''
    → Stored o (is ++ js) es bs cs es'' bs'' cs''
stored_more {o} {is} {js} p c s k =
    record {
      ends = column_more (λ i. i.end) is js o p _ _ _ c s.ends k.ends;
      blocks = column_more (λ i. i.block) is js o p _ _ _ c s.blocks k.blocks;
      adjustments = column_more (λ i. i.adjustment) is js o p _ _ _ c s.adjustments k.adjustments;
    }

-- a table's intervals stored from the first place on, with its tops over the old ones: the table is written
pub stored_written
    : (u : Table) (ts ts' : List ℕ) {es bs cs es' bs' cs' : List ℕ} → ts' ≡ over u.tops ts
    → Stored 0 u.intervals es bs cs es' bs' cs' → Room (length u.intervals) es bs cs
    → arrays ts' es' bs' cs' ≡ written u (arrays ts es bs cs)
unfolding written
stored_written u ts ts' {es} {bs} {cs} e s r =
    let ends = s.ends ∙ sets_over (map (λ i. i.end) u.intervals) es (omega (arith, length-map u.intervals (λ i. i.end), r.ends)) in
    let blocks = s.blocks ∙ sets_over (map (λ i. i.block) u.intervals) bs (omega (arith, length-map u.intervals (λ i. i.block), r.blocks)) in
    let adjustments =
    s.adjustments
    ∙ sets_over (map (λ i. i.adjustment) u.intervals) cs (omega (arith, length-map u.intervals (λ i. i.adjustment), r.adjustments)) in
    λ i. arrays (e i) (ends i) (blocks i) (adjustments i)

-- A LOOP THAT WRITES

-- what is written from place q on, up to place o, and what is left to write make up the whole
pub record Writing (q o : ℕ) (whole rest : List Interval) (es bs cs es' bs' cs' : List ℕ) : Type 0 where
  pub done : List Interval
  pub cursor : o ≡ q + length done
  pub split : done ++ rest ≡ whole
  pub stored : Stored q done es bs cs es' bs' cs'

pub writing_start : (q : ℕ) (whole : List Interval) (es bs cs : List ℕ) → Writing q q whole whole es bs cs es bs cs
writing_start q whole es bs cs =
    record { done = []; cursor = sym (add-zero q); split = refl; stored = stored_none q es bs cs }

module _ {q o : ℕ} {whole rest : List Interval} {es bs cs es' bs' cs' : List ℕ}
    (w : Writing q o whole rest es bs cs es' bs' cs')
  where
    -- there is room for what is left
    pub writing_room : Room (q + length whole) es bs cs → Room (o + length rest) es' bs' cs'
    writing_room r =
        let k = stored_room w.stored r in
        let all = ap length w.split in
        let fits : o + length rest ≡ q + length whole = omega (arith, w.cursor, length-append w.done rest) in
        record { ends = omega arith; blocks = omega arith; adjustments = omega arith }

    -- and for the first part of it
    pub writing_part
        : {is behind : List Interval} → Front rest is behind → Room (q + length whole) es bs cs → Room (o + length is) es' bs' cs'
    writing_part f r = room_less (omega (arith, simp length-append at (ap length f.joined))) (writing_room r)

    -- some of it is written
    pub writing_more
        : {es'' bs'' cs'' : List ℕ} {is behind : List Interval} (p : ℕ) → Front rest is behind → Stored o is es' bs' cs' es'' bs'' cs''
        → p ≡ o + length is → Writing q p whole behind es bs cs es'' bs'' cs''
    writing_more {is = is} {behind = behind} p f s c =
        record {
          done = w.done ++ is;
          cursor = omega (arith, w.cursor, length-append w.done is);
          split = append_assoc w.done is behind ∙ ap (λ l. w.done ++ l) (sym f.joined) ∙ w.split;
          stored = stored_more o w.cursor w.stored s;
        }

    -- nothing is left
    pub writing_end : rest ≡ [] → Stored q whole es bs cs es' bs' cs'
    writing_end e =
        subst (λ l. Stored q l es bs cs es' bs' cs')
        (sym (append-nil w.done) ∙ ap (λ l. w.done ++ l) (sym e) ∙ w.split)
        w.stored

    -- and the place is behind the whole
    pub writing_all : rest ≡ [] → o ≡ q + length whole
    writing_all e =
        omega (arith, w.cursor, simp length-append at (ap length w.split), ap length e)
