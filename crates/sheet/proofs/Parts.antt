-- Laws of the parts of a sheet's line, and of lines stored. Assumes nothing.
use Prim.Native.Nat.{ℕ, suc, ◌+◌, ◌-◌, ◌*◌, ◌≤◌, ◌<◌}
use mathlib.Core.Path.{◌≡◌, refl, sym, ◌∙◌, ap, subst}
use mathlib.Core.Logic.{⊎_elim}
use mathlib.Core.List.{List, [], ◌∷◌, ◌++◌, append-nil, append_assoc}
use native.Mathlib.Nat.{zero-add}
use native.Mathlib.Numerals.{add-one}
use native.Mathlib.Omega.{arith}
use lib.ListN.{length, get_or, take, drop, set, length-append}
use lib.Seq.{set-set, set_comm, sets, length-sets}
use Rattle.model.specs.Basics.{from, joined, before}
use Rattle.model.specs.Table.{Arrays, arrays, table, over, first_bin, block_bins}
use Rattle.model.specs.Limits.{max_buckets, max_bins}
use Rattle.model.specs.Lent.{SpansFormed}
use Rattle.model.specs.Sound.{Formed}
use Rattle.model.specs.Sheet.{field, sheet_line, sheet, sheet_length}
use Rattle.model.specs.declared.table.Header.{Header}
use Rattle.model.proofs.Counts.{below_or}
use Rattle.model.proofs.Parts.{parts_length, part_at, joined_next}
use Rattle.model.proofs.Rows.{end_within}
use Rattle.model.proofs.Entries.{sets_swap, sets_over, Put, put_none, put_length, put_more, put_over}
use Rattle.model.proofs.Sheets.{field_length, lent_line, sheet_lent, top_within}
use Rattle.sheet.specs.Lines.{head_of, tail_of, spaced_tail, tails_of}

pub head_length : (start end : ℕ) → length (head_of start end) ≡ 20
unfolding head_of
head_length start end =
    omega (arith, length-append (field start) (field (end - 1)), field_length start, field_length (end - 1))

pub tail_length : (tops : List ℕ) (j : ℕ) → length (tail_of tops j) ≡ 31
unfolding tail_of
tail_length tops j =
    let f = first_bin tops j in
    let d = block_bins tops j in
    omega (
      arith,
      length-append (field j) (field f ++ (field d ++ (10 ∷ []))),
      length-append (field f) (field d ++ (10 ∷ [])),
      length-append (field d) (10 ∷ []),
      field_length j,
      field_length f,
      field_length d,
    )

pub regrouped : (w x y z : List ℕ) → w ++ x ++ y ++ z ≡ w ++ (x ++ (y ++ z))
regrouped w x y z = simp append_assoc

-- a head is two fields, one behind the other
pub head_stored
    : (start end at : ℕ) (old next done : List ℕ) → next ≡ sets old at (field start) → done ≡ sets next (at + 10) (field (end - 1))
    → done ≡ sets old at (head_of start end)
unfolding head_of
head_stored start end at old next done e f =
    let one = put_more (put_none at old) {o' = at + 10} (field start) e (omega (arith, field_length start)) in
    (put_more one {o' = at + 20} (field (end - 1)) f (omega (arith, field_length (end - 1)))).holds

-- a line is its head and its tail
pub line_parts
    : (a : Arrays) (i : ℕ) → head_of (before a.ends i) (get_or a.ends i 0) ++ tail_of a.tops (get_or a.blocks i 0) ≡ lent_line a i
unfolding head_of tail_of sheet_line joined first_bin block_bins
line_parts a i = simp (append_assoc, append-nil)

-- LINES AND TAILS, STORED

-- a line of the sheet: its head, then its tail
pub line_stored
    : (a : Arrays) (i : ℕ) {old out next done : List ℕ} → Put 0 (51 * i) (joined (from (lent_line a) 0 i)) old out
    → next ≡ sets out (51 * i) (head_of (before a.ends i) (get_or a.ends i 0))
    → done ≡ sets next (51 * i + 20) (tail_of a.tops (get_or a.blocks i 0))
    → Put 0 (51 * (i + 1)) (joined (from (lent_line a) 0 (i + 1))) old done
line_stored a i {old} {out} {next} {done} p e f =
    let head = head_of (before a.ends i) (get_or a.ends i 0) in
    let tail = tail_of a.tops (get_or a.blocks i 0) in
    let first = put_more p {o' = 51 * i + 20} head e (omega (arith, head_length (before a.ends i) (get_or a.ends i 0))) in
    let both = put_more first {o' = 51 * (i + 1)} tail f (omega (arith, tail_length a.tops (get_or a.blocks i 0))) in
    subst (λ (l : List ℕ). Put 0 (51 * (i + 1)) l old done)
    (append_assoc (joined (from (lent_line a) 0 i)) head tail
    ∙ ap (λ (l : List ℕ). joined (from (lent_line a) 0 i) ++ l) (line_parts a i)
    ∙ sym (joined_next (lent_line a) i))
    both

-- all of them are the sheet
pub sheet_stored
    : (h : Header) (t e b : List ℕ) (s : SpansFormed h t e b) {old out : List ℕ} → sheet_length h.interval_count ≤ length old
    → Put 0 (51 * h.interval_count) (joined (from (lent_line (arrays t e b [])) 0 h.interval_count)) old out
    → out ≡ over (sheet (table h (arrays t e b []))) old
unfolding sheet_length
sheet_stored h t e b s {old} room p =
    put_over p room ∙ ap (λ (l : List ℕ). over l old) (sym (sheet_lent h (arrays t e b []) s.formed.blocks_below))

-- there is room for another line: for its head, and behind that for its tail
pub room_for
    : (k : ℕ) {new old out : List ℕ} → sheet_length k ≤ length old → (i : ℕ) → Put 0 (51 * i) new old out
    → i < k → (51 * i + 20 ≤ length out) × (51 * i + 51 ≤ length out)
unfolding sheet_length
room_for k room i p l = (omega (arith, put_length p), omega (arith, put_length p))

pub room_before
    : (k : ℕ) {new old out : List ℕ} → sheet_length k ≤ length old → (i : ℕ) → Put 0 (51 * i) new old out → i < k
    → 51 * i + 20 - 1 + 32 ≤ length out
room_before k room i p l = omega (arith, (room_for k room i p l).1)

pub Room_after
    : (k : ℕ) {new old out next : List ℕ} → sheet_length k ≤ length old → (i : ℕ) → Put 0 (51 * i) new old out → i < k
    → (o : ℕ) (head : List ℕ) → next ≡ sets out o head → 51 * i + 20 + 31 ≤ length next
Room_after k {out = out} room i p l o head e =
    omega (arith, ap length e, length-sets out o head, (room_for k room i p l).1)

-- tails with a blank before each
pub spaced_length : (tops : List ℕ) (j : ℕ) → length (spaced_tail tops j) ≡ 32
unfolding spaced_tail
spaced_length tops j = ap suc (tail_length tops j)

-- the blank, then the tail
pub spaced_stored
    : (tops : List ℕ) (j : ℕ) (out done : List ℕ) → done ≡ sets (set out (32 * j) 32) (32 * j + 1) (tail_of tops j)
    → done ≡ sets out (32 * j) (spaced_tail tops j)
unfolding spaced_tail
spaced_stored tops j out done e = e ∙ ap (λ k. sets (set out (32 * j) 32) k (tail_of tops j)) (add-one (32 * j))

-- read where they all are
pub tail_at
    : (tops own tails : List ℕ) (n j : ℕ) → tails ≡ sets own 0 (tails_of tops n) → 32 * n ≤ length own → j < n
    → (take 32 (drop (32 * j) tails) ≡ spaced_tail tops j) × (32 * j + 32 ≤ length tails)
unfolding tails_of over
tail_at tops own tails n j e room l =
    let size = parts_length (spaced_tail tops) 32 (spaced_length tops) 0 n in
    let whole = e ∙ sets_over (tails_of tops n) own (omega (arith, size)) in (
      ap (λ (xs : List ℕ). take 32 (drop (32 * j) xs)) whole ∙ read (tails_of tops n) refl ∙ ap (spaced_tail tops) (zero-add j),
      omega (arith, ap length e, length-sets own 0 (tails_of tops n)),
    )
  where
    read : (xs : List ℕ) → xs ≡ joined (from (spaced_tail tops) 0 n) → take 32 (drop (32 * j) (over xs own)) ≡ spaced_tail tops (0 + j)
    read xs e =
        ap (λ (ys : List ℕ). take 32 (drop (32 * j) (over ys own))) e
        ∙ part_at (spaced_tail tops) 32 (spaced_length tops) 0 n j (drop (length (joined (from (spaced_tail tops) 0 n))) own) l

-- an entry that others cover
hidden
    : (hs l : List ℕ) (o i w : ℕ) → o ≤ i → i < o + length hs → sets (set l i w) o hs ≡ sets l o hs
hidden [] l o i w a b = absurd (omega arith)
hidden (h ∷ hs) l o i w a b =
    ⊎_elim
    (λ later.
    ap (λ (m : List ℕ). sets m (suc o) hs) (set_comm l i o w h (λ (e : i ≡ o). omega (arith, later)))
    ∙ hidden hs (set l o h) (suc o) i w later (omega arith))
    (λ here.
    let same : i ≡ o = omega (arith, here) in
    ap (λ (m : List ℕ). sets m (suc o) hs) (ap (λ k. set (set l k w) o h) same ∙ set-set l o w h))
    (below_or o i)

-- a tail with its blank, and then the head, which covers the blank
pub head_last
    : (l next done tail head : List ℕ) (o w : ℕ) → length head ≡ 20 → next ≡ sets l (o + 20 - 1) (w ∷ tail) → done ≡ sets next o head
    → done ≡ sets (sets l o head) (o + 20) tail
head_last l next done tail head o w size e f =
    let before : o + 20 - 1 ≡ o + 19 = omega arith in
    let behind : suc (o + 19) ≡ o + 20 = omega arith in
    f
    ∙ ap (λ (m : List ℕ). sets m o head)
    (e ∙ ap (λ k. sets l k (w ∷ tail)) before ∙ ap (λ k. sets (set l (o + 19) w) k tail) behind)
    ∙ sym (sets_swap head tail (set l (o + 19) w) o (o + 20) (omega (arith, size)))
    ∙ ap (λ (m : List ℕ). sets m (o + 20) tail) (hidden head l o (o + 19) w (omega arith) (omega (arith, size)))

-- WHAT A FORMED TABLE HAS

module _ {h : Header} {t e b : List ℕ} (s : SpansFormed h t e b) where
  pub head_ready : (i : ℕ) → i < h.interval_count → (before e i < get_or e i 0) × (get_or e i 0 ≤ max_buckets)
  head_ready i l = (s.formed.ends_rise i l, omega (arith, end_within h _ s.formed i l, s.formed.bucket_limit))

  pub block_below_lem : (i : ℕ) → i < h.interval_count → get_or b i 0 < h.block_count
  block_below_lem i l = s.formed.blocks_below i l

pub tail_ready
    : (h : Header) (a : Arrays) → Formed h a → (j : ℕ) → j < h.block_count
    → (j < length a.tops) × (j < max_bins) × (before a.tops j ≤ get_or a.tops j 0) × (get_or a.tops j 0 ≤ max_bins)
tail_ready h a s j l = (
  omega (arith, s.tops_long),
  omega (arith, s.block_limit),
  omega (arith, s.tops_rise j l),
  top_within h a s j l,
)
