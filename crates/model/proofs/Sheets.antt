-- Laws of the rack sheet: a field's width and number, the sheet's lines, and what is read off them. Assumes nothing.
use Prim.Native.Nat.{ℕ, zero, suc, ◌+◌, ◌-◌, ◌*◌, ◌^◌, ◌≤◌, ◌<◌}
use mathlib.Core.Path.{◌≡◌, refl, sym, ◌∙◌, ap, ap₂}
use mathlib.Core.Logic.{⊎_elim}
use mathlib.Core.Bool.{true}
use mathlib.Core.List.{List, [], ◌∷◌, ◌++◌, map, append_assoc}
use native.Mathlib.Nat.{zero-add, le_refl, le_of_lt, mod-lt}
use native.Mathlib.Omega.{arith}
use lib.ListN.{length, get_or, take, length-append, length-replicate, get_or-replicate, get_or-append}
use lib.Seq.{take_at, drop_at, get_or-append-add, get_or-take}
use borrow.Author.Tests.{lt-ltb, le-ltb, ne_eqb}
use Rattle.model.specs.Basics.{if◌then◌otherwise◌, from, joined, before}
use Rattle.model.specs.Decimal.{digits_only, decimal}
use Rattle.model.specs.Table.{Arrays, arrays, table, first_bin, block_bins}
use Rattle.model.specs.Refusal.{first}
use Rattle.model.specs.Search.{interval_at}
use Rattle.model.specs.Sound.{Formed, Sound}
use Rattle.model.specs.Sheet.{blanks, field, sheet_line, interval_numbers, sheet, sheet_length, sheet_short}
use Rattle.model.specs.Calls.{table_tests, sheet_tests, sheet_refusal, sheet_answer, sheet_after, sheet_reply, sheet_bytes}
use Rattle.model.specs.Console.{in_front, lines_of}
use Rattle.model.specs.SheetClaims.{
  unblanked,
  field_read,
  fields_read,
  line_read,
  FieldWidth,
  FieldBlanks,
  SheetFits,
  SheetLast,
  SheetLength,
  sheet_text,
  SheetRead,
  number_read,
  SheetPlaces,
}
use Rattle.model.specs.declared.table.Header.{Header}
use Rattle.model.specs.declared.reply.SheetReply.{SheetReply}
use Rattle.model.proofs.Counts.{below_or}
use Rattle.model.proofs.Decimals.{decimal_short, decimal_few, decimal_some, decimal_many, decimal_only, decimal_value, only_at}
use Rattle.model.proofs.Mapped.{mapped_length}
use Rattle.model.proofs.Parts.{parts_length}
use Rattle.model.proofs.Intervals.{before_mono, block_at}
use Rattle.model.proofs.Refusals.{first_found, first_after, first_here, first_other, first_pass, first_none, accepted}
use Rattle.model.proofs.Tables.{length_from, get_d_from, from_ext, map_from, take_over, before_same, lent_interval}
use Rattle.model.proofs.Rows.{end_within, lent_place}
use Rattle.model.proofs.Soundness.{sound_iff_lem, table_numbered}

-- A FIELD

blanks_length : (m : ℕ) → length (blanks m) ≡ m
blanks_length m = length-replicate m 32

-- ten characters: the blanks, then the digits
pub field_length : (n : ℕ) → length (field n) ≡ 10
unfolding field
field_length n =
    omega (
      arith,
      length-append (blanks (10 - length (decimal n))) (decimal n),
      blanks_length (10 - length (decimal n)),
      decimal_short n,
    )

-- blanks are skipped, digits are not
skipped : (m : ℕ) (l : List ℕ) → unblanked (blanks m ++ l) ≡ unblanked l
unfolding unblanked if◌then◌otherwise◌
skipped zero l = refl
skipped (suc m) l = skipped m l

kept : (ds : List ℕ) → digits_only ds ≡ true → unblanked ds ≡ ds
unfolding unblanked if◌then◌otherwise◌
kept [] e = refl
kept (c ∷ cs) e = rw (ne_eqb c 32 (λ (h : c ≡ 32). omega (arith, only_at (c ∷ cs) e 0 (omega arith))))

field_digits : (n : ℕ) → unblanked (field n) ≡ decimal n
unfolding field
field_digits n = skipped (10 - length (decimal n)) (decimal n) ∙ kept (decimal n) (decimal_only n)

pub field_width_lem : FieldWidth
unfolding field_read
field_width_lem n l = (
  field_length n,
  rw (field_digits n) (decimal_only n),
  rw (field_digits n) (decimal_value n l),
)

-- the blanks are the columns before the digits
blank_at : (n i : ℕ) → i < 10 - length (decimal n) → get_or (field n) i 0 ≡ 32
unfolding field
blank_at n i l =
    get_or-append (blanks (10 - length (decimal n))) (decimal n) 0 i
    (omega (arith, blanks_length (10 - length (decimal n))))
    ∙ get_or-replicate (10 - length (decimal n)) i 32 0 l

digit_at : (n i : ℕ) → 10 - length (decimal n) ≤ i → i < 10 → 48 ≤ get_or (field n) i 0
unfolding field
digit_at n i l h =
    let m = 10 - length (decimal n) in
    let place : i ≡ length (blanks m) + (i - m) = omega (arith, blanks_length m) in
    omega (
      arith,
      ap (λ k. get_or (blanks m ++ decimal n) k 0) place,
      get_or-append-add (blanks m) (decimal n) (i - m) 0,
      only_at (decimal n) (decimal_only n) (i - m) (omega (arith, decimal_short n)),
    )

pub field_blanks_lem : FieldBlanks
field_blanks_lem n i l h = (
  (λ e.
      ⊎_elim
      (λ b. let small = fewer b in (small.0, small.1))
      (λ d. absurd (omega (arith, digit_at n i d h)))
      (below_or i (10 - length (decimal n)))),
  (λ s.
      let column : suc (8 - i) ≡ 9 - i = omega (arith, s.0) in
      blank_at n i (omega (arith, s.0, decimal_few (8 - i) n (rw column s.1)))),
)
  where
    fewer : i < 10 - length (decimal n) → (i < 9) × (n < 10 ^ (9 - i))
    fewer b =
        ⊎_elim
        (λ small. (omega (arith, decimal_some n), small))
        (λ large. absurd (omega (arith, decimal_many (9 - i) n (omega arith) large)))
        (below_or n (10 ^ (9 - i)))

-- THE LINES

-- no character is before the blank, so none is a line feed
abbrev Inked : List ℕ → Type 0
Inked l = (i : ℕ) → i < length l → 32 ≤ get_or l i 0

inked_append : (xs ys : List ℕ) → Inked xs → Inked ys → Inked (xs ++ ys)
inked_append xs ys p q i l =
    ⊎_elim
    (λ b. omega (arith, get_or-append xs ys 0 i b, p i b))
    (λ b.
    let place : i ≡ length xs + (i - length xs) = omega arith in
    omega (
      arith,
      ap (λ k. get_or (xs ++ ys) k 0) place,
      get_or-append-add xs ys (i - length xs) 0,
      q (i - length xs) (omega (arith, length-append xs ys)),
    ))
    (below_or i (length xs))

field_inked : (n : ℕ) → Inked (field n)
field_inked n i l =
    ⊎_elim
    (λ b. omega (arith, blank_at n i b))
    (λ b. omega (arith, digit_at n i b (omega (arith, field_length n))))
    (below_or i (10 - length (decimal n)))

fields_inked : (ns : List ℕ) → Inked (joined (map field ns))
unfolding joined
fields_inked [] = λ i l. absurd (omega arith)
fields_inked (n ∷ ns) = inked_append (field n) (joined (map field ns)) (field_inked n) (fields_inked ns)

-- a line up to its line feed
lines_next : (l more : List ℕ) → Inked l → lines_of (l ++ 10 ∷ more) ≡ l ∷ lines_of more
unfolding lines_of in_front if◌then◌otherwise◌
lines_next [] more p = refl
lines_next (c ∷ cs) more p =
    rw (ne_eqb c 10 (λ (e : c ≡ 10). omega (arith, p 0 (omega arith))))
    (ap (in_front c) (lines_next cs more (λ i l. p (suc i) (omega arith))))

-- the lines of a text of sheet lines are their fields
lines_all
    : (g : ℕ → List ℕ) (i k : ℕ)
    → lines_of (joined (from (λ m. sheet_line (g m)) i k)) ≡ from (λ m. joined (map field (g m))) i k
unfolding from joined sheet_line lines_of
lines_all g i zero = refl
lines_all g i (suc k) =
    ap lines_of (append_assoc (joined (map field (g i))) (10 ∷ []) (joined (from (λ m. sheet_line (g m)) (suc i) k)))
    ∙ lines_next (joined (map field (g i))) (joined (from (λ m. sheet_line (g m)) (suc i) k)) (fields_inked (g i))
    ∙ ap (λ (ls : List (List ℕ)). joined (map field (g i)) ∷ ls) (lines_all g (suc i) k)

-- fields read back
Fields_back
    : (ns : List ℕ) → ((i : ℕ) → i < length ns → get_or ns i 0 < 10_000_000_000)
    → fields_read (length ns) (joined (map field ns)) ≡ ns
unfolding fields_read joined
Fields_back [] small = refl
Fields_back (n ∷ ns) small =
    ap₂ {A = ℕ} {B = List ℕ} {C = List ℕ} (λ m ms. m ∷ ms)
    (ap field_read (take_at (field n) (joined (map field ns)) 10 (field_length n)) ∙ (field_width_lem n (small 0 (omega arith))).2)
    (ap (fields_read (length ns)) (drop_at (field n) (joined (map field ns)) 10 (field_length n))
    ∙ Fields_back ns (λ i l. small (suc i) (omega arith)))

-- five fields and a line feed
pub line_length : (ns : List ℕ) → length ns ≡ 5 → length (sheet_line ns) ≡ 51
unfolding sheet_line
line_length ns five =
    omega (arith, length-append (joined (map field ns)) (10 ∷ []), mapped_length field 10 field_length ns)

-- A LENT TABLE

-- the numbers of interval i of the lent arrays
abbrev pub lent_numbers : Arrays → ℕ → List ℕ
lent_numbers a i =
    before a.ends i
    ∷ (get_or a.ends i 0 - 1)
    ∷ get_or a.blocks i 0
    ∷ before a.tops (get_or a.blocks i 0)
    ∷ (get_or a.tops (get_or a.blocks i 0) 0 - before a.tops (get_or a.blocks i 0))
    ∷ []

-- and its line
abbrev pub lent_line : Arrays → ℕ → List ℕ
lent_line a i = sheet_line (lent_numbers a i)

module _ (h : Header) (a : Arrays) (below : (i : ℕ) → i < h.interval_count → get_or a.blocks i 0 < h.block_count) where
  numbers_lent : (i : ℕ) → i < h.interval_count → interval_numbers (table h a) i ≡ lent_numbers a i
  unfolding interval_numbers interval_at first_bin block_bins table
  numbers_lent i l =
      let k = h.interval_count in
      let g = h.block_count in
      let here = get_d_from (lent_interval a) 0 k i (lent_interval (arrays [] [] [] []) 0) l ∙ ap (lent_interval a) (zero-add i) in
      let start : before (map (λ v. v.end) (from (lent_interval a) 0 k)) i ≡ before a.ends i =
      ap (λ (xs : List ℕ). before xs i) (map_from (λ v. v.end) (lent_interval a) 0 k)
      ∙ before_same (from (λ m. get_or a.ends m 0) 0 k) a.ends k
      (λ m b. get_d_from (λ m. get_or a.ends m 0) 0 k m 0 b ∙ ap (λ j. get_or a.ends j 0) (zero-add m))
      i (le_of_lt l) in
      let top = get_or-take g a.tops (get_or a.blocks i 0) 0 (below i l) in
      let first =
      before_same (take g a.tops) a.tops g (λ j b. get_or-take g a.tops j 0 b) (get_or a.blocks i 0)
      (le_of_lt (below i l)) in
      rw (start, here, top, first)

  -- the sheet by its lines
  pub sheet_lent : sheet (table h a) ≡ joined (from (lent_line a) 0 h.interval_count)
  unfolding sheet table
  sheet_lent =
      ap (λ k. joined (from (λ i. sheet_line (interval_numbers (table h a) i)) 0 k)) (length_from (lent_interval a) 0 h.interval_count)
      ∙ ap joined
      (from_ext (λ i. sheet_line (interval_numbers (table h a) i)) (lent_line a) 0 h.interval_count
      (λ i p q. ap sheet_line (numbers_lent i (omega arith))))

  pub sheet_length_lem : length (sheet (table h a)) ≡ sheet_length h.interval_count
  unfolding sheet_length
  sheet_length_lem =
      ap length sheet_lent ∙ parts_length (lent_line a) 51 (λ i. line_length (lent_numbers a i) refl) 0 h.interval_count

module _ (h : Header) (a : Arrays) (s : Formed h a) where
  -- a block's last bin is below the limit
  pub top_within : (j : ℕ) → j < h.block_count → get_or a.tops j 0 ≤ 65_535
  unfolding before
  top_within j l =
      omega (
        arith,
        before_mono a.tops h.block_count s.tops_rise h.block_count (suc j) l (le_refl _),
        s.bin_limit,
      )

  numbers_small
      : (i : ℕ) → i < h.interval_count → (m : ℕ) → m < 5 → get_or (lent_numbers a i) m 0 < 10_000_000_000
  numbers_small i l = by
    where
      by : (m : ℕ) → m < 5 → get_or (lent_numbers a i) m 0 < 10_000_000_000
      by zero f = omega (arith, s.ends_rise i l, end_within h a s i l, s.bucket_limit)
      by (suc zero) f = omega (arith, end_within h a s i l, s.bucket_limit)
      by (suc (suc zero)) f = omega (arith, s.blocks_below i l, s.block_limit)
      by (suc (suc (suc zero))) f =
          omega (arith, s.tops_rise _ (s.blocks_below i l), top_within _ (s.blocks_below i l))
      by (suc (suc (suc (suc zero)))) f = omega (arith, top_within _ (s.blocks_below i l))
      by (suc (suc (suc (suc (suc m))))) f = absurd (omega arith)

-- adjustments are not on it
pub sheet_same
    : (h : Header) (t e b c c' : List ℕ) → Formed h (arrays t e b c)
    → sheet (table h (arrays t e b c)) ≡ sheet (table h (arrays t e b c'))
sheet_same h t e b c c' s =
    sheet_lent h (arrays t e b c) s.blocks_below ∙ sym (sheet_lent h (arrays t e b c') s.blocks_below)

-- THE CALL

-- no table is refused by 34
table_not : (h : Header) (a : Arrays) → first (table_tests h a) ≡ 34 → ⊥
unfolding table_tests
table_not h a e =
    let (sizes, e₁) = first_other 11 34 _ _ (λ z. omega arith) e in
    let (tops, e₂) = first_other 12 34 _ _ (λ z. omega arith) e₁ in
    let (ends, e₃) = first_other 13 34 _ _ (λ z. omega arith) e₂ in
    let (blocks, e₄) = first_other 14 34 _ _ (λ z. omega arith) e₃ in
    let (holdings, e₅) = first_other 15 34 _ _ (λ z. omega arith) e₄ in
    let (adjustments, e₆) = first_other 16 34 _ _ (λ z. omega arith) e₅ in
    let (capacity, e₇) = first_other 30 34 _ _ (λ z. omega arith) e₆ in
    omega (arith, e₇, first_none)

pub sheet_last_lem : SheetLast
unfolding sheet_refusal sheet_tests sheet_length
sheet_last_lem h a buffer = (refused, answered)
  where
    short : first (sheet_tests h buffer) ≡ 34 → length buffer < 51 * h.interval_count
    short e =
        ⊎_elim
        (λ l. l)
        (λ l. absurd (omega (arith, e, first_pass (34, sheet_short h buffer) [] (le-ltb _ _ l) first_none)))
        (below_or (length buffer) (51 * h.interval_count))

    refused : first (table_tests h a ++ sheet_tests h buffer) ≡ 34 → Sound h a × (length buffer < 51 * h.interval_count)
    refused e =
        ⊎_elim
        (λ z.
        let none : first (table_tests h a) ≡ 0 = omega (arith, z) in
        ((sound_iff_lem h a).0 none, short (sym (first_after (table_tests h a) _ (table_numbered h a) none) ∙ e)))
        (λ n. absurd (table_not h a (sym (first_found (table_tests h a) _ (λ z. omega (arith, z, n))) ∙ e)))
        (below_or (first (table_tests h a)) 1)

    answered : Sound h a × (length buffer < 51 * h.interval_count) → first (table_tests h a ++ sheet_tests h buffer) ≡ 34
    answered (sound, l) =
        first_after (table_tests h a) _ (table_numbered h a) ((sound_iff_lem h a).1 sound)
        ∙ first_here (34, sheet_short h buffer) [] (lt-ltb _ _ l)

module _ (h : Header) (a : Arrays) (buffer : List ℕ) (s : Sound h a) (room : SheetFits h buffer) where
  sheet_accepted : sheet_refusal h a buffer ≡ 0
  unfolding sheet_refusal sheet_tests sheet_length
  sheet_accepted =
      first_after (table_tests h a) _ (table_numbered h a) ((sound_iff_lem h a).1 s) ∙ first_pass (34, sheet_short h buffer) [] (le-ltb _ _ room) first_none

  sheet_reply_lem : sheet_reply h a buffer ≡ record { refusal = 0; length = sheet_length h.interval_count }
  unfolding sheet_reply sheet_answer
  sheet_reply_lem = accepted (sheet_refusal h a buffer) _ _ sheet_accepted

  -- its text is the sheet
  text_sheet : sheet_text h a buffer ≡ sheet (table h a)
  unfolding sheet_bytes sheet_after
  text_sheet =
      ap₂ take
      (ap (λ (v : SheetReply). v.length) sheet_reply_lem ∙ sym (sheet_length_lem h a s.formed.blocks_below))
      (accepted (sheet_refusal h a buffer) _ _ sheet_accepted)
      ∙ take_over (sheet (table h a)) buffer

  -- and its lines are those of the intervals
  text_lines : lines_of (sheet_text h a buffer) ≡ from (λ i. joined (map field (lent_numbers a i))) 0 h.interval_count
  text_lines =
      ap lines_of (text_sheet ∙ sheet_lent h a s.formed.blocks_below) ∙ lines_all (lent_numbers a) 0 h.interval_count

  text_line
      : (i : ℕ) → i < h.interval_count
      → get_or (lines_of (sheet_text h a buffer)) i [] ≡ joined (map field (lent_numbers a i))
  text_line i l =
      ap (λ (ls : List (List ℕ)). get_or ls i []) text_lines
      ∙ get_d_from (λ i. joined (map field (lent_numbers a i))) 0 h.interval_count i [] l
      ∙ ap (λ m. joined (map field (lent_numbers a m))) (zero-add i)

  text_read
      : (i : ℕ) → i < h.interval_count → line_read (get_or (lines_of (sheet_text h a buffer)) i []) ≡ lent_numbers a i
  unfolding line_read
  text_read i l =
      ap (fields_read 5) (text_line i l) ∙ Fields_back (lent_numbers a i) (numbers_small h a s.formed i l)

pub sheet_whole : SheetLength
unfolding sheet_length
sheet_whole h a buffer s room = (
  ap (λ (v : SheetReply). v.refusal) (sheet_reply_lem h a buffer s room),
  ap (λ (v : SheetReply). v.length) (sheet_reply_lem h a buffer s room),
  sheet_length_lem h a s.formed.blocks_below,
  λ i l. ap (λ ns. length (sheet_line ns)) (numbers_lent h a s.formed.blocks_below i l) ∙ line_length (lent_numbers a i) refl,
)

pub sheet_read_lem : SheetRead
sheet_read_lem h a buffer s room = (
  ap length (text_lines h a buffer s room) ∙ length_from (λ i. joined (map field (lent_numbers a i))) 0 h.interval_count,
  λ i l. (
    ap length (text_line h a buffer s room i l) ∙ mapped_length field 10 field_length (lent_numbers a i),
    text_read h a buffer s room i l,
  ),
)

-- what is read off it is so
pub sheet_places_lem : SheetPlaces
sheet_places_lem h a buffer s room i x l p q =
    let number : (m : ℕ) → number_read h a buffer i m ≡ get_or (lent_numbers a i) m 0 =
    λ m. ap (λ (ns : List ℕ). get_or ns m 0) (text_read h a buffer s room i l) in
    let formed = s.formed in
    let from : before a.ends i ≤ x = omega (arith, number 0) in
    let to : x < get_or a.ends i 0 = omega (arith, number 1, formed.ends_rise i l) in
    let placed = (lent_place h a formed i x l from to).0 in
    let rise = formed.tops_rise (get_or a.blocks i 0) (formed.blocks_below i l) in
    let bins = get_or a.tops (get_or a.blocks i 0) 0 - before a.tops (get_or a.blocks i 0) in
    let some : 1 ≤ bins = omega (arith, rise) in
    let within = mod-lt (x - get_or a.adjustments i 0) some in (
      block_at h a formed.ends_rise i x l from to ∙ sym (number 2),
      omega (arith, placed, number 3),
      omega (arith, placed, within, number 3, number 4),
    )
