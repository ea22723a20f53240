-- Laws of the saved form: numbers as bytes and back, a loaded table is sound, and saving and loading undo each other.
-- Assumes nothing.
use Prim.Native.Nat.{ℕ, zero, suc, ◌+◌, ◌*◌, ◌/◌, ◌%◌, ◌≤◌, ◌<◌}
use mathlib.Core.Path.{◌≡◌, refl, sym, ◌∙◌, ap, ap₂, subst, subst₂}
use mathlib.Core.Bool.{false, false≢true}
use mathlib.Core.List.{List, [], ◌∷◌, ◌++◌, map}
use native.Mathlib.Nat.{add_assoc, mod-eq_of_lt, div-div-eq-div-mul, zero-add, not-suc-le-zero, le_refl, le_of_eq}
use native.Mathlib.Omega.{arith}
use lib.ListN.{length, get_or, take, length-append, get_or-append}
use lib.Seq.{length-take-le, take_all, get_or-take, get_or-append-add}
use borrow.Author.Tests.{le-ltb, eqb-true, eq-eqb, not-false}
use Rattle.model.specs.Basics.{from, joined, before}
use Rattle.model.specs.Table.{Arrays, table, written}
use Rattle.model.specs.Refusal.{
  first,
  arrays_short,
  tops_wrong,
  ends_wrong,
  blocks_wrong,
  holdings_wrong,
  adjustment_of,
  adjustments_wrong,
  capacity_wrong,
  room_short,
}
use Rattle.model.specs.Sound.{Formed, Sound}
use Rattle.model.specs.Saved.{
  bytes_of,
  saved_numbers,
  saved,
  saved_length,
  number,
  loaded_header,
  file_wrong,
  read_arrays,
  loaded_arrays,
}
use Rattle.model.specs.Calls.{table_tests, save_tests, save_refusal, save_reply, save_bytes, load_tests, load_refusal, load_reply, load_arrays}
use Rattle.model.specs.TableClaims.{LoadSound, LoadRead, Fits, SavedLength, saved_file, with_capacity, SavedLoaded, LoadedSaved}
use Rattle.model.specs.declared.table.Header.{Header}
use Rattle.model.specs.declared.reply.SaveReply.{SaveReply}
use Rattle.model.specs.declared.reply.LoadReply.{LoadReply}
use Rattle.model.proofs.Mapped.{mapped_length}
use Rattle.model.proofs.Intervals.{Rising, before_mono}
use Rattle.model.proofs.Refusals.{
  or_left,
  or_right,
  or_both,
  not_clear,
  first_clear,
  first_pass,
  first_none,
  first_after,
  accepted,
}
use Rattle.model.proofs.Tables.{
  length_from,
  get_d_from,
  from_ext,
  from_shift,
  from_append,
  from_get_d,
  map_from,
  take_over,
  lent_interval,
  header_table,
  table_again,
  Alike,
  adjustment_alike,
  table_alike,
}
use Rattle.model.proofs.Rules.{not_all}
use Rattle.model.proofs.Capacities.{formed_sound, sound_again, sound_capacity, capacity_small}
use Rattle.model.proofs.Soundness.{
  Passes,
  passes_formed,
  formed_passes,
  sound_iff_lem,
  table_numbered,
  formed_alike,
  formed_written,
  arrays_written,
}

-- NUMBERS AS BYTES

-- the bytes of a number below 2 ^ 32 make it up
pub bytes_make
    : (x : ℕ) → x < 4_294_967_296
    → x % 256 + 256 * (x / 256 % 256) + 65_536 * (x / 65_536 % 256) + 16_777_216 * (x / 16_777_216 % 256) ≡ x
bytes_make x l =
    let last : x / 16_777_216 < 256 = omega arith in
    omega (
      arith,
      mod-eq_of_lt last,
      div-div-eq-div-mul x 256 256,
      div-div-eq-div-mul x 65_536 256,
    )

-- and four bytes are those of the number that they make up
pub bytes_again
    : (a b c d : ℕ) → a < 256 → b < 256 → c < 256 → d < 256
    → bytes_of (a + 256 * b + 65_536 * c + 16_777_216 * d) ≡ a ∷ b ∷ c ∷ d ∷ []
unfolding bytes_of
bytes_again a b c d p q r s = λ i. first i ∷ second i ∷ third i ∷ fourth i ∷ []
  where
    first : (a + 256 * b + 65_536 * c + 16_777_216 * d) % 256 ≡ a
    first = omega arith

    second : (a + 256 * b + 65_536 * c + 16_777_216 * d) / 256 % 256 ≡ b
    second = omega arith

    third : (a + 256 * b + 65_536 * c + 16_777_216 * d) / 65_536 % 256 ≡ c
    third = omega arith

    fourth : (a + 256 * b + 65_536 * c + 16_777_216 * d) / 16_777_216 % 256 ≡ d
    fourth = omega arith

-- the next number of a file stands four bytes on
pub number_next : (a b c d : ℕ) (f : List ℕ) (i : ℕ) → number (a ∷ b ∷ c ∷ d ∷ f) (suc i) ≡ number f i
unfolding number
number_next a b c d f i =
    omega (
      arith,
      on (4 * suc i) (4 * i) (omega arith),
      on (4 * suc i + 1) (4 * i + 1) (omega arith),
      on (4 * suc i + 2) (4 * i + 2) (omega arith),
      on (4 * suc i + 3) (4 * i + 3) (omega arith),
    )
  where
    on : (m n : ℕ) → m ≡ suc (suc (suc (suc n))) → get_or (a ∷ b ∷ c ∷ d ∷ f) m 0 ≡ get_or f n 0
    on m n e = ap (λ m. get_or (a ∷ b ∷ c ∷ d ∷ f) m 0) e

-- every entry is below 2 ^ 32
abbrev pub Small : List ℕ → Type 0
Small xs = (i : ℕ) → get_or xs i 0 < 4_294_967_296

-- the numbers of a file are those that it was made of
pub number_joined
    : (xs : List ℕ) → Small xs → (i : ℕ) → i < length xs → number (joined (map bytes_of xs)) i ≡ get_or xs i 0
unfolding joined bytes_of number
number_joined [] s i l = absurd (not-suc-le-zero l)
number_joined (x ∷ xs) s zero l = bytes_make x (s 0)
number_joined (x ∷ xs) s (suc i) l =
    number_next (x % 256) (x / 256 % 256) (x / 65_536 % 256) (x / 16_777_216 % 256) (joined (map bytes_of xs)) i
    ∙ number_joined xs (λ i. s (suc i)) i (omega arith)

-- four bytes a number
pub length_joined : (xs : List ℕ) → length (joined (map bytes_of xs)) ≡ 4 * length xs
unfolding bytes_of
length_joined = mapped_length bytes_of 4 (λ x. refl)

-- a file is the bytes of its numbers
pub Joined_numbers
    : (m : ℕ) (f : List ℕ) → length f ≡ 4 * m → ((i : ℕ) → i < length f → get_or f i 0 < 256)
    → joined (map bytes_of (from (number f) 0 m)) ≡ f
unfolding from joined number
Joined_numbers zero [] l s = refl
Joined_numbers zero (a ∷ f) l s = absurd (omega arith)
Joined_numbers (suc m) [] l s = absurd (omega arith)
Joined_numbers (suc m) (a ∷ []) l s = absurd (omega arith)
Joined_numbers (suc m) (a ∷ b ∷ []) l s = absurd (omega arith)
Joined_numbers (suc m) (a ∷ b ∷ c ∷ []) l s = absurd (omega arith)
Joined_numbers (suc m) (a ∷ b ∷ c ∷ d ∷ f) l s =
    ap₂ (λ (x y : List ℕ). x ++ y)
    (bytes_again a b c d (s 0 (omega arith)) (s 1 (omega arith)) (s 2 (omega arith)) (s 3 (omega arith)))
    (ap (λ xs. joined (map bytes_of xs))
    (from_shift (number (a ∷ b ∷ c ∷ d ∷ f)) 0 m
    ∙ from_ext (λ i. number (a ∷ b ∷ c ∷ d ∷ f) (suc i)) (number f) 0 m (λ i x y. number_next a b c d f i))
    ∙ Joined_numbers m f (omega arith) (λ i k. s (suc (suc (suc (suc i)))) (omega arith)))

-- A LOADED TABLE

-- a list that is counted out is as long as its count
counted : (g : ℕ → ℕ) (i n : ℕ) → n ≤ length (from g i n)
counted g i n = le_of_eq (sym (length_from g i n))

-- the adjustments that loading works out are right
pub loaded_adjusted
    : (f : List ℕ) (p i : ℕ) → i < (loaded_header f p).interval_count
    → get_or (loaded_arrays f p).adjustments i 0 ≡ adjustment_of (loaded_header f p) (loaded_arrays f p) i
unfolding loaded_arrays
loaded_adjusted f p i l =
    get_d_from (adjustment_of (loaded_header f p) (read_arrays f p)) 0 (loaded_header f p).interval_count i 0 l
    ∙ ap (adjustment_of (loaded_header f p) (read_arrays f p)) (zero-add i)
    ∙ adjustment_alike (loaded_header f p) (read_arrays f p) (loaded_arrays f p)
    (record { tops = λ j k. refl; ends = λ j k. refl; blocks = λ j k. refl })
    i l

-- a file that passes 11 to 15 gives a table that passes 11 to 16
pub file_passes
    : (f : List ℕ) (p : ℕ) → file_wrong f p ≡ false
    → tops_wrong (loaded_header f p) (loaded_arrays f p).tops ≡ false
    → ends_wrong (loaded_header f p) (loaded_arrays f p).ends ≡ false
    → blocks_wrong (loaded_header f p) (loaded_arrays f p).blocks ≡ false
    → holdings_wrong (loaded_header f p) (loaded_arrays f p) ≡ false
    → Passes (loaded_header f p) (loaded_arrays f p)
unfolding file_wrong arrays_short adjustments_wrong loaded_arrays read_arrays
file_passes f p file tops ends blocks holdings =
    record {
      header = or_left _ _ file;
      arrays =
          or_both _ _
          (or_both _ _ (or_both _ _ (le-ltb _ _ (counted _ _ _)) (le-ltb _ _ (counted _ _ _))) (le-ltb _ _ (counted _ _ _)))
          (le-ltb _ _ (counted _ _ _));
      tops = tops;
      ends = ends;
      blocks = blocks;
      holdings = holdings;
      adjustments = not_all _ _ (λ i l. eq-eqb _ _ (loaded_adjusted f p i l));
    }

module _ (f : List ℕ) (p : ℕ) (out : Arrays) (e : load_refusal f p out ≡ 0) where
  -- the tests of the file, and the first of them
  load_tests_lem : first (load_tests f p) ≡ 0
  unfolding load_refusal
  load_tests_lem = (first_clear _ _ (λ z. omega arith) e).1

  load_file : file_wrong f p ≡ false
  unfolding load_tests
  load_file = (first_clear _ _ (λ z. omega arith) load_tests_lem).0

  -- an accepted file has the length of its counts
  pub load_length : length f ≡ saved_length (loaded_header f p).block_count (loaded_header f p).interval_count
  unfolding file_wrong
  load_length = eqb-true _ _ (not-false _ (or_right _ _ load_file))

  -- its table passes every test
  load_passes : Passes (loaded_header f p) (loaded_arrays f p) × (capacity_wrong (loaded_header f p) (loaded_arrays f p) ≡ false)
  unfolding load_tests
  load_passes =
      let (file, e₂) = first_clear _ _ (λ z. omega arith) load_tests_lem in
      let (tops, e₃) = first_clear _ _ (λ z. omega arith) e₂ in
      let (ends, e₄) = first_clear _ _ (λ z. omega arith) e₃ in
      let (blocks, e₅) = first_clear _ _ (λ z. omega arith) e₄ in
      let (holdings, e₆) = first_clear _ _ (λ z. omega arith) e₅ in
      let (capacity, e₇) = first_clear _ _ (λ z. omega arith) e₆ in
      (file_passes f p file tops ends blocks holdings, capacity)

  -- an accepted load replies with the file's header, and writes its table
  pub load_header : (load_reply f p out).header ≡ loaded_header f p
  unfolding load_reply
  load_header = ap (λ (v : LoadReply). v.header) (accepted (load_refusal f p out) _ _ e)

  pub load_arrays_lem : load_arrays f p out ≡ written (table (loaded_header f p) (loaded_arrays f p)) out
  unfolding load_arrays
  load_arrays_lem = arrays_written (load_refusal f p out) (table (loaded_header f p) (loaded_arrays f p)) out e

-- the table of an accepted `load` is sound
pub load_sound_lem : LoadSound
unfolding loaded_arrays read_arrays
load_sound_lem f p out e =
    let h = loaded_header f p in
    let a = loaded_arrays f p in
    let (passes, capacity) = load_passes f p out e in
    let formed = passes_formed h a passes in
    subst₂ Sound (sym (load_header f p out e)) (sym (load_arrays_lem f p out e))
    (sound_again h a (written (table h a) out) (formed_sound h a formed capacity) (formed_written h a out formed)
    (table_again h a out (counted _ _ _)))

-- and it is the table of the file
pub load_read : LoadRead
unfolding loaded_arrays read_arrays
load_read f p out e = (
  load_header f p out e ∙ sym (header_table (loaded_header f p) (loaded_arrays f p) (counted _ _ _)),
  ap₂ table (load_header f p out e) (load_arrays_lem f p out e)
      ∙ table_again (loaded_header f p) (loaded_arrays f p) out (counted _ _ _),
)

-- no capacity of 8 or less is accepted
pub load_small : (f : List ℕ) (p : ℕ) (out : Arrays) → p ≤ 8 → load_refusal f p out ≡ 0 → ⊥
unfolding loaded_header
load_small f p out small e =
    let (passes, capacity) = load_passes f p out e in
    let formed = passes_formed (loaded_header f p) (loaded_arrays f p) passes in
    false≢true (sym capacity ∙ capacity_small (loaded_header f p) (loaded_arrays f p) formed small)

-- THE NUMBERS OF A SAVED TABLE

-- the tops, ends and blocks are no shorter than their counts
pub record Long (h : Header) (a : Arrays) : Type 0 where
  pub tops : h.block_count ≤ length a.tops
  pub ends : h.interval_count ≤ length a.ends
  pub blocks : h.interval_count ≤ length a.blocks

-- the tops, the ends and the blocks that are part of the table
abbrev tops : Header → Arrays → List ℕ
tops h a = take h.block_count a.tops

abbrev ends : Header → Arrays → List ℕ
ends h a = take h.interval_count a.ends

abbrev blocks : Header → Arrays → List ℕ
blocks h a = take h.interval_count a.blocks

-- B, G and k, and those
abbrev pub numbers : Header → Arrays → List ℕ
numbers h a = h.buckets ∷ h.block_count ∷ h.interval_count ∷ tops h a ++ ends h a ++ blocks h a

module _ (h : Header) (a : Arrays) (l : Long h a) where
  -- they are the numbers of the saved table
  pub saved_numbers_lem : saved_numbers (table h a) ≡ numbers h a
  unfolding saved_numbers table
  saved_numbers_lem =
      λ i.
      h.buckets
      ∷ length-take-le h.block_count a.tops l.tops i
      ∷ length_from (lent_interval a) 0 h.interval_count i
      ∷ tops h a
      ++ (map_from (λ v. v.end) (lent_interval a) 0 h.interval_count
      ∙ from_get_d a.ends 0 h.interval_count l.ends) i
      ++ (map_from (λ v. v.block) (lent_interval a) 0 h.interval_count
      ∙ from_get_d a.blocks 0 h.interval_count l.blocks) i

  -- how many they are
  tops_length : length (tops h a) ≡ h.block_count
  tops_length = length-take-le h.block_count a.tops l.tops

  front_length : length (tops h a ++ ends h a) ≡ h.block_count + h.interval_count
  front_length =
      length-append (tops h a) (ends h a)
      ∙ ap₂ ◌+◌ tops_length (length-take-le h.interval_count a.ends l.ends)

  pub numbers_length : length (numbers h a) ≡ 3 + h.block_count + h.interval_count + h.interval_count
  numbers_length =
      omega (
        arith,
        front_length,
        length-take-le h.interval_count a.blocks l.blocks,
        length-append (tops h a ++ ends h a) (blocks h a),
      )

  -- entry m, which is entry i past B, G and k
  past : (m i : ℕ) → m ≡ suc (suc (suc i)) → get_or (numbers h a) m 0 ≡ get_or (tops h a ++ ends h a ++ blocks h a) i 0
  past m i e = ap (λ m. get_or (numbers h a) m 0) e

  -- where the tops, ends and blocks stand among them
  pub numbers_top : (j : ℕ) → j < h.block_count → get_or (numbers h a) (3 + j) 0 ≡ get_or a.tops j 0
  numbers_top j k =
      past (3 + j) j (omega arith)
      ∙ get_or-append (tops h a ++ ends h a) (blocks h a) 0 j (omega (arith, front_length))
      ∙ get_or-append (tops h a) (ends h a) 0 j (omega (arith, tops_length))
      ∙ get_or-take h.block_count a.tops j 0 k

  pub numbers_end
      : (i : ℕ) → i < h.interval_count → get_or (numbers h a) (3 + h.block_count + i) 0 ≡ get_or a.ends i 0
  numbers_end i k =
      let m = length (tops h a) + i in
      past (3 + h.block_count + i) m (omega (arith, tops_length))
      ∙ get_or-append (tops h a ++ ends h a) (blocks h a) 0 m (omega (arith, front_length, tops_length))
      ∙ get_or-append-add (tops h a) (ends h a) i 0
      ∙ get_or-take h.interval_count a.ends i 0 k

  pub numbers_block
      : (i : ℕ) → i < h.interval_count
      → get_or (numbers h a) (3 + h.block_count + h.interval_count + i) 0 ≡ get_or a.blocks i 0
  numbers_block i k =
      past (3 + h.block_count + h.interval_count + i) (length (tops h a ++ ends h a) + i) (omega (arith, front_length))
      ∙ get_or-append-add (tops h a ++ ends h a) (blocks h a) i 0
      ∙ get_or-take h.interval_count a.blocks i 0 k

-- lists of small entries
small_append : (xs ys : List ℕ) → Small xs → Small ys → Small (xs ++ ys)
small_append [] ys s t i = t i
small_append (x ∷ xs) ys s t zero = s 0
small_append (x ∷ xs) ys s t (suc i) = small_append xs ys (λ i. s (suc i)) t i

small_take : (xs : List ℕ) (n : ℕ) → ((i : ℕ) → i < n → get_or xs i 0 < 4_294_967_296) → Small (take n xs)
small_take xs zero s i = omega arith
small_take [] (suc n) s i = omega arith
small_take (x ∷ xs) (suc n) s zero = s 0 (omega arith)
small_take (x ∷ xs) (suc n) s (suc i) = small_take xs n (λ i l. s (suc i) (omega arith)) i

-- an entry of a rising list is at most its last
rising_below : (xs : List ℕ) (n : ℕ) → Rising xs n → (i : ℕ) → i < n → get_or xs i 0 ≤ before xs n
unfolding before
rising_below xs n r i l = before_mono xs n r n (suc i) l (le_refl n)

-- those of a formed table are small
pub numbers_small : (h : Header) (a : Arrays) → Formed h a → Small (numbers h a)
numbers_small h a s zero = omega arith
numbers_small h a s (suc zero) = omega arith
numbers_small h a s (suc (suc zero)) = omega arith
numbers_small h a s (suc (suc (suc i))) =
    small_append (tops h a ++ ends h a) (blocks h a)
    (small_append (tops h a) (ends h a)
    (small_take a.tops h.block_count
    (λ j l. omega (arith, rising_below a.tops h.block_count s.tops_rise j l)))
    (small_take a.ends h.interval_count
    (λ i l. omega (arith, rising_below a.ends h.interval_count s.ends_rise i l))))
    (small_take a.blocks h.interval_count (λ i l. omega (arith, s.blocks_below i l)))
    i

-- A SAVED TABLE

module _ (h : Header) (a : Arrays) (s : Formed h a) where
  -- its arrays are long enough
  long : Long h a
  long = record { tops = s.tops_long; ends = s.ends_long; blocks = s.blocks_long }

  -- its file: the bytes, their number, the numbers in it, and the header that it says
  saved_bytes : saved (table h a) ≡ joined (map bytes_of (numbers h a))
  unfolding saved
  saved_bytes = ap (λ xs. joined (map bytes_of xs)) (saved_numbers_lem h a long)

  pub saved_length_lem : length (saved (table h a)) ≡ saved_length h.block_count h.interval_count
  unfolding saved_length
  saved_length_lem = omega (arith, ap length saved_bytes, length_joined (numbers h a), numbers_length h a long)

  saved_number
      : (i : ℕ) → i < 3 + h.block_count + h.interval_count + h.interval_count
      → number (saved (table h a)) i ≡ get_or (numbers h a) i 0
  saved_number i l =
      ap (λ f. number f i) saved_bytes
      ∙ number_joined (numbers h a) (numbers_small h a s) i (omega (arith, numbers_length h a long))

  pub saved_header : loaded_header (saved (table h a)) h.capacity ≡ h
  unfolding loaded_header
  saved_header =
      λ i.
      record {
        buckets = saved_number 0 (omega arith) i;
        capacity = h.capacity;
        block_count = saved_number 1 (omega arith) i;
        interval_count = saved_number 2 (omega arith) i;
      }

-- saved into a buffer with room
module _ (h : Header) (a : Arrays) (buffer : List ℕ) (s : Sound h a) (room : Fits h buffer) where
  save_accepted : save_refusal h a buffer ≡ 0
  unfolding save_refusal save_tests saved_length
  save_accepted =
      first_after (table_tests h a) _ (table_numbered h a) ((sound_iff_lem h a).1 s) ∙ first_pass _ _ (le-ltb _ _ room) first_none

  -- an accepted `save` replies with the length
  save_reply_lem : save_reply h a buffer ≡ record { refusal = 0; length = saved_length h.block_count h.interval_count }
  unfolding save_reply
  save_reply_lem = accepted (save_refusal h a buffer) _ _ save_accepted

  -- and its file is the saved table
  save_file : saved_file h a buffer ≡ saved (table h a)
  unfolding save_bytes
  save_file =
      ap₂ take
      (ap (λ (v : SaveReply). v.length) save_reply_lem ∙ sym (saved_length_lem h a s.formed))
      (accepted (save_refusal h a buffer) _ _ save_accepted)
      ∙ take_over (saved (table h a)) buffer

pub save_length : SavedLength
unfolding saved_length
save_length h a buffer s room = (
  ap (λ (v : SaveReply). v.refusal) (save_reply_lem h a buffer s room),
  ap (λ (v : SaveReply). v.length) (save_reply_lem h a buffer s room),
  saved_length_lem h a s.formed,
)

-- SAVED, THEN LOADED

-- a file keeps the tops, ends and blocks of a lent table
pub record Keeps (f : List ℕ) (a : Arrays) (h : Header) : Type 0 where
  pub sound : Sound h a
  pub fits : length f ≡ saved_length h.block_count h.interval_count
  pub tops : (j : ℕ) → j < h.block_count → get_or a.tops j 0 ≡ number f (3 + j)
  pub ends : (i : ℕ) → i < h.interval_count → get_or a.ends i 0 ≡ number f (3 + h.block_count + i)
  pub blocks
      : (i : ℕ) → i < h.interval_count
      → get_or a.blocks i 0 ≡ number f (3 + h.block_count + h.interval_count + i)

-- a saved table does
pub saved_keeps : (h : Header) (a : Arrays) → Sound h a → Keeps (saved (table h a)) a h
saved_keeps h a sound =
    let s = sound.formed in
    record {
      sound = sound;
      fits = saved_length_lem h a s;
      tops = λ j l. sym (saved_number h a s (3 + j) (omega arith) ∙ numbers_top h a (long h a s) j l);
      ends =
          λ i l. sym (saved_number h a s (3 + h.block_count + i) (omega arith) ∙ numbers_end h a (long h a s) i l);
      blocks =
          λ i l.
          sym
          (saved_number h a s (3 + h.block_count + h.interval_count + i) (omega arith)
          ∙ numbers_block h a (long h a s) i l);
    }

-- such a file, with the header that it says
module _ (f : List ℕ) (p : ℕ) (a : Arrays) (k : Keeps f a (loaded_header f p)) where
  -- what is loaded is alike, with the same adjustments, so it passes, is accepted, and gives the same table
  loaded_alike : Alike (loaded_header f p) a (loaded_arrays f p)
  unfolding loaded_arrays read_arrays
  loaded_alike =
      record {
        tops = λ j l. k.tops j l ∙ sym (get_d_from (number f) _ _ j 0 l);
        ends = λ i l. k.ends i l ∙ sym (get_d_from (number f) _ _ i 0 l);
        blocks = λ i l. k.blocks i l ∙ sym (get_d_from (number f) _ _ i 0 l);
      }

  loaded_adjustments
      : (i : ℕ) → i < (loaded_header f p).interval_count → get_or a.adjustments i 0 ≡ get_or (loaded_arrays f p).adjustments i 0
  loaded_adjustments i l =
      k.sound.formed.adjusted i l
      ∙ adjustment_alike (loaded_header f p) a (loaded_arrays f p) loaded_alike i l
      ∙ sym (loaded_adjusted f p i l)

  loaded_formed : Formed (loaded_header f p) (loaded_arrays f p)
  unfolding loaded_arrays read_arrays
  loaded_formed =
      formed_alike (loaded_header f p) a (loaded_arrays f p) k.sound.formed loaded_alike
      (counted _ _ _) (counted _ _ _) (counted _ _ _) (counted _ _ _) loaded_adjustments

  loaded_same : table (loaded_header f p) (loaded_arrays f p) ≡ table (loaded_header f p) a
  unfolding loaded_arrays read_arrays
  loaded_same =
      sym
      (table_alike (loaded_header f p) a (loaded_arrays f p) loaded_alike k.sound.formed.tops_long (counted _ _ _) loaded_adjustments)

  loaded_capacity : capacity_wrong (loaded_header f p) (loaded_arrays f p) ≡ false
  loaded_capacity =
      sound_capacity (loaded_header f p) (loaded_arrays f p)
      (sound_again (loaded_header f p) a (loaded_arrays f p) k.sound loaded_formed loaded_same)

  loaded_accepted : (out : Arrays) → room_short out ≡ false → load_refusal f p out ≡ 0
  unfolding load_refusal load_tests file_wrong
  loaded_accepted out r =
      let q = formed_passes (loaded_header f p) (loaded_arrays f p) loaded_formed in
      first_pass _ _ r
      (first_pass _ _ (or_both _ _ q.header (not_clear _ (eq-eqb _ _ k.fits)))
      (first_pass _ _ q.tops
      (first_pass _ _ q.ends (first_pass _ _ q.blocks (first_pass _ _ q.holdings (first_pass _ _ loaded_capacity first_none))))))

  loaded_table : (out : Arrays) → room_short out ≡ false → table (loaded_header f p) (load_arrays f p out) ≡ table (loaded_header f p) a
  unfolding loaded_arrays read_arrays
  loaded_table out r =
      ap (table (loaded_header f p)) (load_arrays_lem f p out (loaded_accepted out r))
      ∙ table_again (loaded_header f p) (loaded_arrays f p) out (counted _ _ _)
      ∙ loaded_same

-- a sound table, saved and loaded with its capacity, is the same table
saved_again
    : (h : Header) (a out : Arrays) → Sound h a → room_short out ≡ false
    → (load_refusal (saved (table h a)) h.capacity out ≡ 0)
    × ((load_reply (saved (table h a)) h.capacity out).header ≡ h)
    × (table h (load_arrays (saved (table h a)) h.capacity out) ≡ table h a)
saved_again h a out s r =
    let f = saved (table h a) in
    let p = h.capacity in
    let e = saved_header h a s.formed in
    let k : Keeps f a (loaded_header f p) = subst (Keeps f a) (sym e) (saved_keeps h a s) in
    let z = loaded_accepted f p a k out r in (
      z,
      load_header f p out z ∙ e,
      subst (λ g. table g (load_arrays f p out) ≡ table g a) e (loaded_table f p a k out r),
    )

-- its bytes do not depend on the capacity
saved_whatever : (h : Header) (a : Arrays) (p : ℕ) → saved (table h a) ≡ saved (table (with_capacity p h) a)
unfolding saved saved_numbers table
saved_whatever h a p = refl

pub saved_loaded_lem : SavedLoaded
saved_loaded_lem h a buffer p out s t room r =
    rw (save_file h a buffer s room ∙ saved_whatever h a p) (saved_again (with_capacity p h) a out t r)

-- LOADED, THEN SAVED

-- the arrays of a file are long enough
loaded_long : (f : List ℕ) (p : ℕ) → Long (loaded_header f p) (loaded_arrays f p)
unfolding loaded_arrays read_arrays
loaded_long f p = record { tops = counted _ _ _; ends = counted _ _ _; blocks = counted _ _ _ }

-- all of a list that is counted out
take_from : (g : ℕ → ℕ) (i n : ℕ) → take n (from g i n) ≡ from g i n
take_from g i n = take_all n (from g i n) (le_of_eq (length_from g i n))

-- three parts counted out one after the other
three_parts
    : (g : ℕ → ℕ) (i m n o : ℕ)
    → take m (from g i m) ++ take n (from g (i + m) n) ++ take o (from g (i + m + n) o) ≡ from g i (m + n + o)
three_parts g i m n o =
    rw (take_from g i m, take_from g (i + m) n, take_from g (i + m + n) o, from_append g i m n, add_assoc i m n)
    (from_append g i (m + n) o)

-- the numbers of a loaded table are those of the file
loaded_numbers
    : (f : List ℕ) (p : ℕ)
    → numbers (loaded_header f p) (loaded_arrays f p)
    ≡ from (number f) 0
    (suc (suc (suc ((loaded_header f p).block_count + (loaded_header f p).interval_count + (loaded_header f p).interval_count))))
unfolding loaded_arrays read_arrays from loaded_header
loaded_numbers f p =
    ap (λ (xs : List ℕ). number f 0 ∷ number f 1 ∷ number f 2 ∷ xs)
    (three_parts (number f) 3 (number f 1) (number f 2) (number f 2))

-- an accepted file, loaded and saved, is the same bytes
loaded_again
    : (f : List ℕ) (p : ℕ) (out : Arrays) → ((i : ℕ) → i < length f → get_or f i 0 < 256) → load_refusal f p out ≡ 0
    → saved (table (load_reply f p out).header (load_arrays f p out)) ≡ f
unfolding saved saved_length
loaded_again f p out s e =
    ap saved (load_read f p out e).1
    ∙ ap (λ xs. joined (map bytes_of xs))
    (saved_numbers_lem (loaded_header f p) (loaded_arrays f p) (loaded_long f p) ∙ loaded_numbers f p)
    ∙ Joined_numbers _ f (omega (arith, load_length f p out e)) s

pub loaded_saved_lem : LoadedSaved
loaded_saved_lem f p out buffer s e room = (
  (save_length _ _ buffer (load_sound_lem f p out e) room).0,
  save_file _ _ buffer (load_sound_lem f p out e) room ∙ loaded_again f p out s e,
)
