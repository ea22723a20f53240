-- Laws of the calls' replies: what a refusal by the table's tests, or by the tests after them, makes of each. Assumes nothing.
use Prim.Native.Nat.{ℕ}
use mathlib.Core.Path.{◌≡◌, refl, sym, ◌∙◌, ap}
use mathlib.Core.Bool.{true, false}
use mathlib.Core.List.{List, [], ◌++◌}
use Rattle.model.specs.Basics.{if◌then◌otherwise◌}
use Rattle.model.specs.Table.{Shape, Table, Arrays, arrays, table}
use Rattle.model.specs.Refusal.{first, room_short}
use Rattle.model.specs.Search.{place_at}
use Rattle.model.specs.Initial.{initial}
use Rattle.model.specs.Calls.{answer, no_header, table_tests, table_reply, arrays_after, initial_refusal, initial_reply}
use Rattle.model.specs.Calls.{initial_arrays}
use Rattle.model.specs.Calls.{place_answer, place_tests, place_reply, find_answer, find_tests, find_reply}
use Rattle.model.specs.Calls.{bin_size_answer, bin_size_tests, bin_size_reply}
use Rattle.model.specs.declared.table.Header.{Header}
use Rattle.model.proofs.Refusals.{first_here, first_skip, refused}
use Rattle.model.specs.Saved.{loaded_header, loaded_arrays}
use Rattle.model.specs.Calls.{load_tests, load_refusal, load_answer, load_reply, load_arrays}
use Rattle.file_judged.specs.Loading.{loaded_over}
use Rattle.model.specs.Refusal.{result_short}
use Rattle.model.specs.Table.{over}
use Rattle.model.specs.Place.{places}
use Rattle.model.specs.Calls.{places_tests, places_refusal, places_reply, places_after}
use borrow.Author.Tests.{lt-ltb, le-ltb}
use Prim.Native.Nat.{◌*◌, ◌≤◌, ◌<◌}
use lib.ListN.{length}
use Rattle.std.specs.Prelude.{Ok, Err, ⊤}
use Rattle.std.specs.declared.result.Result.{Result}
use Rattle.model.specs.Results.{refusal_of, places_told}
use Rattle.model.specs.declared.refusal.Refusal.{Refusal}
use Rattle.model.specs.Calls.{save_tests, save_refusal, save_reply, save_bytes}
use Rattle.model.specs.declared.reply.SaveReply.{SaveReply}
use Rattle.file_save.specs.Saving.{save_answer, save_after}
use Rattle.model.proofs.Bytes.{saved_same}
use Rattle.model.proofs.Checked.{checked}
use Rattle.model.specs.Calls.{sheet_tests, sheet_refusal, sheet_answer, sheet_after, sheet_reply, sheet_bytes}
use Rattle.model.specs.Sheet.{sheet}
use Rattle.model.specs.declared.reply.SheetReply.{SheetReply}
use Rattle.model.proofs.Sheets.{sheet_same}
use Rattle.table.specs.Formed.{table_of}
use Rattle.table.specs.declared.formed.FormedTable.{FormedTable}
use Rattle.soundness.specs.Passed.{TableOf}
use Rattle.fresh.specs.Fresh.{fresh_refusal}
use Rattle.model.proofs.Checked.{stands, passed}
use Rattle.model.proofs.Searches.{place_answered}

-- the table that the check hands on is that of the lists that it was lent
pub same_table
    : {h : Header} {tops ends blocks adjustments : List ℕ} {t : FormedTable}
    → TableOf h tops ends blocks adjustments t → table_of t ≡ table h (arrays tops ends blocks adjustments)
same_table s = rw (s.same_header, s.same_tops, s.same_ends, s.same_blocks, s.same_adjustments)

module _ (h : Header) (a : Arrays) (r : ℕ) (e : r ≡ first (table_tests h a)) where
  pub place_refused_lem : (x : ℕ) → (r ≡ 0 → ⊥) → record { refusal = r; bin = 0; position = 0 } ≡ place_reply h a x
  unfolding place_reply place_answer
  place_refused_lem x n = rw (← stands h a r e (place_tests (table h a) x) n) (sym (refused r _ _ n))

  pub place_accepted : (x : ℕ) → r ≡ 0 → place_at (table h a) x ≡ place_reply h a x
  unfolding place_reply
  place_accepted x z =
      sym (place_answered (table h a) x) ∙ ap (λ q. place_answer q (table h a) x) (passed h a r e (place_tests (table h a) x) z)

  pub find_refused_lem : (y p : ℕ) → (r ≡ 0 → ⊥) → record { refusal = r; bucket = 0 } ≡ find_reply h a y p
  unfolding find_reply find_answer
  find_refused_lem y p n = rw (← stands h a r e (find_tests (table h a) y p) n) (sym (refused r _ _ n))

  pub find_accepted
      : (y p : ℕ) → r ≡ 0 → find_answer (first (find_tests (table h a) y p)) (table h a) y p ≡ find_reply h a y p
  unfolding find_reply
  find_accepted y p z = ap (λ q. find_answer q (table h a) y p) (passed h a r e (find_tests (table h a) y p) z)

  pub size_refused : (y : ℕ) → (r ≡ 0 → ⊥) → record { refusal = r; buckets = 0 } ≡ bin_size_reply h a y
  unfolding bin_size_reply bin_size_answer
  size_refused y n = rw (← stands h a r e (bin_size_tests (table h a) y) n) (sym (refused r _ _ n))

  pub size_accepted : (y : ℕ) → r ≡ 0 → bin_size_answer (first (bin_size_tests (table h a) y)) (table h a) y ≡ bin_size_reply h a y
  unfolding bin_size_reply
  size_accepted y z = ap (λ q. bin_size_answer q (table h a) y) (passed h a r e (bin_size_tests (table h a) y) z)

-- A CALL THAT WRITES A TABLE

module _ (s : Shape) (p : ℕ) (out : Arrays) where
  -- an initial call is refused by the room lent
  pub initial_short
      : room_short out ≡ true
      → (record { refusal = 21; moved = 0; header = no_header } ≡ initial_reply s p out) × (out ≡ initial_arrays s p out)
  unfolding initial_reply initial_arrays initial_refusal table_reply arrays_after answer if◌then◌otherwise◌ first
  initial_short w = (rw w, rw w)

  -- with room, the tests after that answer
  pub initial_later
      : room_short out ≡ false
      → (table_reply (fresh_refusal s p) 0 (initial s p) ≡ initial_reply s p out)
      × (arrays_after (fresh_refusal s p) (initial s p) out ≡ initial_arrays s p out)
  unfolding initial_reply initial_arrays initial_refusal
  initial_later w =
      let same : fresh_refusal s p ≡ initial_refusal s p out = sym (first_skip (21, room_short out) _ w) in
      (ap (λ r. table_reply r 0 (initial s p)) same, ap (λ r. arrays_after r (initial s p) out) same)

-- LOADING

module _ (f : List ℕ) (p : ℕ) (out : Arrays) where
  pub load_short : room_short out ≡ true → 21 ≡ load_refusal f p out
  unfolding load_refusal
  load_short w = sym (first_here (21, room_short out) (load_tests f p) w)

  pub load_tests_lem : (r : ℕ) → room_short out ≡ false → r ≡ first (load_tests f p) → r ≡ load_refusal f p out
  unfolding load_refusal
  load_tests_lem r w e = e ∙ sym (first_skip (21, room_short out) (load_tests f p) w)

  pub load_refused
      : (r : ℕ) → r ≡ load_refusal f p out → (r ≡ 0 → ⊥)
      → (record { refusal = r; header = no_header } ≡ load_reply f p out) × (out ≡ load_arrays f p out)
  unfolding load_reply load_arrays arrays_after
  load_refused r e n = (rw (← e) (sym (refused r _ _ n)), rw (← e) (sym (refused r _ _ n)))

  -- with room, the file's tests answer
  pub load_later
      : room_short out ≡ false
      → (load_answer (first (load_tests f p)) (loaded_header f p) ≡ load_reply f p out) × (loaded_over f p out ≡ load_arrays f p out)
  unfolding load_reply load_arrays loaded_over
  load_later w =
      let same : first (load_tests f p) ≡ load_refusal f p out = load_tests_lem (first (load_tests f p)) w refl in
      (ap (λ r. load_answer r (loaded_header f p)) same, ap (λ r. arrays_after r (table (loaded_header f p) (loaded_arrays f p)) out) same)

-- PLACING A LIST OF BUCKETS

module _ (h : Header) (a : Arrays) (xs out : List ℕ) where
  -- refused by the result's length
  pub places_short : length out < 2 * length xs → 33 ≡ places_refusal h a xs out
  unfolding places_refusal result_short
  places_short l = sym (first_here (33, result_short xs out) _ (lt-ltb (length out) (2 * length xs) l))

  -- otherwise the tests after that answer
  pub places_later
      : (r : ℕ) → 2 * length xs ≤ length out → r ≡ first (table_tests h a ++ places_tests (table h a) xs) → r ≡ places_refusal h a xs out
  unfolding places_refusal result_short
  places_later r l e = e ∙ sym (first_skip (33, result_short xs out) _ (le-ltb (length out) (2 * length xs) l))

  -- the reply and the result, from the refusal
  pub places_answers
      : {left : List ℕ} (r : ℕ) → r ≡ places_refusal h a xs out → left ≡ answer r (over (places (table h a) xs) out) out
      → (record { refusal = r } ≡ places_reply h a xs out) × (left ≡ places_after h a xs out)
  unfolding places_reply places_after
  places_answers r e w =
      (ap (λ q. record { refusal = q }) e, w ∙ ap (λ q. answer q (over (places (table h a) xs) out) out) e)

-- a result of nothing but a refusal replies its number
pub places_number : (r : Result ⊤ Refusal) → places_told r ≡ record { refusal = refusal_of r }
places_number (Ok u) = refl
places_number (Err e) = refl

-- what the list of buckets answers in the table, behind its check
pub places_listed
    : (h : Header) (a : Arrays) (xs out : List ℕ) (t : Table) → t ≡ table h a → 0 ≡ first (table_tests h a) → 2 * length xs ≤ length out
    → (r : Result ⊤ Refusal) → refusal_of r ≡ first (places_tests t xs) → {left : List ℕ}
    → left ≡ answer (refusal_of r) (over (places t xs) out) out → (places_told r ≡ places_reply h a xs out) × (left ≡ places_after h a xs out)
places_listed h a xs out t s e l r f w =
    let told =
    places_answers h a xs out (refusal_of r)
    (places_later h a xs out (refusal_of r) l (f ∙ ap (λ u. first (places_tests u xs)) s ∙ passed h a 0 e (places_tests (table h a) xs) refl))
    (w ∙ ap (λ u. answer (refusal_of r) (over (places u xs) out) out) s) in
    (places_number r ∙ told.0, told.1)

-- SAVING

module _ (h : Header) (a : Arrays) (r : ℕ) (e : r ≡ first (table_tests h a)) (buffer : List ℕ) where
  -- refused by the table's tests
  pub save_refused
      : (r ≡ 0 → ⊥) → (record { refusal = r; length = 0 } ≡ save_reply h a buffer) × (buffer ≡ save_bytes h a buffer)
  unfolding save_reply save_bytes save_refusal
  save_refused n =
      (rw (← stands h a r e _ n) (sym (refused r _ _ n)), rw (← stands h a r e _ n) (sym (refused r _ _ n)))

-- no adjustment is in it
pub save_saved
    : (h : Header) (t e b c : List ℕ) (r : ℕ) → r ≡ first (table_tests h (arrays t e b c)) → r ≡ 0
    → (buffer out : List ℕ) (v : SaveReply) → v ≡ save_answer (first (save_tests h buffer)) h
    → out ≡ save_after (first (save_tests h buffer)) (table h (arrays t e b [])) buffer
    → (v ≡ save_reply h (arrays t e b c) buffer) × (out ≡ save_bytes h (arrays t e b c) buffer)
unfolding save_reply save_bytes save_refusal
save_saved h t e b c r f z buffer out v p q =
    let tests = passed h (arrays t e b c) r f (save_tests h buffer) z in
    let s = checked h (arrays t e b c) r f z in
    let same = saved_same h t e b [] c (record { tops = s.tops_long; ends = s.ends_long; blocks = s.blocks_long }) in (
      p ∙ ap (λ n. save_answer n h) tests,
      q
          ∙ ap (λ (l : List ℕ). answer (first (save_tests h buffer)) (over l buffer) buffer) same
          ∙ ap (λ n. save_after n (table h (arrays t e b c)) buffer) tests,
    )

-- THE RACK SHEET

module _ (h : Header) (a : Arrays) (r : ℕ) (e : r ≡ first (table_tests h a)) (buffer : List ℕ) where
  pub sheet_refused
      : (r ≡ 0 → ⊥) → (record { refusal = r; length = 0 } ≡ sheet_reply h a buffer) × (buffer ≡ sheet_bytes h a buffer)
  unfolding sheet_reply sheet_answer sheet_bytes sheet_after sheet_refusal
  sheet_refused n =
      (rw (← stands h a r e _ n) (sym (refused r _ _ n)), rw (← stands h a r e _ n) (sym (refused r _ _ n)))

-- no adjustment is on it
pub sheet_printed
    : (h : Header) (t e b c : List ℕ) (r : ℕ) → r ≡ first (table_tests h (arrays t e b c)) → r ≡ 0
    → (buffer out : List ℕ) (v : SheetReply) → v ≡ sheet_answer (first (sheet_tests h buffer)) h
    → out ≡ sheet_after (first (sheet_tests h buffer)) (table h (arrays t e b [])) buffer
    → (v ≡ sheet_reply h (arrays t e b c) buffer) × (out ≡ sheet_bytes h (arrays t e b c) buffer)
unfolding sheet_reply sheet_bytes sheet_after sheet_refusal
sheet_printed h t e b c r f z buffer out v p q =
    let tests = passed h (arrays t e b c) r f (sheet_tests h buffer) z in
    let same = sheet_same h t e b c [] (checked h (arrays t e b c) r f z) in (
      p ∙ ap (λ n. sheet_answer n h) tests,
      q
          ∙ after_same (first (sheet_tests h buffer)) (table h (arrays t e b [])) (table h (arrays t e b c)) (sym same)
          ∙ ap (λ n. sheet_after n (table h (arrays t e b c)) buffer) tests,
    )
  where
    after_same : (n : ℕ) (u w : Table) → sheet u ≡ sheet w → sheet_after n u buffer ≡ sheet_after n w buffer
    after_same n u w e = ap (λ (l : List ℕ). answer n (over l buffer) buffer) e
