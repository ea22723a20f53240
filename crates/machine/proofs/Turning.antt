-- The machine's turn: a page, the lines, the end of a block. Assumes nothing.
use Prim.Native.Nat.{ℕ, ◌+◌, ◌≤◌, ◌<◌}
use mathlib.Core.Path.{◌≡◌, refl, sym, ◌∙◌, ap}
use mathlib.Core.Bool.{true, false, true≢false, false≢true}
use mathlib.Core.List.{List}
use native.Mathlib.Omega.{arith}
use lib.ListN.{length, take, drop, length-append, length-take, length-drop}
use lib.Seq.{take_at, length-take-le}
use Rattle.model.specs.Table.{over}
use Rattle.lines.specs.Words.{up_to_feed}
use Rattle.lines.proofs.Cutting.{front_unfinished}
use Rattle.console.specs.Rack.{Rack}
use Rattle.standing.specs.Standing.{Idle}
use Rattle.standing.proofs.Going.{Goes_then, kept_Goes}
use Rattle.buffers.specs.Machine.{kept_bytes, stands, bytes_of, unfinished, keeping, Ready}
use Rattle.buffers.specs.declared.Machine.{Machine}
use Rattle.wheres.specs.Wheres.{Went}
use Rattle.wheres.proofs.Lines.{Went_then}
use Rattle.pages.specs.Pages.{Pages}
use Rattle.pages.specs.declared.After.{After}
use Rattle.answers.specs.Answers.{Answers}
use Rattle.machine.specs.Machine.{Turns}

module _
    {m m' : Machine} {k : Rack} {block bytes : List ℕ} (r : After) {k' : Rack} {out out' : List ℕ}
    (ready : Ready m k block) (b : bytes ≡ bytes_of m block) (w : Went m k bytes 0 out m' k' r.put out')
  where
    -- the bytes that are read are the same, and the places are within them
    same : bytes ≡ bytes_of m' block
    same = b ∙ ap (λ n. take n block) (sym w.size)

    places : (m'.from ≤ m'.size) × (m'.size ≤ length block) × (length bytes ≡ m.size)
    places =
        let size = ap length b ∙ length-take-le m.size block ready.size in
        (omega (arith, w.within, w.size, size), omega (arith, w.size, ready.size), size)

    -- there is more to do
    turns_more
        : r.more ≡ true → m.from < m'.from + r.put → Turns m k block m' k' r block out'
    unfolding stands
    turns_more more on =
        record {
          turned =
              record {
                goes = rw (← b, ← same) w.goes;
                done = λ e. absurd (true≢false (sym more ∙ e));
                onward = λ e.
                    rw (← b, ← same)
                    (omega (
                      arith,
                      length-drop m'.from bytes,
                      length-drop m.from bytes,
                      length-take-le r.put out' w.room,
                      ready.from,
                      w.within,
                      places.2,
                    ));
              };
          ready = record { sane = w.sane; from = places.0; size = places.1 };
          room = w.room;
          rests = λ e. absurd (true≢false (sym more ∙ e));
        }

    -- or none: the first bytes of an unfinished line are at the front
    module _
        (idle : Idle (stands m' k' bytes)) (block' : List ℕ) (moved : block' ≡ over (unfinished m' block) block)
      where
        abbrev new : List ℕ
        new = unfinished m' block

        front : take (length new) block' ≡ take kept_bytes (drop m'.from bytes)
        unfolding over
        front =
            ap (take (length new)) moved
            ∙ take_at new (drop (length new) block) (length new) refl
            ∙ ap (λ (l : List ℕ). take kept_bytes (drop m'.from l)) (sym same)

        no_feed : up_to_feed (take kept_bytes (drop m'.from bytes)) ≡ take kept_bytes (drop m'.from bytes)
        unfolding stands
        no_feed = front_unfinished kept_bytes (drop m'.from bytes) idle.rest

        turns_done
            : Turns m k block (keeping m' block) k' (record { put = r.put; more = false }) block' out'
        unfolding stands over
        turns_done =
            record {
              turned =
                  record {
                    goes = rw (← b, front) (Goes_then w.goes (kept_Goes kept_bytes (omega arith) idle.rest));
                    done = λ e. record { listing = idle.listing; rest = rw front no_feed };
                    onward = λ e. absurd (false≢true e);
                  };
              ready =
                  record {
                    sane = record { right = w.sane.right; row = w.sane.row };
                    from = omega arith;
                    size = omega (arith, ap length moved, length-append new (drop (length new) block));
                  };
              room = w.room;
              rests = λ e.
                  record {
                    listing = idle.listing;
                    rest = rw front no_feed;
                    few = omega (arith, length-take kept_bytes (drop m'.from (bytes_of m' block)));
                  };
            }

-- the page, if a list is in progress
module _
    {m m₁ : Machine} {k : Rack} {block : List ℕ} {p : After} {k₁ : Rack} {out out₁ : List ℕ}
    (ready : Ready m k block) (page : Pages m k out m₁ k₁ p out₁)
  where
    went_page : (n : ℕ) → n ≡ m.size → Went m k (take n block) 0 out m₁ k₁ p.put out₁
    went_page n e =
        page.went (take n block) (omega (arith, length-take-le n block (omega (arith, ready.size)), ready.from))

    size : m₁.size ≡ m.size
    size = (went_page m.size refl).size

    pub page_turns : p.more ≡ true → Turns m k block m₁ k₁ p block out₁
    page_turns more =
        let w = went_page m.size refl in turns_more p ready refl w more (omega (arith, w.onward, page.more more))

    -- and the lines
    module _
        {m₂ : Machine} {r : After} {k₂ : Rack} {out₂ : List ℕ}
        (lines : Answers m₁ k₁ (bytes_of m₁ block) p.put out₁ m₂ k₂ r out₂)
      where
        went_lines : Went m k (bytes_of m₁ block) 0 out m₂ k₂ r.put out₂
        went_lines = Went_then (went_page m₁.size size) lines.went

        bytes : bytes_of m₁ block ≡ bytes_of m block
        bytes = ap (λ n. take n block) size

        pub lines_turns : r.more ≡ true → Turns m k block m₂ k₂ r block out₂
        lines_turns more =
            turns_more r ready bytes went_lines more
            (omega (arith, (went_page m₁.size size).onward, lines.more more))

        pub kept_turns
            : r.more ≡ false → (block' : List ℕ) → block' ≡ over (unfinished m₂ block) block
            → Turns m k block (keeping m₂ block) k₂ (record { put = r.put; more = false }) block' out₂
        kept_turns none block' moved = turns_done r ready bytes went_lines (lines.done none) block' moved
