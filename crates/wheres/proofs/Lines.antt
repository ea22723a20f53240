-- A machine goes on: not at all, twice, and by a line. Assumes nothing.
use Prim.Native.Nat.{ℕ, suc, ◌+◌, ◌-◌, ◌≤◌}
use mathlib.Core.Path.{◌≡◌, refl, sym, ◌∙◌, ap, subst}
use mathlib.Core.Bool.{false}
use mathlib.Core.List.{List, ◌++◌, append_assoc}
use native.Mathlib.Omega.{arith}
use lib.ListN.{length, take, drop, length-append, length-drop}
use lib.Seq.{sets, sets-eq, length-sets, take_all, take_at, length-take-le, drop-drop}
use Rattle.model.specs.Console.{read, after, printed}
use Rattle.lines.specs.Words.{up_to_feed}
use Rattle.lines.proofs.Spans.{span_first, span_within}
use Rattle.session.specs.Maps.{session, shown, is_list, listed, Right}
use Rattle.session.proofs.Spoken.{session_kept, session_spoken}
use Rattle.session.proofs.Rights.{right_next}
use Rattle.print.specs.Numbers.{line_room}
use Rattle.console.specs.Rack.{Rack, held, answer_to, Served}
use Rattle.console.specs.declared.Reply.{Reply}
use Rattle.console.proofs.Serving.{shown_short}
use Rattle.standing.specs.Standing.{Idle}
use Rattle.standing.proofs.Going.{goes_none, Goes_then, line_goes}
use Rattle.buffers.specs.Machine.{lists, row_of, stands, Sane}
use Rattle.buffers.specs.declared.Machine.{Machine}
use Rattle.wheres.specs.Wheres.{Went}

-- text stored in the buffer behind the first x bytes
pub stored
    : (out vs : List ℕ) (x y : ℕ) → y ≡ x + length vs → y ≤ length out → take y (sets out x vs) ≡ take x out ++ vs
stored out vs x y e h =
    ap (take y) (sets-eq vs out x (omega arith))
    ∙ take_at (take x out ++ vs) (drop (x + length vs) out) y
    (omega (arith, length-append (take x out) vs, length-take-le x out (omega arith)))

pub went_none
    : (m : Machine) (k : Rack) (bytes : List ℕ) (put : ℕ) (out : List ℕ) → Sane m k → put ≤ length out → m.from ≤ length bytes
    → Went m k bytes put out m k put out
went_none m k bytes put out sane room within =
    record { goes = goes_none; sane = sane; room = room; size = refl; onward = omega arith; within = within }

pub Went_then
    : {m m' m'' : Machine} {k k' k'' : Rack} {bytes : List ℕ} {put put' put'' : ℕ} {out out' out'' : List ℕ}
    → Went m k bytes put out m' k' put' out' → Went m' k' bytes put' out' m'' k'' put'' out''
    → Went m k bytes put out m'' k'' put'' out''
Went_then v w =
    record {
      goes = Goes_then v.goes w.goes;
      sane = w.sane;
      room = w.room;
      size = w.size ∙ v.size;
      onward = omega (arith, v.onward, w.onward);
      within = w.within;
    }

-- A LINE

-- a line feed stands in the bytes, or their end
pub end_within
    : (from end : ℕ) (bytes : List ℕ) → from ≤ length bytes → end ≡ from + length (up_to_feed (drop from bytes)) → end ≤ length bytes
end_within from end bytes within at = omega (arith, span_within 10 (drop from bytes), length-drop from bytes)

module _
    (m : Machine) (k : Rack) (bytes : List ℕ) (end : ℕ) (none : lists m ≡ false) (within : m.from ≤ length bytes)
    (at : end ≡ m.from + length (up_to_feed (drop m.from bytes)))
  where
    -- no line is whole
    pub line_none : end ≡ length bytes → Idle (stands m k bytes)
    unfolding stands
    line_none e =
        record {
          listing = none;
          rest =
              sym (span_first 10 (drop m.from bytes))
              ∙ take_all (length (up_to_feed (drop m.from bytes))) (drop m.from bytes) (omega (arith, length-drop m.from bytes));
        }

    -- the line up to the next line feed
    module _
        (put x : ℕ) (out l : List ℕ) (r : Reply) (k' : Rack) (out' : List ℕ) (some : end ≡ length bytes → ⊥)
        (line : l ≡ take (end - m.from) (drop m.from bytes)) (sane : Sane m k)
        (room : put + line_room ≤ length out) (s : Served k l x out r k' out')
        (next : Machine) (behind : x ≡ put) (follows : lists next ≡ r.list) (first : row_of next ≡ 0) (past : next.from ≡ end + 1)
        (kept : next.size ≡ m.size)
      where
        line_same : l ≡ up_to_feed (drop m.from bytes)
        line_same =
            let n : end - m.from ≡ length (up_to_feed (drop m.from bytes)) = omega arith in
            line ∙ ap (λ n. take n (drop m.from bytes)) n ∙ span_first 10 (drop m.from bytes)

        next_line : drop next.from bytes ≡ drop (suc (length l)) (drop m.from bytes)
        next_line =
            let n : m.from + suc (length l) ≡ next.from = omega (arith, ap length line_same) in
            sym (drop-drop (suc (length l)) m.from bytes ∙ ap (λ n. drop n bytes) n)

        obeyed : session (held k') ≡ after (session (held k)) l
        obeyed = ap session s.maps ∙ session_kept (held k) l

        said_line
            : take r.at out' ++ listed (lists next) (row_of next) (session (held k'))
            ≡ take put out ++ printed (session (held k)) l
        unfolding answer_to
        said_line =
            rw (follows, first, obeyed, s.bytes, s.list, ← behind)
            (ap (λ (t : List ℕ). t ++ listed (is_list (answer_to k l)) 0 (after (session (held k)) l))
            (stored out (shown (answer_to k l)) x r.at s.place (omega (arith, s.place, shown_short (answer_to k l))))
            ∙ append_assoc (take x out) (shown (answer_to k l)) (listed (is_list (answer_to k l)) 0 (after (session (held k)) l))
            ∙ ap (λ (t : List ℕ). take x out ++ t) (session_spoken (session (held k)) l))

        pub line_went : Went m k bytes put out next k' r.at out'
        unfolding stands
        line_went =
            record {
              goes =
                  line_goes {s = stands m k bytes} {s' = stands next k' bytes} l line_same none
                  (omega (arith, end_within m.from end bytes within at, length-drop m.from bytes)) obeyed next_line said_line;
              sane = record { right = subst Right (sym s.maps) (right_next (held k) sane.right (read l)); row = λ e. omega (arith, first) };
              room = omega (arith, s.place, shown_short (answer_to k l), ap length s.bytes, length-sets out x (shown (answer_to k l)));
              size = kept;
              onward = omega arith;
              within = omega (arith, end_within m.from end bytes within at);
            }
