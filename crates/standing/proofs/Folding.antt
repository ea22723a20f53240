-- A run puts what document 01 prints. Assumes nothing.
use Prim.Native.Nat.{ℕ, ◌<◌}
use mathlib.Core.Path.{◌≡◌, refl, sym, ◌∙◌, ap}
use mathlib.Core.Bool.{true, false}
use mathlib.Core.List.{List, [], ◌∷◌, ◌++◌, append-nil, append_assoc}
use native.Mathlib.Omega.{arith}
use lib.ListN.{length, length-append}
use Rattle.model.specs.Basics.{if◌then◌otherwise◌, joined}
use Rattle.model.specs.Console.{Session, text, lines_of, words_of, same, command, read as says, line, command_refusal}
use Rattle.model.specs.Console.{command_answer, answer_text, after, printed, printed_all, output}
use Rattle.model.specs.declared.command.Command.TheVariants.{Unreadable}
use Rattle.model.proofs.Refusals.{refused}
use Rattle.lines.specs.Words.{up_to_feed}
use Rattle.lines.proofs.Cutting.{lines_on, lines_last}
use Rattle.session.specs.Maps.{listed}
use Rattle.session.proofs.Spoken.{unreadable_refused}
use Rattle.standing.specs.Standing.{Standing, beginning, due, Goes, Idle, heard, received}
use Rattle.standing.specs.Claims.{Pieces, turn, read, close, stop, OutputWhole}

-- THE END OF THE INPUT

-- a line of no bytes prints something
printed_none : (s : Session) → 0 < length (printed s [])
unfolding says words_of same command printed command_answer answer_text line text if◌then◌otherwise◌
printed_none s =
    let e : printed s [] ≡ line "refused" (command_refusal s Unreadable ∷ []) = ap (answer_text s) (refused _ _ _ (unreadable_refused s)) in
    omega (arith, ap length e)

-- an unfinished line is a line at the end of the input, as with a line feed
closed_lines : (r : List ℕ) → up_to_feed r ≡ r → lines_of (r ++ heard [] r) ≡ lines_of (r ++ [])
unfolding heard lines_of if◌then◌otherwise◌
closed_lines [] e = refl
closed_lines (c ∷ r) e =
    lines_on c r e (10 ∷ []) [] [] refl
    ∙ ap (λ (l : List ℕ). l ∷ []) (append-nil (c ∷ r))
    ∙ sym (lines_last c r e [] refl)

-- and then a further line feed makes a line of no bytes
next_lines
    : (s : Session) (r : List ℕ) → up_to_feed r ≡ r
    → length (printed_all s (lines_of (r ++ []))) < length (printed_all s (lines_of ((r ++ heard [] r) ++ (10 ∷ []))))
unfolding heard lines_of if◌then◌otherwise◌ printed_all
next_lines s [] e = omega (arith, printed_none s, length-append (printed s []) [])
next_lines s (c ∷ r) e =
    let more = ap lines_of (append_assoc (c ∷ r) (10 ∷ []) (10 ∷ [])) ∙ lines_on c r e (10 ∷ 10 ∷ []) [] ([] ∷ []) refl in
    let last = lines_last c r e [] refl ∙ ap (λ (l : List ℕ). l ∷ []) (sym (append-nil (c ∷ r))) in
    omega (
      arith,
      ap (λ ls. length (printed_all s ls)) more,
      ap (λ ls. length (printed_all s ls)) last,
      length-append (printed s ((c ∷ r) ++ [])) (printed (after s ((c ∷ r) ++ [])) [] ++ []),
      length-append (printed (after s ((c ∷ r) ++ [])) []) [],
      length-append (printed s ((c ∷ r) ++ [])) [],
      printed_none (after s ((c ∷ r) ++ [])),
    )

none_left
    : (s : Session) (r : List ℕ) → up_to_feed r ≡ r
    → length (printed_all s (lines_of (r ++ []))) < length (printed_all s (lines_of (r ++ (10 ∷ []))))
    → printed_all s (lines_of (r ++ [])) ≡ []
unfolding heard lines_of printed_all
none_left s [] e h = refl
none_left s (c ∷ r) e h = absurd (omega (arith, ap (λ ls. length (printed_all s ls)) (closed_lines (c ∷ r) e)))

-- no line is unfinished: a further line feed prints something
abbrev pub Ended : Standing → Type 0
Ended s = length (due s []) < length (due s (10 ∷ []))

-- what is put keeps that
pub ended_gone : {s s' : Standing} {put : List ℕ} → Goes [] s put s' → Ended s → Ended s'
ended_gone {s} {s'} {put} g e =
    omega (
      arith,
      e,
      ap length (g.text []),
      ap length (g.text (10 ∷ [])),
      length-append put (due s' []),
      length-append put (due s' (10 ∷ [])),
    )

module _ (s : Standing) (i : Idle s) where
  pub due_closed : due (received [] s) [] ≡ due s []
  unfolding due
  due_closed = rw (append-nil (s.rest ++ heard [] s.rest), closed_lines s.rest i.rest)

  pub ended_closed : Ended (received [] s)
  unfolding due
  ended_closed =
      omega (
        arith,
        ap length due_closed,
        length-append (listed s.listing s.row s.session) (printed_all s.session (lines_of (s.rest ++ []))),
        length-append (listed s.listing s.row s.session) (printed_all s.session (lines_of ((s.rest ++ heard [] s.rest) ++ (10 ∷ [])))),
        next_lines s.session s.rest i.rest,
      )

  -- nothing is due where no line is unfinished
  pub due_none : Ended s → due s [] ≡ []
  unfolding due listed if◌then◌otherwise◌
  due_none e = rw i.listing (none_left s.session s.rest i.rest (rw i.listing at e))

-- THE PIECES

ended_pieces : {s : Standing} {ps : List (List ℕ)} → Pieces false s [] ps → Ended s → joined ps ≡ due s []
unfolding joined
ended_pieces (turn {put = put} t p) e = ap (λ (l : List ℕ). put ++ l) (ended_pieces p (ended_gone t.goes e)) ∙ t.goes.text []
ended_pieces (stop i) e = sym (due_none _ i e)

-- what is due where a block is received is what was due where the input goes on with it
pub due_received : (s : Standing) (c : ℕ) (b more : List ℕ) → due (received (c ∷ b) s) more ≡ due s ((c ∷ b) ++ more)
unfolding due heard
due_received s c b more = rw append_assoc

pieces : {s : Standing} {bs ps : List (List ℕ)} → Pieces true s bs ps → joined ps ≡ due s (joined bs)
unfolding joined
pieces {bs = bs} (turn {put = put} t p) = ap (λ (l : List ℕ). put ++ l) (pieces p) ∙ t.goes.text (joined bs)
pieces (read {s} {c} {b} {bs} p) = pieces p ∙ due_received s c b (joined bs)
pieces (close i p) = ended_pieces p (ended_closed _ i) ∙ due_closed _ i

-- all that is due at the beginning is the output
pub due_beginning : (input : List ℕ) → due beginning input ≡ output input
unfolding due output listed if◌then◌otherwise◌
due_beginning input = refl

pub output_whole : OutputWhole
output_whole bs ps p = pieces p ∙ due_beginning (joined bs)
