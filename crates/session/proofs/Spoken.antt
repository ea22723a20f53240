-- What the program's session holds and prints is document 01's session. Assumes nothing.
use Prim.Native.Nat.{ℕ}
use mathlib.Core.Path.{◌≡◌, refl, sym, ◌∙◌, ap, ap₂}
use mathlib.Core.List.{List, ◌++◌, append-nil}
use native.Mathlib.Decide.{ℕ_discrete}
use native.Mathlib.Omega.{arith}
use Rattle.model.specs.Basics.{if◌then◌otherwise◌, joined}
use Rattle.model.specs.Limits.{max_capacity}
use Rattle.model.specs.Initial.{initial}
use Rattle.model.specs.Expansion.{expanded}
use Rattle.model.specs.Table.{sizes}
use Rattle.model.specs.Console.{Session, fresh, is_fresh, command_refusal, read, moves_of, move_text}
use Rattle.model.specs.Console.{accepted, accepted_answer, command_answer, answer_text, after, printed}
use Rattle.model.specs.declared.answer.Answer.{Answer}
use Rattle.model.specs.declared.answer.Answer.TheVariants as says
use Rattle.model.specs.declared.command.Command.{Command}
use Rattle.model.specs.declared.command.Command.TheVariants.{Fresh, Grow, Where, At, Moves, Unreadable}
use Rattle.model.proofs.Lines.{unreadable_refusal}
use Rattle.model.proofs.Refusals.{accepted as answer_accepted, refused as answer_refused}
use Rattle.model.proofs.Tables.{table_written}
use Rattle.session.specs.Maps.{Maps, map_of, before_of, session_at, session, performed, next, shown, is_list, listed}
use Rattle.session.specs.Claims.{SessionKept, SessionSpoken}
use Rattle.session.proofs.Steps.{map_current, has_map}

-- an accepted step leaves document 01's session
performed_kept
    : (m : Maps) (c : Command) → command_refusal (session m) c ≡ 0 → session (performed m c) ≡ accepted (session m) c
unfolding performed accepted session session_at map_of before_of is_fresh
performed_kept m (Fresh b n) e = ap fresh (table_written (initial (sizes b n) max_capacity) m.this)
performed_kept m (Grow b n) e =
    let here = map_current m.state.stage (before_of m) (map_of m) (has_map m (Grow b n) refl e) in
    rw (here, table_written (expanded (map_of m) (sizes b n)) m.other)
performed_kept m (Where x) e = refl
performed_kept m (At y p) e = refl
performed_kept m Moves e = refl
performed_kept m Unreadable e = refl

pub session_kept : SessionKept
unfolding next after
session_kept m l =
    elim (ℕ_discrete (command_refusal (session m) (read l)) 0) [
      | yes e ↦
          ap session (answer_accepted _ _ _ e)
          ∙ performed_kept m (read l) e
          ∙ sym (answer_accepted (command_refusal (session m) (read l)) (accepted (session m) (read l)) (session m) e)
      | no n ↦
          ap session (answer_refused _ _ _ n)
          ∙ sym (answer_refused (command_refusal (session m) (read l)) (accepted (session m) (read l)) (session m) n)
    ]

-- its answer is printed as document 01 prints it: `move` lines follow only where the session stays as it is
abbrev spoken : Session → Answer → List ℕ
spoken s a = shown a ++ listed (is_list a) 0 s

accepted_spoken : (s : Session) (c : Command) → spoken (accepted s c) (accepted_answer s c) ≡ answer_text s (accepted_answer s c)
unfolding shown is_list listed if◌then◌otherwise◌ answer_text moves_of move_text joined accepted accepted_answer
accepted_spoken s (Fresh b n) = append-nil _
accepted_spoken s (Grow b n) = append-nil _
accepted_spoken s (Where x) = append-nil _
accepted_spoken s (At y p) = append-nil _
accepted_spoken s Moves = refl
accepted_spoken s Unreadable = append-nil _

refused_spoken : (s : Session) (r : ℕ) → spoken s (says.Refused r) ≡ answer_text s (says.Refused r)
unfolding shown is_list listed if◌then◌otherwise◌ answer_text
refused_spoken s r = append-nil _

pub session_spoken : SessionSpoken
unfolding after printed command_answer
session_spoken s l =
    elim (ℕ_discrete (command_refusal s (read l)) 0) [
      | yes e ↦
          let same = answer_accepted _ (accepted_answer s (read l)) (says.Refused (command_refusal s (read l))) e in
          ap₂ spoken (answer_accepted _ (accepted s (read l)) s e) same
          ∙ accepted_spoken s (read l)
          ∙ sym (ap (answer_text s) same)
      | no n ↦
          let same = answer_refused _ (accepted_answer s (read l)) (says.Refused (command_refusal s (read l))) n in
          ap₂ spoken (answer_refused _ (accepted s (read l)) s n) same
          ∙ refused_spoken s (command_refusal s (read l))
          ∙ sym (ap (answer_text s) same)
    ]

-- an unreadable line is refused
pub unreadable_refused : (s : Session) → command_refusal s Unreadable ≡ 0 → ⊥
unreadable_refused s e = omega (arith, e, unreadable_refusal s)
