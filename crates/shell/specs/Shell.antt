-- What the shell does, as far as its logs tell. Assumes nothing.
use Rattle.std.specs.Prelude.{ℕ, ◌+◌, ◌^◌, ◌≤◌, ◌<◌, ◌≡◌, true, false, List, [], ◌++◌, length}
use Rattle.model.specs.Console.{output}
use Rattle.console.specs.Rack.{Rack}
use Rattle.standing.specs.Standing.{Goes}
use Rattle.buffers.specs.Machine.{stands, bytes_of, Rests, Ready}
use Rattle.buffers.specs.declared.Machine.{Machine}
use Rattle.streams.specs.Streams.{Logged}
use Rattle.shell.specs.declared.Done.{Done}
use Rattle.shell.specs.declared.End.{End}
use Rattle.shell.specs.declared.End.TheVariants.{Whole, Closed, Spent}
use Rattle.shell.specs.declared.Outcome.{Outcome}

-- turns of the machine: the text that they put, recorded; and the machine, which has gone on by that text, can go on, and has nothing
-- left to do unless a write failed, which had something to write
pub record Worked
    (m : Machine) (k : Rack) (block log : List ℕ) (n : ℕ) (m' : Machine) (k' : Rack) (r : Done) (block' log' : List ℕ)
    : Type 0
  where
    pub text : List ℕ
    pub logged : Logged log n text log' r.text
    pub goes : Goes [] (stands m k (bytes_of m block)) text (stands m' k' (bytes_of m' block'))
    pub ready : Ready m' k' block'
    pub rests : r.closed ≡ false → Rests m' block'
    pub tried : r.closed ≡ true → 0 < length text

-- what each end of a run says of its input, its text and the output that is missing: of a whole run nothing is missing; a write that
-- failed had some text to write; and the reads are spent only by 2^64 - 1 of them, each of which brought a byte or more
abbrev pub Ends : End → List ℕ → List ℕ → List ℕ → Type 0
Ends Whole input text missing = missing ≡ []
Ends Closed input text missing = 0 < length text
Ends Spent input text missing = 2 ^ 64 ≤ length input + 1

-- a run: its input and its text, each recorded from the first place on; the text is document 01's output of the input, but for what
-- is missing at its end
pub record Ran (log₁ log₂ log₁' log₂' : List ℕ) (r : Outcome) : Type 0 where
  pub input : List ℕ
  pub text : List ℕ
  pub missing : List ℕ
  pub input_logged : Logged log₁ 0 input log₁' r.input
  pub text_logged : Logged log₂ 0 text log₂' r.text
  pub told : text ++ missing ≡ output input
  pub ended : Ends r.end input text missing
