-- What a read and a write do, as far as memory tells: no contract says which bytes C reads or writes. Assumes nothing.
use Rattle.std.specs.Prelude.{ℕ, ◌+◌, ◌≤◌, ◌<◌, min, ◌≡◌, true, List, length, take, drop}
use Rattle.std.proofs.lemmas.List.Edits.{sets}
use Rattle.streams.specs.declared.Input.{Input}
use Rattle.streams.specs.declared.Output.{Output}

-- bytes recorded in a log from place n on, as many as it has room for: the log and the place afterwards
pub record Logged (log : List ℕ) (n : ℕ) (bytes log' : List ℕ) (n' : ℕ) : Type 0 where
  pub holds : log' ≡ sets log n bytes
  pub place : n' ≡ min (n + length bytes) (length log)

-- bytes read behind the first `size` of a block, which are kept; exactly those that the read brought are recorded. What lies behind
-- them in the block is what C left there
pub record Read (block : List ℕ) (size : ℕ) (log : List ℕ) (n : ℕ) (r : Input) (block' log' : List ℕ) : Type 0 where
  pub kept : take size block' ≡ take size block
  pub room : size + r.got ≤ length block'
  pub logged : Logged log n (take r.got (drop size block')) log' r.place

-- the first k bytes of a text to be written, recorded; a write that failed had something to write
pub record Written (out : List ℕ) (k : ℕ) (log : List ℕ) (n : ℕ) (r : Output) (log' : List ℕ) : Type 0 where
  pub logged : Logged log n (take k out) log' r.place
  pub tried : r.failed ≡ true → 0 < k
