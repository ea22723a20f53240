-- What a machine that has gone on has answered. Assumes nothing.
use Prim.Native.Nat.{ℕ, ◌+◌, ◌<◌}
use mathlib.Core.Bool.{true, false, true≢false, false≢true}
use mathlib.Core.List.{List}
use Rattle.console.specs.Rack.{Rack}
use Rattle.standing.specs.Standing.{Idle}
use Rattle.buffers.specs.Machine.{stands}
use Rattle.buffers.specs.declared.Machine.{Machine}
use Rattle.wheres.specs.Wheres.{Went}
use Rattle.answers.specs.Answers.{Answers}

module _
    {m : Machine} {k : Rack} {bytes : List ℕ} {put : ℕ} {out : List ℕ} {m' : Machine} {k' : Rack} {put' : ℕ} {out' : List ℕ}
    (w : Went m k bytes put out m' k' put' out')
  where
    pub answers_done : Idle (stands m' k' bytes) → Answers m k bytes put out m' k' (record { put = put'; more = false }) out'
    answers_done i = record { went = w; done = λ e. i; more = λ e. absurd (false≢true e) }

    pub answers_more
        : m.from < m'.from + put' → Answers m k bytes put out m' k' (record { put = put'; more = true }) out'
    answers_more h = record { went = w; done = λ e. absurd (true≢false e); more = λ e. h }
