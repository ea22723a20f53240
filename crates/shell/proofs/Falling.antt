-- What the shell's loops keep: a turn that leaves more to do leaves less than there was, and a read keeps what is left. Assumes nothing.
use Prim.Native.Nat.{ℕ, ◌+◌, ◌≤◌, ◌<◌}
use mathlib.Core.Path.{◌≡◌, refl, sym, ◌∙◌, ap}
use mathlib.Core.Bool.{Bool, true, false, not}
use mathlib.Core.List.{List, [], ◌++◌, append_assoc}
use native.Mathlib.Omega.{arith}
use lib.ListN.{length, take, length-append}
use lib.Seq.{length-take-le}
use Rattle.console.specs.Rack.{Rack}
use Rattle.standing.specs.Standing.{Standing, due, Goes, Turned}
use Rattle.buffers.specs.Machine.{stands, bytes_of, Rests, Ready}
use Rattle.machine.specs.Machine.{Turns}
use Rattle.pages.specs.declared.After.{After}
use Rattle.buffers.specs.declared.Machine.{Machine}
use Rattle.standing.proofs.Going.{goes_none, Goes_then}
use Rattle.streams.specs.Streams.{Logged}
use Rattle.shell.specs.Shell.{Worked}
use Rattle.streams.proofs.Logging.{logged_none, logged_more}

-- TURNS

-- the bytes that are not yet answered, and what is due of them
unfoldable pub work : Standing → ℕ
work s = length s.rest + length (due s [])

pub falls : {s s' : Standing} {put : List ℕ} {more : Bool} → Turned s put more s' → more ≡ true → work s' < work s
unfolding work
falls {s} {s'} {put} t e = omega (arith, ap length (t.goes.text []), length-append put (due s' []), t.onward e)

pub not_true : (b : Bool) → not b ≡ true → b ≡ false
not_true true e = sym e
not_true false e = refl

pub not_false : (b : Bool) → not b ≡ false → b ≡ true
not_false true e = refl
not_false false e = sym e

-- what is put behind a text
goes_behind : (text : List ℕ) {s s' : Standing} {put : List ℕ} → Goes [] s put s' → Goes text s (text ++ put) s'
goes_behind text {s} {s'} {put} g =
    record {
      text = λ more. append_assoc text put (due s' more) ∙ ap (λ (l : List ℕ). text ++ l) (g.text more);
      session = g.session;
    }

-- the turns so far: the text that they put, recorded, and the machine, which has gone on by it and can go on
pub record Working
    (m : Machine) (k : Rack) (block log : List ℕ) (n : ℕ) (m' : Machine) (n' : ℕ) (k' : Rack) (block' log' : List ℕ)
    : Type 0
  where
    pub text : List ℕ
    pub logged : Logged log n text log' n'
    pub goes : Goes [] (stands m k (bytes_of m block)) text (stands m' k' (bytes_of m' block'))
    pub ready : Ready m' k' block'

-- before the first turn, after one more, and at the end
pub working_none
    : {m : Machine} {k : Rack} {block log : List ℕ} {n : ℕ} → Ready m k block → n ≤ length log
    → Working m k block log n m n k block log
working_none {log = log} {n = n} r l = record { text = []; logged = logged_none log n l; goes = goes_none; ready = r }

module _
    {m m₁ m₂ : Machine} {k k₁ k₂ : Rack} {block block₁ block₂ log log₁ log₂ out : List ℕ} {n n₁ n₂ : ℕ} {a : After}
    (w : Working m k block log n m₁ n₁ k₁ block₁ log₁) (t : Turns m₁ k₁ block₁ m₂ k₂ a block₂ out)
    (p : Logged log₁ n₁ (take a.put out) log₂ n₂)
  where
    pub working_then : Working m k block log n m₂ n₂ k₂ block₂ log₂
    working_then =
        record {
          text = w.text ++ take a.put out;
          logged = logged_more w.logged p;
          goes = Goes_then w.goes (goes_behind w.text t.turned.goes);
          ready = t.ready;
        }

    pub worked_done
        : (closed : Bool) → (closed ≡ false → a.more ≡ false) → (closed ≡ true → 0 < a.put)
        → Worked m k block log n m₂ k₂ (record { text = n₂; closed = closed }) block₂ log₂
    unfolding working_then
    worked_done closed h f =
        record {
          text = working_then.text;
          logged = working_then.logged;
          goes = working_then.goes;
          ready = working_then.ready;
          rests = λ e. t.rests (h e);
          tried = λ e.
              let some = f e in
              omega (arith, length-append w.text (take a.put out), length-take-le a.put out t.room);
        }

-- BYTES READ BEHIND THOSE THAT ARE LEFT

pub rests_read : {m : Machine} {block block' : List ℕ} → Rests m block → bytes_of m block' ≡ bytes_of m block → Rests m block'
rests_read {m} r e = record { listing = r.listing; rest = rw e r.rest; few = r.few }

pub ready_read : {m : Machine} {k : Rack} {block block' : List ℕ} → Ready m k block → m.size ≤ length block' → Ready m k block'
ready_read r h = record { sane = r.sane; from = r.from; size = h }
