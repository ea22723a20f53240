-- What a run keeps: its input and its text, recorded, and the text with what is due is the output of the input and what follows.
-- Assumes nothing.
use Prim.Native.Nat.{ℕ, ◌+◌, ◌^◌, ◌≤◌, ◌<◌}
use mathlib.Core.Path.{◌≡◌, refl, sym, ◌∙◌, ap, subst}
use mathlib.Core.List.{List, [], ◌∷◌, ◌++◌, append-nil, append_assoc}
use native.Mathlib.Omega.{arith}
use lib.ListN.{length, take, drop, length-append, length-drop}
use lib.Seq.{length-take-le}
use Rattle.model.specs.Console.{output}
use Rattle.console.specs.Rack.{Rack}
use Rattle.standing.specs.Standing.{Standing, beginning, due, Goes, Idle, received}
use Rattle.buffers.specs.Machine.{stands, bytes_of, Rests}
use Rattle.buffers.specs.declared.Machine.{Machine}
use Rattle.standing.proofs.Folding.{ended_gone, due_closed, ended_closed, due_none, due_received, due_beginning}
use Rattle.streams.specs.Streams.{Logged}
use Rattle.shell.specs.Shell.{Ends, Ran}
use Rattle.shell.specs.declared.End.{End}
use Rattle.shell.specs.declared.End.TheVariants.{Whole, Closed, Spent}
use Rattle.streams.proofs.Logging.{logged_none, logged_more}

pub record Going (log₁ log₂ log₁' log₂' : List ℕ) (n k reads : ℕ) (s : Standing) : Type 0 where
  pub input : List ℕ
  pub text : List ℕ
  pub input_logged : Logged log₁ 0 input log₁' n
  pub text_logged : Logged log₂ 0 text log₂' k
  pub told : (more : List ℕ) → text ++ due s more ≡ output (input ++ more)
  pub many : reads ≤ length input

-- before the first block
pub going_none
    : (log₁ log₂ : List ℕ) (s : Standing) → s ≡ beginning → Going log₁ log₂ log₁ log₂ 0 0 0 s
going_none log₁ log₂ s e =
    record {
      input = [];
      text = [];
      input_logged = logged_none log₁ 0 (omega arith);
      text_logged = logged_none log₂ 0 (omega arith);
      told = λ more. ap (λ (z : Standing). due z more) e ∙ due_beginning more;
      many = omega arith;
    }

-- nothing is left to do where a machine rests
pub rests_idle : {m : Machine} {block : List ℕ} (k : Rack) → Rests m block → Idle (stands m k (bytes_of m block))
unfolding stands
rests_idle k r = record { listing = r.listing; rest = r.rest }

-- how many bytes a read brought
pub came_length : (size got : ℕ) (block : List ℕ) → size + got ≤ length block → length (take got (drop size block)) ≡ got
came_length size got block h = length-take-le got (drop size block) (omega (arith, length-drop size block))

-- turns after bytes received behind those that the read kept
pub went_on
    : {z s' : Standing} {put l l₁ : List ℕ} (m : Machine) (k : Rack) (b : List ℕ) → z ≡ received b (stands m k l₁) → l₁ ≡ l
    → Goes [] z put s' → Goes [] (received b (stands m k l)) put s'
went_on {s' = s'} {put = put} m k b e kept g =
    subst (λ (z : Standing). Goes [] z put s') (e ∙ ap (λ (l : List ℕ). received b (stands m k l)) kept) g

module _
    {log₁ log₂ log₁' log₂' : List ℕ} {n k reads : ℕ} {s : Standing} (g : Going log₁ log₂ log₁' log₂' n k reads s)
  where
    -- the reads are spent
    pub going_spent : 2 ^ 64 ≤ reads + 1 → Ran log₁ log₂ log₁' log₂' (record { input = n; text = k; end = Spent })
    going_spent e =
        record {
          input = g.input;
          text = g.text;
          missing = due s [];
          input_logged = g.input_logged;
          text_logged = g.text_logged;
          told = g.told [] ∙ ap output (append-nil g.input);
          ended = omega (arith, g.many);
        }

    -- bytes b received, and turns that put a text
    module _
        {b put log₁'' log₂'' : List ℕ} {n' k' : ℕ} {s' : Standing} (h : Logged log₁' n b log₁'' n') (t : Logged log₂' k put log₂'' k')
        (goes : Goes [] (received b s) put s')
      where
        text_more : (more : List ℕ) → (g.text ++ put) ++ due s' more ≡ g.text ++ due (received b s) more
        text_more more =
            append_assoc g.text put (due s' more) ∙ ap (λ (l : List ℕ). g.text ++ l) (goes.text more)

        -- the input goes on
        due_more : (b₀ : List ℕ) → b₀ ≡ b → 0 < length b₀ → (more : List ℕ) → due (received b₀ s) more ≡ due s (b₀ ++ more)
        due_more [] e l more = absurd (omega arith)
        due_more (c ∷ b₀) e l more = due_received s c b₀ more

        pub going_on : 0 < length b → Going log₁ log₂ log₁'' log₂'' n' k' (reads + 1) s'
        going_on l =
            record {
              input = g.input ++ b;
              text = g.text ++ put;
              input_logged = logged_more g.input_logged h;
              text_logged = logged_more g.text_logged t;
              told = λ more.
                  text_more more
                  ∙ ap (λ (z : List ℕ). g.text ++ z) (due_more b refl l more)
                  ∙ g.told (b ++ more)
                  ∙ ap output (sym (append_assoc g.input b more));
              many = omega (arith, g.many, length-append g.input b);
            }

        -- the run ends
        module _ (idle : Idle s) where
          due_last : (b₀ : List ℕ) → due (received b₀ s) [] ≡ due s b₀
          due_last [] = due_closed s idle
          due_last (c ∷ b₀) = due_received s c b₀ [] ∙ ap (due s) (append-nil (c ∷ b₀))

          ends
              : (end : End) → Ends end (g.input ++ b) (g.text ++ put) (due s' [])
              → Ran log₁ log₂ log₁'' log₂'' (record { input = n'; text = k'; end = end })
          ends end e =
              record {
                input = g.input ++ b;
                text = g.text ++ put;
                missing = due s' [];
                input_logged = logged_more g.input_logged h;
                text_logged = logged_more g.text_logged t;
                told = text_more [] ∙ ap (λ (z : List ℕ). g.text ++ z) (due_last b) ∙ g.told b;
                ended = e;
              }

          -- with its input
          nothing_due : (b₀ : List ℕ) → length b₀ ≡ 0 → Goes [] (received b₀ s) put s' → Idle s' → due s' [] ≡ []
          nothing_due [] e went i = due_none s' i (ended_gone went (ended_closed s idle))
          nothing_due (c ∷ b₀) e went i = absurd (omega arith)

          pub going_whole : length b ≡ 0 → Idle s' → Ran log₁ log₂ log₁'' log₂'' (record { input = n'; text = k'; end = Whole })
          going_whole e i = ends Whole (nothing_due b e goes i)

          -- at a write that failed
          pub going_closed : 0 < length put → Ran log₁ log₂ log₁'' log₂'' (record { input = n'; text = k'; end = Closed })
          going_closed l = ends Closed (omega (arith, length-append g.text put))
