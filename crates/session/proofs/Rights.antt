-- Every step keeps the invariant of a session. Assumes nothing.
use Prim.Native.Nat.{ℕ, ◌≤◌}
use mathlib.Core.Path.{◌≡◌, refl, sym, ◌∙◌, subst}
use mathlib.Core.Bool.{false, false≢true}
use mathlib.Core.List.{List, [], map}
use native.Mathlib.Decide.{ℕ_discrete}
use native.Mathlib.Omega.{arith}
use lib.ListN.{length, drop, length-append, length-drop}
use borrow.Author.Tests.{le-ltb, ltb-false}
use Rattle.model.specs.Limits.{max_capacity, max_intervals}
use Rattle.model.specs.Table.{Table, Arrays, header, over, written, sizes}
use Rattle.model.specs.Refusal.{first, intervals_full, capacity_outside, room_short}
use Rattle.model.specs.Sound.{Sound}
use Rattle.model.specs.Initial.{initial}
use Rattle.model.specs.Expansion.{expanded}
use Rattle.model.specs.Calls.{growth_tests}
use Rattle.model.specs.Console.{is_fresh, is_unreadable, command_tests, command_refusal}
use Rattle.model.specs.declared.command.Command.{Command}
use Rattle.model.specs.declared.command.Command.TheVariants.{Fresh, Grow, Where, At, Moves, Unreadable}
use Rattle.model.proofs.Refusals.{or_both, not_outside, first_number, first_both, accepted, refused}
use Rattle.model.proofs.Rooms.{Roomy, roomy}
use Rattle.model.proofs.Tables.{table_written}
use Rattle.model.proofs.Soundness.{growth_numbered, fresh_sound}
use Rattle.model.proofs.Expanded.{grown_sound}
use Rattle.session.specs.Maps.{Maps, is_empty, is_grown, map_of, before_of, session, performed, next, sizes_of, GrownFrom, Right}
use Rattle.session.proofs.Steps.{has_map, map_refusal, fresh_refusal_lem}

-- ROOM

longer : (new old : List ℕ) → length old ≤ length (over new old)
unfolding over
longer new old = omega (arith, length-append new (drop (length new) old), length-drop (length new) old)

-- room for any new table
pub clear : (a : Arrays) → Roomy a → room_short a ≡ false
unfolding room_short
clear a r =
    or_both _ _
    (or_both _ _ (or_both _ _ (le-ltb _ _ r.tops) (le-ltb _ _ r.ends)) (le-ltb _ _ r.blocks))
    (le-ltb _ _ r.adjustments)

room_kept : (u : Table) (out : Arrays) → room_short out ≡ false → room_short (written u out) ≡ false
unfolding written
room_kept u out e =
    let r = roomy out e in
    clear _
    (record {
      tops = omega (arith, longer u.tops out.tops);
      ends = omega (arith, longer (map (λ i. i.end) u.intervals) out.ends);
      blocks = omega (arith, longer (map (λ i. i.block) u.intervals) out.blocks);
      adjustments = omega (arith, longer (map (λ i. i.adjustment) u.intervals) out.adjustments);
    })

-- STEPS

-- the program's capacity is within its limits
within : capacity_outside max_capacity ≡ false
unfolding capacity_outside
within = not_outside max_capacity max_capacity (omega arith) (omega arith)

module _ (m : Maps) (r : Right m) where
  fresh_right : (b n : ℕ) → command_refusal (session m) (Fresh b n) ≡ 0 → Right (performed m (Fresh b n))
  unfolding performed is_grown
  fresh_right b n e =
      record {
        room = room_kept (initial (sizes b n) max_capacity) m.this r.room;
        other_room = r.other_room;
        sound = λ _. fresh_sound (sizes b n) max_capacity m.this within (sym (fresh_refusal_lem m b n) ∙ e);
        grown = λ g. absurd (false≢true g);
      }

  -- an accepted growth has a map, which its tests let pass
  module _ (b n : ℕ) (e : command_refusal (session m) (Grow b n) ≡ 0) where
    mapped : is_empty m.state.stage ≡ false
    unfolding is_fresh
    mapped = has_map m (Grow b n) refl e

    tests : (first (growth_tests (map_of m) (sizes b n)) ≡ 0) × (length (expanded (map_of m) (sizes b n)).intervals ≤ max_intervals)
    unfolding is_unreadable command_tests intervals_full
    tests =
        let (growth, rest) = first_both (growth_tests (map_of m) (sizes b n)) _ (growth_numbered (map_of m) (sizes b n))
        (sym (map_refusal m (Grow b n) refl mapped) ∙ e) in
        let (full, none) = first_number 8 (intervals_full (map_of m) (sizes b n)) [] (omega arith) rest in
        (growth, ltb-false _ _ full)

    old : Sound m.state.current m.this
    old = r.sound mapped

    new : Sound (header (expanded (map_of m) (sizes b n))) (written (expanded (map_of m) (sizes b n)) m.other)
    unfolding map_of
    new = grown_sound m.state.current m.this (sizes b n) m.other old tests.0 tests.1

    made : GrownFrom (performed m (Grow b n))
    unfolding performed map_of before_of sizes_of header expanded
    made =
        record {
          sound = old;
          asked = tests.0;
          made = table_written (expanded (map_of m) (sizes b n)) m.other;
        }

    grow_right : Right (performed m (Grow b n))
    unfolding performed
    grow_right =
        record {
          room = room_kept (expanded (map_of m) (sizes b n)) m.other r.other_room;
          other_room = r.room;
          sound = λ _. new;
          grown = λ _. made;
        }

  performed_right : (c : Command) → command_refusal (session m) c ≡ 0 → Right (performed m c)
  unfolding performed
  performed_right (Fresh b n) e = fresh_right b n e
  performed_right (Grow b n) e = grow_right b n e
  performed_right (Where x) e = r
  performed_right (At y p) e = r
  performed_right Moves e = r
  performed_right Unreadable e = r

  -- every step keeps it
  pub right_next : (c : Command) → Right (next m c)
  unfolding next
  right_next c =
      elim (ℕ_discrete (command_refusal (session m) c) 0) [
        | yes e ↦ subst Right (sym (accepted (command_refusal (session m) c) (performed m c) m e)) (performed_right c e)
        | no n ↦ subst Right (sym (refused (command_refusal (session m) c) (performed m c) m n)) r
      ]
