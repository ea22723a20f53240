-- What a command or a stage is not. Assumes nothing.
use Prim.Native.Nat.{ℕ}
use mathlib.Core.Path.{◌≡◌, refl}
use mathlib.Core.Bool.{false}
use Rattle.model.specs.Console.{is_fresh, is_unreadable}
use Rattle.model.specs.declared.command.Command.{Command}
use Rattle.model.specs.declared.command.Command.TheVariants.{Fresh, Grow, Where, At, Moves, Unreadable}
use Rattle.session.specs.Maps.{is_empty}
use Rattle.session.specs.declared.state.Stage.{Stage}
use Rattle.session.specs.declared.state.Stage.TheVariants as stage

-- there is a map at a stage other than `Empty`
pub not_empty : (s : Stage) → (s ≡ stage.Empty → ⊥) → is_empty s ≡ false
unfolding is_empty
not_empty stage.Empty h = absurd (h refl)
not_empty stage.Fresh h = refl
not_empty stage.Grown h = refl

-- a command other than `Unreadable` is readable
pub readable : (c : Command) → (c ≡ Unreadable → ⊥) → is_unreadable c ≡ false
unfolding is_unreadable
readable (Fresh b n) h = refl
readable (Grow b n) h = refl
readable (Where x) h = refl
readable (At y p) h = refl
readable Moves h = refl
readable Unreadable h = absurd (h refl)

-- a command that is no `Fresh` is not `fresh`
pub not_fresh : (c : Command) → ((b n : ℕ) → c ≡ Fresh b n → ⊥) → is_fresh c ≡ false
unfolding is_fresh
not_fresh (Fresh b n) h = absurd (h b n refl)
not_fresh (Grow b n) h = refl
not_fresh (Where x) h = refl
not_fresh (At y p) h = refl
not_fresh Moves h = refl
not_fresh Unreadable h = refl
