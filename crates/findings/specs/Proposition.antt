-- That a question is within the limits is a proposition, so that a struct may hold it as a ghost field.
-- (`entails` has a proof of this, and stands above what `findings` needs.)
use Rattle.std.specs.Prelude.{ℕ}
use Rattle.std.proofs.Props.{props}
use Rattle.claims.specs.Claims.{Pure, same, other, Atom, cell, row}
use Rattle.claims.specs.Words.{PureBelow, AtomBelow}
use native.Mathlib.Bridge.{le_prop}
use mathlib.Core.HLevel.{×_prop}

pub PureBelow-prop : (n : ℕ) (p : Pure) → IsProp (PureBelow n p)
PureBelow-prop n (same x y) = ×_prop le_prop le_prop
PureBelow-prop n (other x y) = ×_prop le_prop le_prop

pub AtomBelow-prop : (n : ℕ) (a : Atom) → IsProp (AtomBelow n a)
AtomBelow-prop n (cell x y) = ×_prop le_prop le_prop
AtomBelow-prop n (row x y) = ×_prop le_prop le_prop

pub ruleset limited = (PureBelow-prop, AtomBelow-prop, props)
