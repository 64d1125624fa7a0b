-- That a question is within the limits is a proposition, so that a struct may hold it as a ghost field.
use Rattle.std.specs.Prelude.{ℕ, ◌≤◌, length}
use Rattle.std.specs.List.{AllByRecursion-prop}
use Rattle.claims.specs.Claims.{Pure, same, other, Atom, cell, row, Claim, Question}
use Rattle.claims.specs.Words.{PureBelow, AtomBelow, Fits, Limits}
use native.Mathlib.Bridge.{le_prop}
use mathlib.Core.HLevel.{×_prop}

PureBelow-prop : (n : ℕ) (p : Pure) → IsProp (PureBelow n p)
PureBelow-prop n (same x y) = ×_prop le_prop le_prop
PureBelow-prop n (other x y) = ×_prop le_prop le_prop

AtomBelow-prop : (n : ℕ) (a : Atom) → IsProp (AtomBelow n a)
AtomBelow-prop n (cell x y) = ×_prop le_prop le_prop
AtomBelow-prop n (row x y) = ×_prop le_prop le_prop

Fits-prop : (n : ℕ) (c : Claim) → IsProp (Fits n c)
Fits-prop n c x y =
    let few_pures_prop : IsProp (length c.pures ≤ 256) = le_prop in
    let few_atoms_prop : IsProp (length c.atoms ≤ 64) = le_prop in
    let pures_prop = AllByRecursion-prop (PureBelow n) (PureBelow-prop n) c.pures in
    let atoms_prop = AllByRecursion-prop (AtomBelow n) (AtomBelow-prop n) c.atoms in
    λ i. record {
      few_pures = few_pures_prop x.few_pures y.few_pures i;
      few_atoms = few_atoms_prop x.few_atoms y.few_atoms i;
      pures_below = pures_prop x.pures_below y.pures_below i;
      atoms_below = atoms_prop x.atoms_below y.atoms_below i;
    }

pub Limits-prop : (q : Question) → IsProp (Limits q)
Limits-prop q x y =
    let some_prop : IsProp (1 ≤ q.names) = le_prop in
    let few_prop : IsProp (q.names ≤ 64) = le_prop in
    let first_prop = Fits-prop q.names q.first in
    let second_prop = Fits-prop q.names q.second in
    λ i. record {
      some_names = some_prop x.some_names y.some_names i;
      few_names = few_prop x.few_names y.few_names i;
      first_fits = first_prop x.first_fits y.first_fits i;
      second_fits = second_prop x.second_fits y.second_fits i;
    }
