-- Names below a number that is at most 64 are below 64.
use Rattle.std.proofs.Common.{ℕ, ◌≤◌, List, arith}
use Rattle.std.specs.List.{AllByRecursion}
use Rattle.std.proofs.ByRecursion.{All-weaker}
use Rattle.claims.specs.Claims.{Pure, same, other, Atom, cell, row}
use Rattle.claims.specs.Words.{PureBelow, AtomBelow}

module _ (m : ℕ) (few : m ≤ 64) where
  pure_weaker : (p : Pure) → PureBelow m p → PureBelow 64 p
  pure_weaker (same x y) b = (omega arith, omega arith)
  pure_weaker (other x y) b = (omega arith, omega arith)

  atom_weaker : (a : Atom) → AtomBelow m a → AtomBelow 64 a
  atom_weaker (cell x y) b = (omega arith, omega arith)
  atom_weaker (row x y) b = (omega arith, omega arith)

  pub pures_weaker : (ps : List Pure) → AllByRecursion (PureBelow m) ps → AllByRecursion (PureBelow 64) ps
  pures_weaker = All-weaker (PureBelow m) (PureBelow 64) pure_weaker

  pub atoms_weaker : (cs : List Atom) → AllByRecursion (AtomBelow m) cs → AllByRecursion (AtomBelow 64) cs
  atoms_weaker = All-weaker (AtomBelow m) (AtomBelow 64) atom_weaker
