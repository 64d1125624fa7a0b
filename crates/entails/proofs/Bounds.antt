-- A question's names are below 64, and its atoms are few.
use Rattle.std.specs.List.{AllByRecursion}
use Rattle.claims.specs.Words.{PureBelow, AtomBelow}
use Rattle.linked.proofs.Below.{pures_weaker, atoms_weaker}
use Rattle.entails.specs.Telling.{first_of, second_of}
use Rattle.entails.specs.declared.goals.Goal.{Goal}

module _ (g : Goal) where
  pub first_pures : AllByRecursion (PureBelow 64) (first_of g).pures
  first_pures = pures_weaker g.names g.limits.few_names (first_of g).pures g.limits.first_fits.pures_below

  pub second_pures : AllByRecursion (PureBelow 64) (second_of g).pures
  second_pures = pures_weaker g.names g.limits.few_names (second_of g).pures g.limits.second_fits.pures_below

  pub first_atoms : AllByRecursion (AtomBelow 64) (first_of g).atoms
  first_atoms = atoms_weaker g.names g.limits.few_names (first_of g).atoms g.limits.first_fits.atoms_below

  pub second_atoms : AllByRecursion (AtomBelow 64) (second_of g).atoms
  second_atoms = atoms_weaker g.names g.limits.few_names (second_of g).atoms g.limits.second_fits.atoms_below
