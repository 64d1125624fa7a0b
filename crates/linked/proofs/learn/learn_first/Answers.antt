use Rattle.std.proofs.Common.{map, length, sym, ap, subst, arith}
use lib.ListN.{length-map}
use Rattle.std.specs.List.{AllByRecursion}
use Rattle.claims.specs.Words.{PureBelow, AtomBelow}
use Rattle.claims.specs.Meaning.{pure_of, atom_of}
use Rattle.linked.proofs.Below.{pures_weaker, atoms_weaker}
use Rattle.linked.proofs.learn.learn_first.Goals as goal

pub learn-requires : goal.learn-requires
learn-requires c =
    let q = c.args.question.now in
    let f = c.requires.first_fits in
    let p = c.as_slice.ensures.value in
    let a = c.as_slice-2.ensures.value in
    record {
      few = omega (arith, f.few_atoms, length-map c.as_slice-2.result.now atom_of, ap (λ u. length (map atom_of u)) a);
      small_pures = subst (λ u. AllByRecursion (PureBelow 64) (map pure_of u)) (sym p) (pures_weaker q.names c.requires.few_names _ f.pures_below);
      small_atoms = subst (λ u. AllByRecursion (AtomBelow 64) (map atom_of u)) (sym a) (atoms_weaker q.names c.requires.few_names _ f.atoms_below);
    }
