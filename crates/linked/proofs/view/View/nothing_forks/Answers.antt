use Rattle.std.proofs.Common.{List, map, subst, arith}
use Rattle.claims.specs.Meaning.{atom_of}
use Rattle.claims.specs.declared.parts.Atom.{Atom}
use Rattle.linked.specs.Forking.{HasGeneric}
use Rattle.linked.specs.Generics.{Forkless}
use Rattle.linked.proofs.FirstNumbers.{fork_free}
use Rattle.linked.proofs.Numbers.{has-generic}
use Rattle.linked.proofs.view.View.nothing_forks.Goals as goal

pub returns : goal.returns
returns c t =
    let k = c.args.self.now.known.now in
    let xs = c.as_slice.result.now in
    let P : List Atom → Type 0 = λ u. HasGeneric k (map atom_of u) in
    subst P c.as_slice.ensures.value
    (has-generic k (map atom_of xs) (fork_free 64 k (omega arith) (map atom_of xs) c.as_slice.ensures.below (subst (Forkless k (map atom_of xs)) t c.is_forkless.ensures.exact)))
