use Rattle.std.proofs.Common.{map}
use Rattle.claims.specs.Meaning.{atom_of}
use Rattle.linked.proofs.Begun.{Begun}
use Rattle.linked.proofs.forks.is_forkless.Given as goal

abbrev pub invariant-loop-atom : goal.invariant-loop-atom
invariant-loop-atom l = Begun l.known (map atom_of l.atoms) l.atom-index l.seen
