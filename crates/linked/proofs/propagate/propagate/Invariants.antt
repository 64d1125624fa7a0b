use Rattle.std.proofs.Common.{◌≤◌, map}
use Rattle.linked.specs.Knowing.{open_pairs}
use Rattle.claims.specs.Meaning.{atom_of}
use Rattle.linked.specs.Propagating.{Learns}
use Rattle.linked.proofs.propagate.propagate.Given as goal

abbrev pub invariant-again : goal.invariant-again
invariant-again l = Learns (map atom_of l.atoms) l.initial.known l.known × (open_pairs l.known ≤ open_pairs l.initial.known)

abbrev pub decreases-again : goal.decreases-again
decreases-again l = l.before
