use Rattle.std.proofs.Common.{◌-◌, ◌^◌}
use Rattle.linked.specs.Living.{atoms_of}
use Rattle.linked.specs.Reaching.{Reached}
use Rattle.linked.proofs.atoms.Live.reach.Given as goal

abbrev pub invariant-again : goal.invariant-again
invariant-again l = Reached (atoms_of l.self) l.e l.s l.names.0

abbrev pub decreases-again : goal.decreases-again
decreases-again l = 2 ^ 64 - l.names.0
