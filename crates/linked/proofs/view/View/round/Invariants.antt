use Rattle.std.proofs.Common.{◌≤◌}
use Rattle.linked.specs.Knowing.{open_pairs}
use Rattle.linked.specs.Living.{atoms_of}
use Rattle.linked.specs.Propagating.{Learns}
use Rattle.linked.proofs.view.View.round.Given as goal

abbrev pub invariant-loop-e : goal.invariant-loop-e
invariant-loop-e l = Learns (atoms_of l.self.live.now) l.self.known.now l.more × (open_pairs l.more ≤ open_pairs l.self.known.now)
