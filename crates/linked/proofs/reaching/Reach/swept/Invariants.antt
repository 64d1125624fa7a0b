use Rattle.std.proofs.Common.{◌≤◌}
use Rattle.linked.specs.Living.{atoms_of}
use Rattle.linked.specs.Reaching.{Reached}
use Rattle.linked.proofs.reaching.Reach.swept.Given as goal

abbrev pub invariant-loop-j : goal.invariant-loop-j
invariant-loop-j l = Reached (atoms_of l.self.live.now) l.self.without l.self.from l.names.0 × (l.self.names.0 ≤ l.names.0)
