use Rattle.std.proofs.Common.{◌≡◌, ◌<◌}
use Rattle.linked.specs.Stands.{root}
use Rattle.linked.proofs.known.Known.find.Given as goal

abbrev pub invariant-loop-at : goal.invariant-loop-at
invariant-loop-at l = (l.at < 64) × (root l.self.stands l.at ≡ root l.self.stands l.initial.x)

abbrev pub decreases-loop-at : goal.decreases-loop-at
decreases-loop-at l = l.at
