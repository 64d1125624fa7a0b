use Rattle.std.proofs.Common.{◌≤◌}
use Rattle.matching.proofs.cutting.sweep.Given as goal

abbrev pub invariant-loop-atom : goal.invariant-loop-atom
invariant-loop-atom l = l.fn.names.0 ≤ l.names.0
