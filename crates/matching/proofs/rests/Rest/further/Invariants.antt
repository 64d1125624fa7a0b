use Rattle.std.proofs.Common.{◌≤◌}
use Rattle.matching.proofs.rests.Rest.further.Given as goal

abbrev pub invariant-loop-j : goal.invariant-loop-j
invariant-loop-j l = l.fn.names.0 ≤ l.names.0
