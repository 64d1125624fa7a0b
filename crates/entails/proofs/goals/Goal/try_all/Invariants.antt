use Rattle.std.proofs.Common.{ℕ, ◌+◌, ◌<◌}
use Rattle.entails.specs.Trying.{StretchesTried}
use Rattle.entails.proofs.goals.Goal.try_all.Given as goal

abbrev pub invariant-loop-row : goal.invariant-loop-row
invariant-loop-row l = (i : ℕ) → i < l.row → StretchesTried l.self l.names i (l.self.names + 1)
