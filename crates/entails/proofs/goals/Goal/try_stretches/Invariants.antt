use Rattle.entails.specs.Trying.{StretchesTried}
use Rattle.entails.proofs.goals.Goal.try_stretches.Given as goal

abbrev pub invariant-loop-through : goal.invariant-loop-through
invariant-loop-through l = StretchesTried l.self l.names l.row l.through
