use Rattle.entails.specs.Telling.{ToldAgainst}
use Rattle.entails.proofs.goals.Goal.shrink.Given as goal

abbrev pub invariant-loop-size : goal.invariant-loop-size
invariant-loop-size l = ToldAgainst l.self l.told
