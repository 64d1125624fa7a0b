use Rattle.entails.specs.Telling.{ToldAgainst}
use Rattle.entails.proofs.goals.Goal.round.Given as goal

abbrev pub invariant-loop-rows : goal.invariant-loop-rows
invariant-loop-rows l = ToldAgainst l.self l.told
