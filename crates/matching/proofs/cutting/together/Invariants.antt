use Rattle.std.proofs.Common.{◌-◌, ◌^◌}
use Rattle.matching.proofs.cutting.together.Given as goal

-- each round but the last finds one more name
abbrev pub decreases-again : goal.decreases-again
decreases-again l = 2 ^ 64 - l.names.0
