use Rattle.std.proofs.Common.{◌-◌, length}
use Rattle.memory_notation.proofs.cases.recovered.Given as goal

abbrev pub decreases-loop : goal.decreases-loop
decreases-loop l = length l.scan.text.now - l.scan.at
