use Rattle.std.proofs.Common.{◌-◌, length}
use Rattle.notation.proofs.scans.Scan.recovered.Given as goal

abbrev pub decreases-loop-start : goal.decreases-loop-start
decreases-loop-start l = length l.self.text.now - l.self.at
