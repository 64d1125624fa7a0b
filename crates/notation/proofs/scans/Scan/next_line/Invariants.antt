use Rattle.std.proofs.Common.{◌-◌, length}
use Rattle.notation.proofs.scans.Scan.next_line.Given as goal

abbrev pub decreases-loop : goal.decreases-loop
decreases-loop l = length l.self.text.now - l.self.at
