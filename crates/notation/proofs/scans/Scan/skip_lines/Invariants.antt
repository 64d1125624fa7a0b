use Rattle.std.proofs.Common.{◌-◌, length}
use Rattle.notation.specs.Steps.{Goes}
use Rattle.notation.proofs.scans.Scan.skip_lines.Given as goal

abbrev pub invariant-loop-next : goal.invariant-loop-next
invariant-loop-next l = Goes l.initial.self l.self × Goes l.self l.next

abbrev pub decreases-loop-next : goal.decreases-loop-next
decreases-loop-next l = length l.next.text.now - l.next.at
