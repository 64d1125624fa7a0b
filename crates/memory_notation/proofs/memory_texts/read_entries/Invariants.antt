use Rattle.std.proofs.Common.{◌-◌, length}
use Rattle.notation.specs.Steps.{Goes}
use Rattle.memory_notation.proofs.memory_texts.read_entries.Given as goal

abbrev pub invariant-loop-entries : goal.invariant-loop-entries
invariant-loop-entries l = Goes l.initial.scan l.scan

abbrev pub decreases-loop-entries : goal.decreases-loop-entries
decreases-loop-entries l = length l.scan.text.now - l.scan.at
