use Rattle.std.proofs.Common.{◌-◌, length}
use Rattle.notation.specs.Steps.{Goes}
use Rattle.memory_notation.proofs.claim_texts.parts.Given as goal

abbrev pub invariant-loop-draft : goal.invariant-loop-draft
invariant-loop-draft l = Goes l.initial.scan l.scan

abbrev pub decreases-loop-draft : goal.decreases-loop-draft
decreases-loop-draft l = length l.scan.text.now - l.scan.at
