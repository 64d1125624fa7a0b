use Rattle.std.proofs.Common.{◌-◌, length}
use Rattle.notation.specs.Steps.{Goes}
use Rattle.notation.proofs.scans.Scan.terms.Given as goal

abbrev pub invariant-loop-draft : goal.invariant-loop-draft
invariant-loop-draft l = Goes l.initial.self l.self

abbrev pub decreases-loop-draft : goal.decreases-loop-draft
decreases-loop-draft l = length l.self.text.now - l.self.at
