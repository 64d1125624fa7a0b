use Rattle.std.proofs.Common.{◌≤◌, ◌++◌, drop}
use Rattle.linked.specs.Living.{atoms_of}
use Rattle.matching.specs.Parting.{wanted_of}
use Rattle.matching.proofs.Parting.{LeftTo}
use Rattle.matching.proofs.parts.Part.cancelled.Given as goal

abbrev pub invariant-loop-atom : goal.invariant-loop-atom
invariant-loop-atom l =
    (l.wanted.count ≤ l.atom-index) ×
    LeftTo l.known l.self.own (atoms_of l.self.others) (wanted_of l.self) l.rest (atoms_of l.wanted ++ drop l.atom-index (wanted_of l.self))
