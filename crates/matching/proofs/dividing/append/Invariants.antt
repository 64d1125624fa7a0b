use Rattle.std.proofs.Common.{◌≡◌, ◌+◌, ◌++◌, take}
use Rattle.linked.specs.Living.{atoms_of}
use Rattle.matching.proofs.dividing.append.Given as goal

abbrev pub invariant-loop-atom : goal.invariant-loop-atom
invariant-loop-atom l = (l.all.count ≡ l.front.count + l.atom-index) × (atoms_of l.all ≡ atoms_of l.front ++ take l.atom-index (atoms_of l.back))
