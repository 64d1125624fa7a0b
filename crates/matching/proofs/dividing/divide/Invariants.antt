use Rattle.std.proofs.Common.{map}
use Rattle.matching.specs.Using.{mark}
use Rattle.matching.proofs.Lists.{DividedTo}
use Rattle.matching.proofs.dividing.divide.Given as goal

abbrev pub invariant-loop-j : goal.invariant-loop-j
invariant-loop-j l = DividedTo l.list (map mark l.marks.marks) l.free l.marked l.j
