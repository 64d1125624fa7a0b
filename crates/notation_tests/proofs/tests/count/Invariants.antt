use Rattle.notation.specs.Reading.{left}
use Rattle.notation_tests.proofs.tests.count.Given as goal

abbrev pub decreases-loop-next : goal.decreases-loop-next
decreases-loop-next l = left l.reader
