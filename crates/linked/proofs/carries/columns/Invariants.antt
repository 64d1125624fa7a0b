use Rattle.linked.specs.Stands.{Columned}
use Rattle.linked.proofs.carries.columns.Given as goal

abbrev pub invariant-loop-x : goal.invariant-loop-x
invariant-loop-x l = Columned l.initial.others l.a l.b l.x l.others
