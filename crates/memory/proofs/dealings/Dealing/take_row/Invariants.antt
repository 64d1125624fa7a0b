use Rattle.std.proofs.Common.{◌≡◌, length}
use Rattle.memory.specs.Dealings.{rest}
use Rattle.memory.proofs.Walking.{Walked}
use Rattle.memory.proofs.dealings.Dealing.take_row.Given as goal

abbrev pub invariant-steps : goal.invariant-steps
invariant-steps l = record {
  memory : l.self.memory ≡ l.initial.self.memory;
  walked : Walked l.initial.place.0 l.to.0 (rest l.initial.self) l.place.0 (rest l.self);
}

abbrev pub decreases-steps : goal.decreases-steps
decreases-steps l = length (rest l.self)
