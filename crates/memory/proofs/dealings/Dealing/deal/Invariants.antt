use Rattle.std.proofs.Common.{◌≡◌, map}
use Rattle.claims.specs.Meaning.{atom_of}
use Rattle.memory.specs.Dealings.{rest}
use Rattle.memory.specs.Judging.{Deals}
use Rattle.memory.proofs.dealings.Dealing.deal.Given as goal

abbrev pub invariant-loop-i : goal.invariant-loop-i
invariant-loop-i l = record {
  memory : l.self.memory ≡ l.initial.self.memory;
  deals : Deals l.names (rest l.initial.self) (map atom_of l.atoms) l.i-counter (rest l.self);
}
