use Rattle.std.proofs.Common.{◌↔◌, map, take}
use Rattle.std.specs.List.{AllByRecursion}
use Rattle.claims.specs.Memory.{Names, PureHolds}
use Rattle.claims.specs.Meaning.{pure_of}
use Rattle.linked.specs.Knowing.{Agrees}
use Rattle.linked.proofs.assume.assume.Given as goal

abbrev pub invariant-loop-pure : goal.invariant-loop-pure
invariant-loop-pure l =
    (n : Names) → Agrees l.known n ↔ (Agrees l.initial.known n × AllByRecursion (PureHolds n) (map pure_of (take l.pure-index l.pures)))
