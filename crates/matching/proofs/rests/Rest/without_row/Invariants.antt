use Rattle.std.proofs.Common.{List, length}
use Rattle.claims.specs.Claims.{Atom}
use Rattle.matching.specs.Rules.{MadeOf}
use Rattle.matching.specs.Using.{all_of, left_of, LeftOf}
use Rattle.matching.proofs.rests.Rest.without_row.Given as goal

abbrev pub invariant-loop-at : goal.invariant-loop-at
invariant-loop-at l =
    LeftOf l.self l.rest ×
    ((os : List Atom) → MadeOf l.self.known.now (all_of l.self) l.t l.at (left_of l.rest) os →
    MadeOf l.self.known.now (all_of l.self) l.t l.fn.s (left_of l.self) os)

-- each turn uses one more
abbrev pub decreases-loop-at : goal.decreases-loop-at
decreases-loop-at l = length (left_of l.rest)
