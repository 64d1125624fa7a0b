use Rattle.std.proofs.Common.{ℕ, ◌<◌}
use Rattle.matching.specs.Using.{IsFree}
use Rattle.matching.proofs.used.Used.covers.Given as goal

abbrev pub invariant-loop-i : goal.invariant-loop-i
invariant-loop-i l = (j : ℕ) → j < l.i → IsFree l.self j → ⊥
