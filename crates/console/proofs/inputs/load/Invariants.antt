use Rattle.std.proofs.Common.{◌≡◌, ◌-◌, ◌^◌, ◌≤◌, length, vec_len}
use Rattle.console.proofs.inputs.load.Given as goal

abbrev pub invariant-loop-all : goal.invariant-loop-all
invariant-loop-all g l = (vec_len l.all ≤ l.most) × (length l.part ≡ 65536)

-- no vector is longer than a number can say, whatever the limit
abbrev pub decreases-loop-all : goal.decreases-loop-all
decreases-loop-all g l = 2 ^ 64 - vec_len l.all
