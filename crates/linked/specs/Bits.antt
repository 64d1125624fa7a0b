-- Sets of names as bits.
use Rattle.std.specs.Prelude.{ℕ, ◌-◌, ◌/◌, ◌%◌, ◌^◌, Bool, cond, ◌==◌, nat_lt}
use Rattle.linked.specs.declared.bits.NameSet.{NameSet}

-- bit k of the number w is 1
abbrev pub bit : ℕ → ℕ → Bool
bit w k = w / 2 ^ k % 2 == 1

-- the name x is in the set s
unfoldable pub has : NameSet → ℕ → Bool
has s x = cond (nat_lt x 32) (bit s.low x) (bit s.high (x - 32))
