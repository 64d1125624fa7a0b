-- What is found out about a claim: that it can't be, or what is known and whether something forks.
use Rattle.std.specs.Prelude.{ℕ, T}
use Rattle.claims.specs.Claims.{Claim}
use Rattle.claims.specs.Memory.{Names, Memory, sound, Says}
use Rattle.linked.specs.Propagating.{LearntKnown}
use Rattle.linked.specs.Generics.{Fork, Generic}
use Rattle.linked.specs.declared.settle.Outcome.{Outcome}
use Rattle.linked.specs.declared.settle.Outcome.TheVariants.{Never, Forks, Holds}

-- of a claim over m names
abbrev pub ComesOut : ℕ → Claim → Outcome → Type 0
ComesOut m c Never = (n : Names) (w : Memory) → T (sound w) → Says n w c → ⊥
ComesOut m c (Forks k) = LearntKnown c.pures c.atoms k × Fork k c.atoms
ComesOut m c (Holds k) = LearntKnown c.pures c.atoms k × Generic m k c
