-- What the answer for a case says.
use Rattle.std.specs.Prelude.{ℕ, List, vec_items}
use Rattle.claims.specs.Claims.{Claim}
use Rattle.claims.specs.Memory.{Memory, Says}
use Rattle.memory.specs.Checking.{Asked}
use Rattle.memory.specs.Judging.{FailsFor}
use Rattle.memory.specs.declared.deals.Why.{Why}
use Rattle.memory_notation.specs.declared.cases.Case.{Case}
use Rattle.memory_notation.specs.declared.answers.Answer.{Answer}
use Rattle.memory_notation.specs.declared.answers.Answer.TheVariants.{Holds, Fails, Refused}

-- the words of the case ask whether a claim holds of a memory, and P holds of these
abbrev pub AsksSo : Case → (Memory → Claim → Type 0) → Type 0
AsksSo c P = (w : List ℕ) × Asked (vec_items c.claim) (vec_items c.names) (vec_items c.memory) w P

-- what each answer says; the sentence itself is only tested
abbrev pub Answered : Case → Answer → Type 0
Answered c Holds = AsksSo c (λ m k. Says (vec_items c.names) m k)
Answered c (Fails s) = (why : Why) × AsksSo c (λ m k. FailsFor (vec_items c.names) m k why)
Answered c Refused = Unit {0}
