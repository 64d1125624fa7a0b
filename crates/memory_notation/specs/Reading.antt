-- What reading the cases of a text promises.
use Rattle.std.specs.Prelude.{◌≡◌, ℕ, ◌-◌, ◌<◌, length, Some, None, Ok, Err, vec_items, Option, Result}
use Rattle.std.specs.declared.alloc.AllocError.{AllocError}
use Rattle.claims.specs.Meaning.{claim_of}
use Rattle.memory.specs.Checking.{IsClaim}
use Rattle.memory_notation.specs.declared.cases.Case.{Case}
use Rattle.memory_notation.specs.declared.cases.Cases.{Cases}

-- the words of the claim are those of its parts, over the names that were numbered, and each of these has a place
pub record WellRead (c : Case) : Type 0 where
  pub claim_is : IsClaim (vec_items c.claim) c.asked.question.names (claim_of c.asked.question.first)
  pub names_are : length (vec_items c.names) ≡ c.asked.question.names

-- each case of a text is one that is well read
abbrev pub Gives : {E : Type 0} → Result (Option (Result Case E)) AllocError → Type 0
Gives (Ok (Some (Ok c))) = WellRead c
Gives (Ok (Some (Err e))) = Unit {0}
Gives (Ok None) = Unit {0}
Gives (Err e) = Unit {0}

-- how much of the text is left
abbrev pub left : Cases → ℕ
left r = length r.cursor.text.now - r.cursor.at

-- unless it is the end, less of the text is left
abbrev pub Advances : {E : Type 0} → Cases → Result (Option (Result Case E)) AllocError → Cases → Type 0
Advances before (Ok (Some x)) after = left after < left before
Advances before (Ok None) after = Unit {0}
Advances before (Err e) after = Unit {0}
