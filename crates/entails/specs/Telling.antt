-- Names and a memory that show that a claim doesn't follow from another.
use Rattle.std.specs.Prelude.{◌*◌, ◌≤◌, Bool, true, false, T, List, length, take, Some, None, Ok, Err, Option, Result}
use Rattle.claims.specs.Claims as claims
use Rattle.claims.specs.Memory.{Names, Memory, sound, Says}
use Rattle.claims.specs.Decoding.{decoded_claim}
use Rattle.memory.specs.Marks.{memory_of}
use Rattle.models.specs.Generic.{generic, stretched}
use Rattle.models.specs.Follows.{Against, enough}
use Rattle.entails.specs.declared.stretches.Stretch.{Stretch}
use Rattle.entails.specs.declared.stretches.Trial.{Trial}
use Rattle.entails.specs.declared.told.Told.{Told}
use Rattle.entails.specs.declared.goals.Goal.{Goal}

-- the memory whose words are told
abbrev pub told_memory : Told → Memory
told_memory t = memory_of (take (2 * t.count) t.cells)

-- the two claims of a question
abbrev pub first_of : Goal → claims.Claim
first_of g = decoded_claim g.first

abbrev pub second_of : Goal → claims.Claim
second_of g = decoded_claim g.second

abbrev pub question_of : Goal → claims.Question
question_of g = record { names = g.names; first = first_of g; second = second_of g }

-- the second claim holds of these names and this memory if the first does
abbrev pub NotAgainst : Goal → Names → Memory → Type 0
NotAgainst g n m = T (sound m) → Says n m (first_of g) → Says n m (second_of g)

-- the first claim holds of them, and the second does not
pub record IsAgainst (g : Goal) (n : Names) (m : Memory) : Type 0 where
  pub sound_m : T (sound m)
  pub says : Says n m (first_of g)
  pub not : Says n m (second_of g) → ⊥

-- they are against it, or not
abbrev pub JudgedAgainst : Goal → Names → Memory → Bool → Type 0
JudgedAgainst g n m true = IsAgainst g n m
JudgedAgainst g n m false = NotAgainst g n m

-- the told names and memory are against it, with no more than enough cells
pub record ToldAgainst (g : Goal) (t : Told) : Type 0 where
  pub against : Against g.names (first_of g) (second_of g) (take g.names t.names) (told_memory t)
  pub small : t.count ≤ enough (length (first_of g).atoms)

-- the memory that is tried: the generic one, or the one in which a row goes through a place
abbrev pub tried : Names → List claims.Atom → Option Stretch → Memory
tried n cs None = generic n cs
tried n cs (Some s) = stretched n cs s.row s.through

-- the names and the memory of a trial are against it
abbrev pub TrialAgainst : Goal → Trial → Type 0
TrialAgainst g t =
    Against g.names (first_of g) (second_of g) (take g.names t.names) (tried t.names (first_of g).atoms t.stretch)

-- this memory isn't against it; or a trial is
abbrev pub TriedOne : Goal → Names → Memory → Result Unit Trial → Type 0
TriedOne g n m (Ok u) = NotAgainst g n m
TriedOne g n m (Err t) = TrialAgainst g t
