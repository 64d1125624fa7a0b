-- What an answer says.
use Rattle.std.specs.Prelude.{◌≡◌, ◌≤◌, length, vec_items}
use Rattle.claims.specs.Claims.{Question}
use Rattle.claims.specs.Memory.{Memory}
use Rattle.memory.specs.Marks.{memory_words}
use Rattle.models.specs.Follows.{DoesFollow, Against, enough}
use Rattle.answers.specs.declared.instances.Instance.{Instance}
use Rattle.answers.specs.declared.asking.Answer.{Answer}
use Rattle.answers.specs.declared.asking.Answer.TheVariants.{Follows, Fails}

-- the first claim holds of the instance, and the second does not; and its cells are few
pub record Refutes (q : Question) (i : Instance) : Type 0 where
  pub memory : Memory
  pub words : vec_items i.memory ≡ memory_words memory
  pub against : Against q.names q.first q.second (vec_items i.names) memory
  pub few : length memory ≤ enough (length q.first.atoms)

-- the second claim holds wherever the first does; or the instance shows that it doesn't
abbrev pub Answers : Question → Answer → Type 0
Answers q Follows = DoesFollow q.first q.second
Answers q (Fails i) = Refutes q i
