-- What it says that memories were tried and none is against it.
use Rattle.std.specs.Prelude.{ℕ, ◌<◌, ◌≤◌, Ok, Err, Result}
use Rattle.claims.specs.Memory.{Names}
use Rattle.models.specs.Generic.{stretched}
use Rattle.models.specs.Follows.{FollowsLike}
use Rattle.linked.specs.declared.known.Known.{Known}
use Rattle.matching.specs.Rules.{StandsAt}
use Rattle.entails.specs.Telling.{first_of, second_of, NotAgainst, TrialAgainst}
use Rattle.entails.specs.declared.stretches.Trial.{Trial}
use Rattle.entails.specs.declared.goals.Goal.{Goal}

-- none of the memories is against it in which the row number i goes through a place from 1 on and below e
abbrev pub StretchesTried : Goal → Names → ℕ → ℕ → Type 0
StretchesTried g n i e = (t : ℕ) → 1 ≤ t → t < e → NotAgainst g n (stretched n (first_of g).atoms i t)

-- for names at the numbers of those that stand for them, it follows
pub record FollowsSo (g : Goal) (k : Known) : Type 0 where
  pub names : Names
  pub stand : StandsAt g.names k names
  pub follows : FollowsLike g.names names (first_of g) (second_of g)

-- it follows for names of the pattern of what is known; or a trial is against it
abbrev pub Exactly : Goal → Known → Result Unit Trial → Type 0
Exactly g k (Ok u) = FollowsSo g k
Exactly g k (Err t) = TrialAgainst g t
