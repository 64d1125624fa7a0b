-- What the search and its choices promise.
use Rattle.std.specs.Prelude.{◌≡◌, ℕ, ◌<◌, true, false, List, Some, None, Ok, Err, Option, Result}
use Rattle.claims.specs.Claims.{Pure, Atom}
use Rattle.linked.specs.Knowing.{undecided}
use Rattle.linked.specs.Propagating.{AssumedOne, Propagated}
use Rattle.linked.specs.declared.known.Known.{Known}
use Rattle.matching.specs.Rules.{Total}
use Rattle.entails.specs.Reducing.{PartSettled}
use Rattle.entails.specs.Telling.{TrialAgainst}
use Rattle.entails.specs.declared.goals.Goal.{Goal}
use Rattle.matching.specs.declared.parts.Part.{Part}
use Rattle.entails.specs.declared.stretches.Trial.{Trial}

-- a name below m of which it isn't known whether it is the same as x; or of all it is known
abbrev pub OpenWith : Known → ℕ → ℕ → Option ℕ → Type 0
OpenWith k x m (Some y) = (y < m) × (undecided k x y ≡ true)
OpenWith k x m None = (y : ℕ) → y < m → undecided k x y ≡ false

-- of two names it isn't known whether they are the same
pub record IsOpen (k : Known) (x y : ℕ) : Type 0 where
  pub x_small : x < 64
  pub y_small : y < 64
  pub unknown : undecided k x y ≡ true

-- two such names; or of any two below m it is known
abbrev pub Chosen : Known → ℕ → Option (ℕ × ℕ) → Type 0
Chosen k m (Some p) = IsOpen k p.0 p.1
Chosen k m None = Total m k

-- what is drawn from the atoms ls beyond what is known is r; None: there are no such names
abbrev pub ThenDrawn : List Atom → Option Known → Option Known → Type 0
ThenDrawn ls None r = r ≡ None
ThenDrawn ls (Some j) r = Propagated ls j r

-- r is known if the same or other p holds besides, with what is drawn then
pub record OnSide (k : Known) (p : Pure) (ls : List Atom) (r : Option Known) : Type 0 where
  pub assumed : Option Known
  pub is_assumed : AssumedOne p k assumed
  pub then-drawn : ThenDrawn ls assumed r

-- the part is settled by the rules; or a trial is against the question
abbrev pub Searched : Goal → Known → Part → Result Unit Trial → Type 0
Searched g k p (Ok u) = PartSettled g k p
Searched g k p (Err t) = TrialAgainst g t
