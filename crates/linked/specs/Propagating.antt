-- What propagation promises.
use Rattle.std.specs.Prelude.{T, ◌↔◌, List, Some, None, Option}
use Rattle.std.specs.List.{AllByRecursion}
use Rattle.claims.specs.Claims.{Pure, Atom}
use Rattle.claims.specs.Memory.{Names, Memory, sound, Dealt, PureHolds}
use Rattle.linked.specs.Knowing.{Agrees}
use Rattle.linked.specs.declared.known.Known.{Known}

-- names that agree with k and have a memory for the atoms agree with j, which knows all that k knows
pub record Learns (cs : List Atom) (k j : Known) : Type 0 where
  pub forth : (n : Names) (m : Memory) → T (sound m) → Dealt n cs m → Agrees k n → Agrees j n
  pub back : (n : Names) → Agrees j n → Agrees k n

-- what is known then; or there are no such names and memory
abbrev pub Propagated : List Atom → Known → Option Known → Type 0
Propagated cs k (Some j) = Learns cs k j
Propagated cs k None = (n : Names) (m : Memory) → T (sound m) → Dealt n cs m → Agrees k n → ⊥

-- exactly the names that agreed and of which the same or other holds; or there are none
abbrev pub AssumedOne : Pure → Known → Option Known → Type 0
AssumedOne p k (Some j) = (n : Names) → Agrees j n ↔ (Agrees k n × PureHolds n p)
AssumedOne p k None = (n : Names) → Agrees k n → PureHolds n p → ⊥

-- exactly the names that agreed and of which all of these hold; or there are none
abbrev pub Assumed : List Pure → Known → Option Known → Type 0
Assumed ps k (Some j) = (n : Names) → Agrees j n ↔ (Agrees k n × AllByRecursion (PureHolds n) ps)
Assumed ps k None = (n : Names) → Agrees k n → AllByRecursion (PureHolds n) ps → ⊥

-- names and memories of which a claim with these same and other, and these atoms, holds agree with what is known;
-- or there are none
abbrev pub Learnt : List Pure → List Atom → Option Known → Type 0
Learnt ps cs (Some k) = (n : Names) (m : Memory) → T (sound m) → AllByRecursion (PureHolds n) ps → Dealt n cs m → Agrees k n
Learnt ps cs None = (n : Names) (m : Memory) → T (sound m) → AllByRecursion (PureHolds n) ps → Dealt n cs m → ⊥

-- all names that agree with what is known meet these
abbrev pub Meets : Known → List Pure → Type 0
Meets k ps = (n : Names) → Agrees k n → AllByRecursion (PureHolds n) ps

abbrev pub AllMet : List Pure → Option Known → Type 0
AllMet ps (Some k) = Meets k ps
AllMet ps None = Unit {0}

-- both, of what is known
pub record LearntKnown (ps : List Pure) (cs : List Atom) (k : Known) : Type 0 where
  pub forth : (n : Names) (m : Memory) → T (sound m) → AllByRecursion (PureHolds n) ps → Dealt n cs m → Agrees k n
  pub back : Meets k ps
