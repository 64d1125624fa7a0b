-- What reducing a part of a question promises.
use Rattle.std.specs.Prelude.{◌<◌, ◌≤◌, Some}
use Rattle.linked.specs.Living.{Lives}
use Rattle.linked.specs.declared.known.Known.{Known}
use Rattle.matching.specs.Rules.{Closed}
use Rattle.matching.specs.Parting.{own_of, wanted_of, whole_of, size}
use Rattle.entails.specs.Telling.{first_of, second_of}
use Rattle.entails.specs.declared.goals.Goal.{Goal}
use Rattle.matching.specs.declared.parts.Part.{Part}
use Rattle.entails.specs.declared.reducing.Reduced.{Reduced}
use Rattle.entails.specs.declared.reducing.Reduced.TheVariants.{Done, Left, Split}

-- it is settled that the part's own atoms are what its wanted ones say
abbrev pub PartSettled : Goal → Known → Part → Type 0
PartSettled g k p = Closed g.names (first_of g) (second_of g) (Some k) (own_of p) (wanted_of p)

-- the part has all of the first claim's atoms
abbrev pub PartOf : Goal → Known → Part → Type 0
PartOf g k p = Lives k (first_of g).atoms (whole_of p)

-- one part is left, not larger
pub record OneLeft (g : Goal) (k : Known) (p q : Part) : Type 0 where
  pub part_of : PartOf g k q
  pub settles : PartSettled g k q → PartSettled g k p
  pub no_more : size q ≤ size p

-- two parts are left, both smaller
pub record TwoLeft (g : Goal) (k : Known) (p a b : Part) : Type 0 where
  pub first_part : PartOf g k a
  pub second_part : PartOf g k b
  pub settles : PartSettled g k a → PartSettled g k b → PartSettled g k p
  pub first_smaller : size a < size p
  pub second_smaller : size b < size p

abbrev pub Reduces : Goal → Known → Part → Reduced → Type 0
Reduces g k p Done = PartSettled g k p
Reduces g k p (Left q) = OneLeft g k p q
Reduces g k p (Split a b) = TwoLeft g k p a b

-- the part is the whole question, by other names and without rows that are known to be empty
pub record Whole (g : Goal) (k : Known) (p : Part) : Type 0 where
  pub part_of : PartOf g k p
  pub own : Lives k (first_of g).atoms (own_of p)
  pub wanted : Lives k (second_of g).atoms (wanted_of p)
