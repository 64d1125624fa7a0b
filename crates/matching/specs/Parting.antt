-- Parts of a question, and what is done with them.
use Rattle.std.specs.Prelude.{◌≡◌, ℕ, ◌+◌, ◌<◌, ◌≤◌, ◌↔◌, List, map, ◌++◌, Some, None, Option}
use Rattle.claims.specs.Claims.{Atom, Claim}
use Rattle.claims.specs.Memory.{Names, Memory, Parts, Dealt}
use Rattle.memory.specs.Marks.{unmarked}
use Rattle.linked.specs.Living.{Lives, atoms_of}
use Rattle.linked.specs.declared.atoms.Live.{Live}
use Rattle.linked.specs.declared.known.Known.{Known}
use Rattle.matching.specs.Rules.{Closed}
use Rattle.matching.specs.Using.{mark}
use Rattle.matching.specs.declared.parts.Part.{Part}
use Rattle.matching.specs.declared.used.Used.{Used}

abbrev pub own_of : Part → List Atom
own_of p = atoms_of p.own

abbrev pub wanted_of : Part → List Atom
wanted_of p = atoms_of p.wanted

-- all atoms of the first claim, the part's own in front
abbrev pub whole_of : Part → List Atom
whole_of p = atoms_of p.own ++ atoms_of p.others

-- how much there is to do
abbrev pub size : Part → ℕ
size p = p.own.count + p.wanted.count

-- the same memories are dealt out to both
abbrev pub Regrouped : List Atom → List Atom → Type 0
Regrouped ls rs = (n : Names) (m : Memory) → Dealt n ls m ↔ Dealt n rs m

-- whatever the claims are whose live atoms are ls: if it is settled that qs meets vs, then it is that os meets ws
abbrev pub ComesTo : Known → List Atom → List Atom → List Atom → List Atom → List Atom → Type 0
ComesTo k ls os ws qs vs =
    (m : ℕ) (c d : Claim) → Lives k c.atoms ls → Closed m c d (Some k) qs vs → Closed m c d (Some k) os ws

-- a list of atoms in those that are not marked and those that are
pub record Divided (l : Live) (u : Used) (a b : Live) : Type 0 where
  pub parts : Parts (atoms_of a) (atoms_of b) (atoms_of l)
  pub free : atoms_of a ≡ unmarked (map mark u.marks) (atoms_of l)
  pub count : a.count + b.count ≡ l.count

-- by the names that stand for them, and without rows that are known to be empty
pub record Renamed (k : Known) (p q : Part) : Type 0 where
  pub own : Lives k (own_of p) (own_of q)
  pub wanted : Lives k (wanted_of p) (wanted_of q)
  pub whole : Lives k (whole_of p) (whole_of q)
  pub no_more : size q ≤ size p

-- without what is found
pub record Cancelled (k : Known) (p q : Part) : Type 0 where
  pub comes_to : ComesTo k (whole_of p) (own_of p) (wanted_of p) (own_of q) (wanted_of q)
  pub whole : Regrouped (whole_of p) (whole_of q)
  pub no_more : size q ≤ size p

-- the part r of p has the own and wanted atoms o and w, and those of p with the rest are its others
pub record Only (p : Part) (o rest w : Live) (r : Part) : Type 0 where
  pub own : r.own ≡ o
  pub wanted : r.wanted ≡ w
  pub others : atoms_of r.others ≡ atoms_of p.others ++ atoms_of rest

-- in two parts, both smaller
pub record Cut (p a b : Part) : Type 0 where
  pub own : Parts (own_of a) (own_of b) (own_of p)
  pub wanted : Parts (wanted_of a) (wanted_of b) (wanted_of p)
  pub first_whole : Regrouped (whole_of p) (whole_of a)
  pub second_whole : Regrouped (whole_of p) (whole_of b)
  pub first_smaller : size a < size p
  pub second_smaller : size b < size p

abbrev pub CutSo : Part → Option (Part × Part) → Type 0
CutSo p (Some ab) = Cut p ab.0 ab.1
CutSo p None = Unit {0}
