-- The atoms that are not used up, and what using some of them promises.
use Rattle.std.specs.Prelude.{◌≡◌, ℕ, ◌<◌, Bool, false, cond, T, List, get_or, map, take, Some, None, Option, Ok, Err, Result, ◌≢◌, slice_index_or}
use Rattle.claims.specs.Claims.{Atom, cell, row}
use Rattle.claims.specs.Memory.{Names, at, Memory, sound}
use Rattle.memory.specs.Marks.{unmarked}
use Rattle.memory.specs.Owners.{start, Owns}
use Rattle.linked.specs.Knowing.{Agrees}
use Rattle.linked.specs.Living.{atoms_of}
use Rattle.linked.specs.Reaching.{Barred}
use Rattle.linked.specs.declared.known.Known.{Known}
use Rattle.matching.specs.Rules.{MadeOf, Made}
use Rattle.matching.specs.declared.rests.Rest.{Rest}
use Rattle.matching.specs.declared.rests.DeadEnd.{DeadEnd}
use Rattle.matching.specs.declared.used.Used.{Used}
use Rattle.matching.specs.declared.steps.Next.{Next}
use Rattle.matching.specs.declared.steps.Next.TheVariants.{Over, Stuck}

-- a mark is 1 where an atom is used
abbrev pub mark : Bool → ℕ
mark used = cond used 1 0

-- those of the first `own` atoms that are still there
abbrev pub free : ℕ → Used → List Atom → List Atom
free own u ls = unmarked (map mark u.marks) (take own ls)

-- the atom number e is still there
abbrev pub IsFree : Used → ℕ → Type 0
IsFree u e = slice_index_or u.marks e false ≡ false

-- all atoms, used or not
abbrev pub all_of : Rest → List Atom
all_of r = atoms_of r.live.now

-- those that may still be used
abbrev pub left_of : Rest → List Atom
left_of r = free r.own r.used (all_of r)

-- q is a rest of the same atoms as r, with the same knowledge of names
pub record LeftOf (r q : Rest) : Type 0 where
  pub live : q.live.now ≡ r.live.now
  pub own : q.own ≡ r.own
  pub known : q.known.now ≡ r.known.now

-- wherever the atom number e has the cell at the place of t, u stands for another
abbrev pub OtherThan : Known → List Atom → ℕ → ℕ → ℕ → Type 0
OtherThan k ls e t u =
    (n : Names) (m : Memory) → T (sound m) → Agrees k n → Owns n ls m e (at n t) → at n u ≢ at n t

-- the atom number e is still there, and begins at s
pub record Begins (r : Rest) (s e : ℕ) : Type 0 where
  pub within : e < r.own
  pub there : IsFree r.used e
  pub start_is : start (slice_index_or (all_of r) e (row 0 0)) ≡ s

-- and the place of t is never one of its cells
pub record Goes_on (r : Rest) (s t e : ℕ) : Type 0 where
  pub begins : Begins r s e
  pub outside : Barred r.known.now (all_of r) e t

-- what comes next on the way of a row from s to t
abbrev pub ComesNext : Rest → ℕ → ℕ → Next → Type 0
ComesNext r s t (Over e) = Goes_on r s t e
ComesNext r s t Stuck = Unit {0}

-- q is left of r when the row from s to t is made of atoms that were there
abbrev pub RowUsed : Rest → ℕ → ℕ → Result Rest DeadEnd → Type 0
RowUsed r s t (Ok q) = LeftOf r q × MadeOf r.known.now (all_of r) t s (left_of r) (left_of q)
RowUsed r s t (Err _) = Unit {0}

-- the atom number e is the cell from x to y, and still there
pub record CellThere (r : Rest) (x y e : ℕ) : Type 0 where
  pub within : e < r.own
  pub there : IsFree r.used e
  pub is : get_or (all_of r) e (row 0 0) ≡ cell x y

-- q is left of r when the atom is made of atoms that were there
abbrev pub AtomUsed : Rest → Atom → Option Rest → Type 0
AtomUsed r a (Some q) = LeftOf r q × Made r.known.now (all_of r) a (left_of r) (left_of q)
AtomUsed r a None = Unit {0}
