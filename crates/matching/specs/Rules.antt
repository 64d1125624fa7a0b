-- Why the second claim holds wherever the first does and names agree with what is known: the rules by which a search
-- may say so. That they are right is one theorem (`closed_holds`); which of them are tried, and in which order, is free.
use Rattle.std.specs.Prelude.{◌≡◌, ℕ, ◌<◌, true, false, T, ◌⊎◌, List, [], length, Some, None, Option, slice_index_or}
use Rattle.std.specs.List.{AllByRecursion}
use Rattle.claims.specs.Claims.{Pure, same, other, Atom, cell, row, Claim}
use Rattle.claims.specs.Memory.{Names, at, Memory, sound, Parts, PureHolds, Dealt, Says}
use Rattle.memory.specs.Owners.{start, end}
use Rattle.memory.specs.Taking.{Put}
use Rattle.models.specs.Follows.{FollowsLike}
use Rattle.linked.specs.Stands.{root}
use Rattle.linked.specs.Knowing.{Agrees, known_same, known_other, undecided, Joined, Parted}
use Rattle.linked.specs.Living.{Lives}
use Rattle.linked.specs.Reaching.{Barred}
use Rattle.linked.specs.Propagating.{Propagated}
use Rattle.linked.specs.declared.known.Known.{Known}

-- the same or other is known
abbrev pub PureKnown : Known → Pure → Type 0
PureKnown k (same x y) = known_same k x y ≡ true
PureKnown k (other x y) = known_other k x y ≡ true

-- A row from s to t is made of atoms among rs, each once, and leaves the others, qs. They stand one behind the other, and the
-- place of t is never one of their cells: else the row would have to stop there. AllByRecursion of the claim's atoms are ls.
pub data MadeOf (k : Known) (ls : List Atom) (t : ℕ) : ℕ → List Atom → List Atom → Type 0 where
  arrived : {s : ℕ} {rs : List Atom} → s ≡ t → MadeOf k ls t s rs rs
  over :
      {s : ℕ} {a : Atom} {rs qs os : List Atom} (e : ℕ) → e < length ls → slice_index_or ls e (row 0 0) ≡ a → start a ≡ s → Put a qs rs →
      Barred k ls e t → MadeOf k ls t (end a) qs os → MadeOf k ls t s rs os

-- The atom w of the second claim, by the names that stand for its ends, is made of atoms among os, and leaves qs.
pub data Made (k : Known) (ls : List Atom) : Atom → List Atom → List Atom → Type 0 where
  made_cell : {x y : ℕ} {os qs : List Atom} → Put (cell x y) qs os → Made k ls (cell x y) os qs
  made_row : {s t : ℕ} {os qs : List Atom} → MadeOf k ls t s os qs → Made k ls (row s t) os qs

-- each name below m at the number of the one that stands for it, and all names at places below m
pub record StandsAt (m : ℕ) (k : Known) (g : Names) : Type 0 where
  pub rooted : (x : ℕ) → x < m → at g x ≡ root k.stands x
  pub below : AllByRecursion (λ p. p < m) g

-- of any two names below m it is known whether they are the same
abbrev pub Total : ℕ → Known → Type 0
Total m k = (x y : ℕ) → x < m → y < m → undecided k x y ≡ false

-- Over m names, with the first claim c and the second d: wherever names agree with what is known (None: there are no such
-- names), d holds, or the part of memory that is the atoms' os is also the atoms' ws. AllByRecursion of d is settled when that is so of
-- the atoms of c and those of d.
pub data Closed (m : ℕ) (c d : Claim) : Option Known → List Atom → List Atom → Type 0 where
  no_names : {os ws : List Atom} → Closed m c d None os ws
  -- by what can be drawn from the first claim's cells and rows
  drawn :
      {k : Known} {r : Option Known} {os ws : List Atom} → Propagated c.atoms k r → Closed m c d r os ws →
      Closed m c d (Some k) os ws
  -- by two cases: x and y are the same, or they are other
  cases :
      {k : Known} {r s : Option Known} {os ws : List Atom} (x y : ℕ) → Joined k x y r → Parted k x y s → Closed m c d r os ws →
      Closed m c d s os ws → Closed m c d (Some k) os ws
  -- with other names for the same, and without rows that are empty
  renamed :
      {k : Known} {os ps ws vs : List Atom} → Lives k os ps → Lives k ws vs → Closed m c d (Some k) ps vs →
      Closed m c d (Some k) os ws
  -- an atom of the second claim is found
  taken :
      {k : Known} {ls os qs ws vs : List Atom} {w : Atom} → Lives k c.atoms ls → Put w vs ws → Made k ls w os qs →
      Closed m c d (Some k) qs vs → Closed m c d (Some k) os ws
  -- in two parts
  in_parts :
      {k : Known} {os ps qs ws us vs : List Atom} → Parts ps qs os → Parts us vs ws → Closed m c d (Some k) ps us →
      Closed m c d (Some k) qs vs → Closed m c d (Some k) os ws
  -- nothing is left, and the second claim's same and other are known
  nothing_left : {k : Known} → AllByRecursion (PureKnown k) d.pures → Closed m c d (Some k) [] []
  -- all is known of the names, and for this one pattern it follows
  pattern :
      {k : Known} {g : Names} {os ws : List Atom} → Total m k → StandsAt m k g → FollowsLike m g c d →
      Closed m c d (Some k) os ws

-- d holds of these names and this memory; or its same and other hold, and the part that is the atoms' os is also the atoms' ws
abbrev pub Met : Claim → List Atom → List Atom → Names → Memory → Type 0
Met d os ws n m =
    Says n m d ⊎ (AllByRecursion (PureHolds n) d.pures × ((p e : Memory) → Parts p e m → Dealt n os p → Dealt n ws p))

-- what the rules say
abbrev pub HoldsFor : Claim → Claim → Option Known → List Atom → List Atom → Type 0
HoldsFor c d None os ws = Unit {0}
HoldsFor c d (Some k) os ws = (n : Names) (m : Memory) → T (sound m) → Agrees k n → Says n m c → Met d os ws n m
