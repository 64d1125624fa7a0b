-- Where nothing forks, there is a memory: each class of names at the number of the one that stands for it, and one cell
-- for each atom that isn't known to be empty.
use Rattle.std.specs.Prelude.{◌≡◌, ℕ, ◌<◌, ◌≤◌, Bool, true, false, not, T, List, map, length, slice_index_or}
use Rattle.std.specs.List.{range_with_len, AllByRecursion}
use Rattle.claims.specs.Claims.{Pure, Atom, cell, row, Claim}
use Rattle.claims.specs.Memory.{Names, at, sound, Says}
use Rattle.claims.specs.Words.{PureBelow, AtomBelow}
use Rattle.memory.specs.Owners.{start}
use Rattle.models.specs.Generic.{generic}
use Rattle.linked.specs.Stands.{root}
use Rattle.linked.specs.Knowing.{Agrees, known_same}
use Rattle.linked.specs.Propagating.{Meets}
use Rattle.linked.specs.declared.known.Known.{Known}

-- not known to be empty: a cell, or a row whose ends are not known to be the same
abbrev pub live : Known → Atom → Bool
live k (cell x y) = true
live k (row x y) = not (known_same k x y)

-- the atom number i isn't known to be empty, and x stands for the name where it begins
pub record GoesOut (k : Known) (cs : List Atom) (x i : ℕ) : Type 0 where
  pub one : i < length cs
  pub full : live k (slice_index_or cs i (row 0 0)) ≡ true
  pub from : root k.stands (start (slice_index_or cs i (row 0 0))) ≡ x

-- two atoms that are not known to be empty go out from one class of names, or one goes out from nowhere
pub data Fork (k : Known) (cs : List Atom) : Type 0 where
  two : (x i j : ℕ) → i < j → GoesOut k cs x i → GoesOut k cs x j → Fork k cs
  from_nowhere : (i : ℕ) → GoesOut k cs 0 i → Fork k cs

-- does nothing fork?
abbrev pub Forkless : Known → List Atom → Bool → Type 0
Forkless k cs true = Fork k cs → ⊥
Forkless k cs false = Fork k cs

-- m names, each at the number of the one that stands for it
abbrev pub first_numbers : ℕ → Known → Names
first_numbers m k = map (root k.stands) (range_with_len 0 m)

-- The claim holds of these m names and their generic memory. They are the first of 64 that agree with what is known, and
-- are the same only where that is known.
pub record Generic (m : ℕ) (k : Known) (c : Claim) : Type 0 where
  pub says : Says (first_numbers m k) (generic (first_numbers m k) c.atoms) c
  pub is_sound : T (sound (generic (first_numbers m k) c.atoms))
  pub agrees : Agrees k (first_numbers 64 k)
  pub only_known : (x y : ℕ) → x < m → y < m → at (first_numbers m k) x ≡ at (first_numbers m k) y → known_same k x y ≡ true

-- that is so of every claim over m names with these atoms whose same and other are known
abbrev pub HoldsGeneric : Known → List Atom → Type 0
HoldsGeneric k cs =
    (m : ℕ) (ps : List Pure) → m ≤ 64 → AllByRecursion (PureBelow m) ps → AllByRecursion (AtomBelow m) cs → Meets k ps →
    Generic m k (record { pures = ps; atoms = cs })

-- where nothing forks, these claims hold of their generic memories
abbrev pub GenericHolds : Type 0
GenericHolds = (k : Known) (cs : List Atom) → (Fork k cs → ⊥) → HoldsGeneric k cs
