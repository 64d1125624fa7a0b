-- What is reached from a name over the atoms other than one.
--
-- If the place of the name s is one of the cells of the atom number e, then no other atom has a cell there: one that
-- starts there is an empty row, and ends there too. So all names that are reached from s without e stand for that place.
use Rattle.std.specs.Prelude.{◌≡◌, ℕ, ◌<◌, true, T, List, Some, None, Option, Ok, Err, Result}
use Rattle.claims.specs.Claims.{Atom, cell, row}
use Rattle.claims.specs.Memory.{Names, at, Memory, sound, Dealt}
use Rattle.memory.specs.Owners.{Owns}
use Rattle.linked.specs.Bits.{bit}
use Rattle.linked.specs.Knowing.{Agrees}
use Rattle.linked.specs.declared.steps.Never.{Never}
use Rattle.linked.specs.declared.known.Known.{Known}

-- wherever the atom number e has the cell at the place of s, the names in the set stand for that place
abbrev pub Reached : List Atom → ℕ → ℕ → ℕ → Type 0
Reached cs e s set =
    (n : Names) (m : Memory) → T (sound m) → Owns n cs m e (at n s) → (x : ℕ) → bit set x ≡ true → at n x ≡ at n s

-- the atom is a cell that begins at a name in the set
abbrev pub CellBegins : ℕ → Atom → Type 0
CellBegins set (cell x y) = x < 64 → bit set x ≡ true
CellBegins set (row x y) = ⊥

-- the place of s is never one of the cells of the atom number e
abbrev pub Barred : Known → List Atom → ℕ → ℕ → Type 0
Barred k cs e s = (n : Names) (m : Memory) → T (sound m) → Agrees k n → Owns n cs m e (at n s) → ⊥

-- what one look at the atom number e finds out: nothing new, two names that must be the same, or that the claim can't be
abbrev pub FoundOut : Known → List Atom → Result (Option (ℕ × ℕ)) Never → Type 0
FoundOut k cs (Ok None) = Unit {0}
FoundOut k cs (Ok (Some p)) =
    (p.0 < 64) × (p.1 < 64) × ((n : Names) (m : Memory) → T (sound m) → Agrees k n → Dealt n cs m → at n p.0 ≡ at n p.1)
FoundOut k cs (Err _) = (n : Names) (m : Memory) → T (sound m) → Agrees k n → Dealt n cs m → ⊥
