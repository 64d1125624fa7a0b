-- Which atom of a claim, a cell or a row, has the memory's cell at a place.
use Rattle.std.specs.Prelude.{◌≡◌, ℕ, zero, suc, true, List, ◌∷◌}
use Rattle.claims.specs.Claims.{Atom, cell, row}
pub use Rattle.claims.specs.Ends.{start, end}
use Rattle.claims.specs.Memory.{Names, at, Memory, here, Parts, AtomHolds, Dealt}

-- a row whose ends stand for the same: it has no cells
abbrev pub Empty : Names → Atom → Type 0
Empty n (cell x y) = ⊥
Empty n (row x y) = at n x ≡ at n y

-- no cell at the place p is this atom's: if it starts there, then it is a row that ends there too
abbrev pub Passes : Names → ℕ → Atom → Type 0
Passes n p (cell x y) = at n x ≡ p → ⊥
Passes n p (row x y) = at n x ≡ p → at n y ≡ p

-- The memory is dealt out to the atoms, and the part of the atom number i has a cell at the place p.
pub data Owns (n : Names) : List Atom → Memory → ℕ → ℕ → Type 0 where
  owns_here :
      {a : Atom} {more : List Atom} {part rest m : Memory} {p : ℕ} → Parts part rest m → AtomHolds n a part → Dealt n more rest →
      here p part ≡ true → Owns n (a ∷ more) m zero p
  owns_later :
      {a : Atom} {more : List Atom} {part rest m : Memory} {i p : ℕ} → Parts part rest m → AtomHolds n a part →
      Owns n more rest i p → Owns n (a ∷ more) m (suc i) p
