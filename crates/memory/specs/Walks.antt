-- Looking for a cell or a row among the cells of a memory, from cell to cell.
use Rattle.std.specs.Prelude.{◌≡◌, ℕ, ◌<◌, false, [], ◌∷◌, length, Some, None, Ok, Err, Option, Result, ◌≢◌, slice_index_or}
use Rattle.claims.specs.Claims.{Atom, cell, row}
use Rattle.claims.specs.Memory.{Names, at, Cell, Memory, here, Parts, IsRow, AtomHolds}
use Rattle.claims.specs.declared.names.Place.{Place}
use Rattle.memory.specs.Taking.{Takes}

-- these cells lead from p to q, each to the place of the next; unlike a row they may come back to where they were
pub data Walk : ℕ → ℕ → Memory → Type 0 where
  no_step : {p q : ℕ} → p ≡ q → Walk p q []
  step : {p q r : ℕ} {a m : Memory} → Walk p q a → Parts a (record { place = q; holds = r } ∷ []) m → Walk p r m

-- One walks from p among the cells of m, and comes to b, with the end q not yet seen; and no cell is left there to go on by.
-- The walk is a row, unless it came back to where it was.
pub record RowStuck (p q : ℕ) (m : Memory) (b : ℕ) : Type 0 where
  pub used : Memory
  pub left : Memory
  pub parts : Parts used left m
  pub walk : Walk p b used
  pub row : here b used ≡ false → IsRow p b used
  pub end_unseen : here q used ≡ false
  pub not_end : b ≡ q → ⊥
  pub no_cell : here b left ≡ false

-- where the search for an atom got stuck: at the start of a cell, or where a row does not go on
abbrev pub StuckAt : Names → Atom → Memory → ℕ → Type 0
StuckAt n (cell x y) m b = b ≡ at n x
StuckAt n (row x y) m b = RowStuck (at n x) (at n y) m b

-- the atom can't be taken out of the memory, and its search got stuck at b
pub record AtomStuck (n : Names) (a : Atom) (m : Memory) (b : ℕ) : Type 0 where
  pub none : (e : Memory) → Takes (AtomHolds n a) m e → ⊥
  pub stuck : StuckAt n a m b

-- the cell with this number is at p and leads to this place; or no cell is at p
abbrev pub CellAt : Memory → ℕ → Option (ℕ × Place) → Type 0
CellAt m p (Some c) = (c.0 < length m) × ((d : Cell ℕ) → slice_index_or m c.0 d ≡ record { place = p; holds = c.1.0 })
CellAt m p None = here p m ≡ false

-- the cell at p is taken out of m and leaves e, and the answer is where it leads; or no cell is at p
abbrev pub Stepped : ℕ → Memory → Memory → Option Place → Type 0
Stepped p m e (Some q) = Parts (record { place = p; holds = q.0 } ∷ []) e m
Stepped p m e None = here p m ≡ false

-- just one cell, from p to q
abbrev pub IsCell : ℕ → ℕ → Memory → Type 0
IsCell p q m = (p ≢ 0) × (m ≡ record { place = p; holds = q } ∷ [])

-- that cell is taken out of m and leaves e; or it can't be, and the answer is where it should begin
abbrev pub CellTaken : ℕ → ℕ → Memory → Memory → Result Unit Place → Type 0
CellTaken p q m e (Ok _) = Takes (IsCell p q) m e
CellTaken p q m e (Err b) = ((f : Memory) → Takes (IsCell p q) m f → ⊥) × (b.0 ≡ p)

-- the row is taken out of m and leaves e; or it can't be, and its search got stuck
abbrev pub RowTaken : ℕ → ℕ → Memory → Memory → Result Unit Place → Type 0
RowTaken p q m e (Ok _) = Takes (IsRow p q) m e
RowTaken p q m e (Err b) = ((f : Memory) → Takes (IsRow p q) m f → ⊥) × RowStuck p q m b.0

-- the atom is taken out of m and leaves e; or it can't be
abbrev pub AtomTaken : Names → Atom → Memory → Memory → Result Unit Place → Type 0
AtomTaken n a m e (Ok _) = Takes (AtomHolds n a) m e
AtomTaken n a m e (Err b) = AtomStuck n a m b.0
