-- Small memories in which a list of cells and rows holds.
--
-- For given names, the generic memory has one cell for each cell and row that is not empty.
-- A stretched memory has one row with two cells instead, through a place of choice.
-- What follows for all names of the same pattern shows in these.
use Rattle.std.specs.Prelude.{◌≡◌, ℕ, zero, suc, ◌<◌, ◌≤◌, Bool, true, cond, not, ◌↔◌, List, [], ◌∷◌, ◌++◌, length, ◌==◌, ◌≢◌, slice_index_or}
use Rattle.std.specs.List.{flat_map}
use Rattle.claims.specs.Claims.{Atom, cell, row}
use Rattle.claims.specs.Memory.{Names, at, Cell, Memory}
use Rattle.memory.specs.Owners.{start, end, Empty}

-- a cell, or a row whose ends stand for different places
abbrev pub nonempty : Names → Atom → Bool
nonempty g (cell x y) = true
nonempty g (row x y) = not (at g x == at g y)

-- a cell from the atom's start to its end
abbrev pub link : Names → Atom → Cell ℕ
link g a = record { place = at g (start a); holds = at g (end a) }

-- one cell, unless the atom is an empty row
abbrev pub linked : Names → Atom → Memory
linked g a = cond (nonempty g a) (link g a ∷ []) []

-- one cell for each atom that is not empty
abbrev pub generic : Names → List Atom → Memory
generic g cs = flat_map (linked g) cs

-- the same, but two cells through the place t for a row that is not empty
abbrev pub linked_through : Names → Atom → ℕ → Memory
linked_through g (cell x y) t = linked g (cell x y)
linked_through g (row x y) t =
    cond (nonempty g (row x y)) (record { place = at g x; holds = t } ∷ record { place = t; holds = at g y } ∷ []) []

-- the generic memory, but the atom number i goes through t
abbrev pub stretched : Names → List Atom → ℕ → ℕ → Memory
stretched g [] i t = []
stretched g (a ∷ cs) zero t = linked_through g a t ++ generic g cs
stretched g (a ∷ cs) (suc i) t = linked g a ++ stretched g cs i t

-- The memories to try for names with the places below k: the generic one, and all that are stretched through a place
-- up to k. No name stands for k.
pub data Trial (k : ℕ) (g : Names) (cs : List Atom) : Memory → Type 0 where
  plain : Trial k g cs (generic g cs)
  through : (i t : ℕ) → i < length cs → 1 ≤ t → t ≤ k → Trial k g cs (stretched g cs i t)

-- the same pattern of sameness among the names below k
abbrev pub Like : ℕ → Names → Names → Type 0
Like k g n = (x y : ℕ) → x < k → y < k → (at g x ≡ at g y) ↔ (at n x ≡ at n y)

-- no two atoms that are not empty start at one place, and none nowhere
pub record ForkFree (g : Names) (cs : List Atom) : Type 0 where
  pub somewhere : (i : ℕ) (d : Atom) → i < length cs → (Empty g (slice_index_or cs i d) → ⊥) → at g (start (slice_index_or cs i d)) ≢ 0
  pub apart :
      (i j : ℕ) (d : Atom) → i < j → j < length cs → (Empty g (slice_index_or cs i d) → ⊥) → (Empty g (slice_index_or cs j d) → ⊥) →
      at g (start (slice_index_or cs i d)) ≢ at g (start (slice_index_or cs j d))
