-- How the cells and rows of a claim match those of another, which a memory is dealt out to.
use Rattle.std.specs.Prelude.{◌≡◌, ℕ, true, List}
use Rattle.claims.specs.Claims.{Atom, cell, row, Claim}
use Rattle.claims.specs.Memory.{Names, at, Memory, here, Parts, AtomHolds, Dealt}
use Rattle.memory.specs.Owners.{start, Empty}
use Rattle.memory.specs.Taking.{Put}
use Rattle.models.specs.Generic.{generic}

-- the memory m is dealt out to the atoms cs, and this part of it to x, which is one of them
pub record Placed (n : Names) (cs : List Atom) (m : Memory) (x : Atom) (part : Memory) : Type 0 where
  pub holds : AtomHolds n x part
  pub others : List Atom
  pub put : Put x others cs
  pub rest : Memory
  pub parts : Parts part rest m
  pub dealt : Dealt n others rest

-- An atom can have the part of an atom of cs, in every memory that is dealt out to cs for names of the pattern of g.
-- A cell can have a cell's part. So can a row; and it can have the part of a row that never has a cell at the first one's end,
-- since that is nowhere, or the second one's end too, or another atom of cs has a cell there.
pub data CanHave (g : Names) (cs : List Atom) : Atom → Atom → Type 0 where
  cell_cell : {x y u z : ℕ} → CanHave g cs (cell x y) (cell u z)
  row_cell : {x t u z : ℕ} → CanHave g cs (row x t) (cell u z)
  ends_nowhere : {x t u z : ℕ} → at g t ≡ 0 → CanHave g cs (row x t) (row u z)
  same_end : {x t u z : ℕ} → at g t ≡ at g z → CanHave g cs (row x t) (row u z)
  cell_there : {x t u z : ℕ} → here (at g t) (generic g cs) ≡ true → CanHave g cs (row x t) (row u z)

-- In the generic memory of the first claim's atoms, each atom of the second has cells of such atoms only whose parts it can have.
abbrev pub Matches : Names → Claim → Claim → Type 0
Matches g c d =
    (x y : Atom) (a : Memory) (others : List Atom) → Placed g d.atoms (generic g c.atoms) x a → Put y others c.atoms →
    (Empty g y → ⊥) → here (at g (start y)) a ≡ true → CanHave g c.atoms x y
