-- Claims as they are written down.
--
-- A claim (in the field: a symbolic heap) speaks of names (variables) and of the cells of a memory.
-- Names are numbers, and name 0 is nowhere (nil).
use Rattle.std.specs.Prelude.{ℕ, List}

-- two names stand for the same, or they do not
pub data Pure : Type 0 where
  same : ℕ → ℕ → Pure
  other : ℕ → ℕ → Pure

-- a cell at the first name that leads to the second (points-to),
-- or a row of cells from the first name to the second (an acyclic list segment)
pub data Atom : Type 0 where
  cell : ℕ → ℕ → Atom
  row : ℕ → ℕ → Atom

pub record Claim : Type 0 where
  pub pures : List Pure
  pub atoms : List Atom

-- does the first claim say the second (entailment)
pub record Question : Type 0 where
  pub names : ℕ
  pub first : Claim
  pub second : Claim
