-- Questions as words: how many names there are; and for each of the two claims how many same and other,
-- how many cells and rows, and these, with three words each.
use Rattle.std.specs.Prelude.{◌≡◌, ℕ, ◌<◌, ◌≤◌, List, [], ◌∷◌, ◌++◌, length}
use Rattle.std.specs.List.{flat_map, AllByRecursion}
use Rattle.claims.specs.Claims.{Pure, same, other, Atom, cell, row, Claim, Question}

abbrev pub pure_words : Pure → List ℕ
pure_words (same x y) = 0 ∷ x ∷ y ∷ []
pure_words (other x y) = 1 ∷ x ∷ y ∷ []

abbrev pub atom_words : Atom → List ℕ
atom_words (cell x y) = 2 ∷ x ∷ y ∷ []
atom_words (row x y) = 3 ∷ x ∷ y ∷ []

abbrev pub claim_words : Claim → List ℕ
claim_words c =
    length c.pures ∷ length c.atoms ∷ (flat_map pure_words c.pures ++ flat_map atom_words c.atoms)

abbrev pub words : Question → List ℕ
words q = q.names ∷ (claim_words q.first ++ claim_words q.second)

-- both names are below n
abbrev pub PureBelow : ℕ → Pure → Type 0
PureBelow n (same x y) = (x < n) × (y < n)
PureBelow n (other x y) = (x < n) × (y < n)

abbrev pub AtomBelow : ℕ → Atom → Type 0
AtomBelow n (cell x y) = (x < n) × (y < n)
AtomBelow n (row x y) = (x < n) × (y < n)

-- within the limits of a claim over n names
pub record Fits (n : ℕ) (c : Claim) : Type 0 where
  pub few_pures : length c.pures ≤ 256
  pub few_atoms : length c.atoms ≤ 64
  pub pures_below : AllByRecursion (PureBelow n) c.pures
  pub atoms_below : AllByRecursion (AtomBelow n) c.atoms

-- 1 to 64 names, and both claims within the limits
pub record Limits (q : Question) : Type 0 where
  pub some_names : 1 ≤ q.names
  pub few_names : q.names ≤ 64
  pub first_fits : Fits q.names q.first
  pub second_fits : Fits q.names q.second

-- the words s are the question q
pub record Reads (s : List ℕ) (q : Question) : Type 0 where
  pub is : words q ≡ s
  pub limits : Limits q

-- words are at most one question
abbrev pub OneQuestion : Type 0
OneQuestion = (s : List ℕ) (q r : Question) → Reads s q → Reads s r → q ≡ r
