-- The names of a question, numbered in the order of its words; and what reading a question promises.
use Rattle.std.specs.Prelude.{◌≡◌, ℕ, suc, ◌<◌, ◌≤◌, List, [], ◌∷◌, ◌++◌, length, slice_index_or}
use Rattle.std.specs.List.{flat_map}
use Rattle.claims.specs.Claims.{Pure, same, other, Atom, cell, row, Claim, Question}
use Rattle.claims.specs.Words.{Limits}
use Rattle.notation.specs.Spelling.{Distinct}

abbrev pub pure_names : Pure → List ℕ
pure_names (same x y) = x ∷ y ∷ []
pure_names (other x y) = x ∷ y ∷ []

abbrev pub atom_names : Atom → List ℕ
atom_names (cell x y) = x ∷ y ∷ []
atom_names (row x y) = x ∷ y ∷ []

abbrev pub claim_mentions : Claim → List ℕ
claim_mentions c = flat_map pure_names c.pures ++ flat_map atom_names c.atoms

-- the names that a question mentions, in the order of its words
abbrev pub mentions : Question → List ℕ
mentions q = claim_mentions q.first ++ claim_mentions q.second

-- from k names that came before: each name is one of those, or is the next new one; n are there in the end
pub data InOrder : ℕ → List ℕ → ℕ → Type 0 where
  done : {k : ℕ} → InOrder k [] k
  known : {k n x : ℕ} {xs : List ℕ} → x < k → InOrder k xs n → InOrder k (x ∷ xs) n
  new : {k n : ℕ} {xs : List ℕ} → InOrder (suc k) xs n → InOrder k (k ∷ xs) n

-- a claim within the limits of a claim's parts, with its names in order from k to n
pub record Numbered (k : ℕ) (c : Claim) (n : ℕ) : Type 0 where
  pub in_order : InOrder k (claim_mentions c) n
  pub few_pures : length c.pures ≤ 256
  pub few_atoms : length c.atoms ≤ 64

-- a question that reading accepts, with its names as they are spelled; the first is nowhere and empty, and no
-- two are the same
pub record Accepted (q : Question) (spelled : List (List ℕ)) : Type 0 where
  pub limits : Limits q
  pub in_order : InOrder 1 (mentions q) q.names
  pub as_many : length spelled ≡ q.names
  pub nowhere : slice_index_or spelled 0 [] ≡ []
  pub distinct : Distinct spelled
