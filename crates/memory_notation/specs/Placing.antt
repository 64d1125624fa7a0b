-- What the names of a claim stand for.
use Rattle.std.specs.Prelude.{◌≡◌, ℕ, ◌<◌, List, length, Some, None, Option, slice_index, slice_index_or}

-- each of n names has a word, and it is the place that was given: no name without a place is taken for nowhere
pub record Placed (places : List (Option ℕ)) (n : ℕ) (words : List ℕ) : Type 0 where
  pub as_many : length words ≡ n
  pub given : (k : ℕ) → k < n → slice_index_or places k None ≡ Some (slice_index words k)
