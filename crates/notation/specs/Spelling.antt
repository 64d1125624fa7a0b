-- How names are spelled in a text.
use Rattle.std.specs.Prelude.{◌≡◌, ℕ, ◌<◌, List, [], map, length, Some, None, Option, ◌≢◌, slice_index_or}
use Rattle.std.specs.List.{between}
use Rattle.notation.specs.declared.drafts.Mention.{Mention}
use Rattle.notation.specs.declared.drafts.Mention.TheVariants.{Nowhere, Name}
use Rattle.notation.specs.declared.spans.Span.{Span}

abbrev pub spelling : List ℕ → Span → List ℕ
spelling text s = between s.start s.end text

abbrev pub spellings : List ℕ → List Span → List (List ℕ)
spellings text names = map (spelling text) names

abbrev pub mention_spelling : List ℕ → Mention → List ℕ
mention_spelling text Nowhere = []
mention_spelling text (Name s) = spelling text s

-- no two are the same
abbrev pub Distinct : List (List ℕ) → Type 0
Distinct spelled = (i j : ℕ) → i < j → j < length spelled → slice_index_or spelled i [] ≢ slice_index_or spelled j []

-- where a spelling stands among others, or that it is none of them
abbrev pub Found : List (List ℕ) → List ℕ → Option ℕ → Type 0
Found all s (Some i) = (i < length all) × (slice_index_or all i [] ≡ s)
Found all s None = (k : ℕ) → k < length all → slice_index_or all k [] ≢ s
