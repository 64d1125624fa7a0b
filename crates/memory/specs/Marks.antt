-- A memory as words, and its cells that are not marked.
use Rattle.std.specs.Prelude.{ℕ, zero, suc, List, [], ◌∷◌}
use Rattle.claims.specs.Memory.{Memory}

-- each cell's place and where it leads, one cell after the other
abbrev pub memory_words : Memory → List ℕ
memory_words [] = []
memory_words (c ∷ m) = c.place ∷ c.holds ∷ memory_words m

-- the memory that words are; a last word that is alone is no cell
abbrev pub memory_of : List ℕ → Memory
memory_of [] = []
memory_of (p ∷ []) = []
memory_of (p ∷ q ∷ s) = record { place = p; holds = q } ∷ memory_of s

-- The elements whose marks are 0, in their order. One with any other mark is used; one with no mark isn't.
abbrev pub unmarked : {A : Type 0} → List ℕ → List A → List A
unmarked [] m = m
unmarked (zero ∷ w) [] = []
unmarked (zero ∷ w) (c ∷ m) = c ∷ unmarked w m
unmarked (suc k ∷ w) [] = []
unmarked (suc k ∷ w) (c ∷ m) = unmarked w m

-- what the marks w leave of the memory with the words s
abbrev pub rest_of : List ℕ → List ℕ → Memory
rest_of s w = unmarked w (memory_of s)
