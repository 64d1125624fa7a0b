-- When a claim follows from another, and what shows that it does not.
use Rattle.std.specs.Prelude.{◌≡◌, ℕ, ◌*◌, ◌<◌, ◌≤◌, T, ◌⊎◌, length}
use Rattle.std.specs.List.{AllByRecursion}
use Rattle.claims.specs.Claims.{Claim, Question}
use Rattle.claims.specs.Words.{Fits, Limits}
use Rattle.claims.specs.Memory.{Names, Cell, Memory, sound, Says}
use Rattle.models.specs.Generic.{Trial, Like}

-- the second claim holds wherever the first does
abbrev pub DoesFollow : Claim → Claim → Type 0
DoesFollow c d = (n : Names) (m : Memory) → T (sound m) → Says n m c → Says n m d

-- k names and a memory of which the first claim holds and the second does not
pub record Against (k : ℕ) (c d : Claim) (n : Names) (m : Memory) : Type 0 where
  pub names : length n ≡ k
  pub sound_m : T (sound m)
  pub says : Says n m c
  pub not : Says n m d → ⊥

-- how many cells are enough to show it, for so many cells and rows of the first claim
abbrev pub enough : ℕ → ℕ
enough a = 2 * a

abbrev pub CellBelow : ℕ → Cell ℕ → Type 0
CellBelow b c = (c.place < b) × (c.holds < b)

-- no more than enough cells, and all places are below 256
pub record Small (a : ℕ) (n : Names) (m : Memory) : Type 0 where
  pub cells : length m ≤ enough a
  pub names_below : AllByRecursion (λ p. p < 256) n
  pub places_below : AllByRecursion (CellBelow 256) m

-- names and a small memory show that it does not follow
pub record Shows (q : Question) : Type 0 where
  pub n : Names
  pub m : Memory
  pub against : Against q.names q.first q.second n m
  pub small : Small (length q.first.atoms) n m

-- what any memory shows, a small one does
abbrev pub SmallShows : Type 0
SmallShows =
    (q : Question) → Limits q → (n : Names) (m : Memory) → Against q.names q.first q.second n m → Shows q

-- it follows, or a small memory shows that it does not
abbrev pub OneOfTwo : Type 0
OneOfTwo = (q : Question) → Limits q → DoesFollow q.first q.second ⊎ Shows q

-- the second claim holds wherever the first does, and the names below k have the pattern of g
abbrev pub FollowsLike : ℕ → Names → Claim → Claim → Type 0
FollowsLike k g c d = (n : Names) (m : Memory) → Like k g n → T (sound m) → Says n m c → Says n m d

-- for one pattern of names, it follows, or the names themselves and one of the trials are against it
abbrev pub Exact : Type 0
Exact =
    (k : ℕ) (g : Names) (c d : Claim) → 1 ≤ k → length g ≡ k → AllByRecursion (λ p. p < k) g → Fits k c → Fits k d →
    FollowsLike k g c d ⊎ ((m : Memory) × Trial k g c.atoms m × Against k c d g m)

-- so it follows if it holds of all trials
abbrev pub Tried : Type 0
Tried =
    (k : ℕ) (g : Names) (c d : Claim) → 1 ≤ k → AllByRecursion (λ p. p < k) g → Fits k c → Fits k d →
    ((m : Memory) → Trial k g c.atoms m → T (sound m) → Says g m c → Says g m d) → FollowsLike k g c d

pub record Theorems : Type 0 where
  pub small_shows : SmallShows
  pub one_of_two : OneOfTwo
  pub exact : Exact
  pub tried : Tried
