-- What reading promises.
use Rattle.std.specs.Prelude.{◌≡◌, ℕ, List, ◌++◌, length, Some, None, Option}
use Rattle.claims.specs.Claims as claims
use Rattle.claims.specs.Words.{claim_words, Fits, Reads, OneQuestion}
use Rattle.claims.specs.declared.shapes.Shape.{Shape}
use Rattle.claims.specs.declared.layouts.Layout.{Layout}

-- how many parts of both kinds a claim has
pub record HasShape (c : claims.Claim) (l : Shape) : Type 0 where
  pub pures : length c.pures ≡ l.pures
  pub atoms : length c.atoms ≡ l.atoms

-- the words s begin with a claim over n names of that shape; or with none
abbrev pub ClaimRead : List ℕ → ℕ → Option Shape → Type 0
ClaimRead s n (Some l) =
    (c : claims.Claim) × (rest : List ℕ) × (s ≡ claim_words c ++ rest) × Fits n c × HasShape c l
ClaimRead s n None = (c : claims.Claim) (rest : List ℕ) → s ≡ claim_words c ++ rest → Fits n c → ⊥

-- where the parts of a question lie in its words
pub record HasLayout (q : claims.Question) (l : Layout) : Type 0 where
  pub names : q.names ≡ l.names
  pub first : HasShape q.first l.first
  pub second : HasShape q.second l.second

-- the words s are a question, laid out so; or they are none
abbrev pub QuestionRead : List ℕ → Option Layout → Type 0
QuestionRead s (Some l) = (q : claims.Question) × Reads s q × HasLayout q l
QuestionRead s None = (q : claims.Question) → Reads s q → ⊥

-- what `read` answers, and that it is the only answer
pub record ReadPost (s : List ℕ) (r : Option Layout) : Type 0 where
  pub answer : QuestionRead s r
  pub one_question : OneQuestion
