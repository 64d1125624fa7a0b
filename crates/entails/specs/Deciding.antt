-- What the call that decides promises.
use Rattle.std.specs.Prelude.{◌≡◌, ℕ, ◌+◌, ◌*◌, ◌<◌, ◌≤◌, T, ◌↔◌, List, ◌++◌, length, take, drop, Some, None, Ok, Err, Option, Result}
use Rattle.std.specs.List.{AllByRecursion}
use Rattle.claims.specs.Claims as claims
use Rattle.claims.specs.Words.{Reads, OneQuestion, PureBelow}
use Rattle.claims.specs.Memory.{Names, Memory, sound, Says}
use Rattle.memory.specs.Laws.{Precise, RowsJoin}
use Rattle.memory.specs.Marks.{memory_words}
use Rattle.models.specs.Follows.{DoesFollow, Against, enough, SmallShows, OneOfTwo, Exact}
use Rattle.linked.specs.Generics.{GenericHolds}
use Rattle.linked.specs.Knowing.{Agrees}
use Rattle.linked.specs.declared.known.Known.{Known}
use Rattle.matching.specs.Rules.{Closed}
use Rattle.entails.specs.Telling.{first_of, second_of, question_of, ToldAgainst}
use Rattle.entails.specs.declared.goals.Goal.{Goal}
use Rattle.entails.specs.declared.told.Told.{Told}
use Rattle.entails.specs.declared.deciding.Decided.{Decided}
use Rattle.entails.specs.declared.deciding.Decided.TheVariants.{Follows, Fails, OutFull, NoClaims, Few}

-- the words s are that question; or they are none
abbrev pub GoalRead : List ℕ → Option Goal → Type 0
GoalRead s (Some g) = Reads s (question_of g)
GoalRead s None = (q : claims.Question) → Reads s q → ⊥

-- the second claim follows; or what is told is against it
abbrev pub GoalSettled : Goal → Result Unit Told → Type 0
GoalSettled g (Ok u) = DoesFollow (first_of g) (second_of g)
GoalSettled g (Err t) = ToldAgainst g t

-- Names and k cells that are against it stand in out, which held o and now holds p: first what each name stands for, and then
-- place and where it leads for each cell. What stands behind them is as it was.
pub record Shown (q : claims.Question) (o p : List ℕ) (k : ℕ) : Type 0 where
  pub names : Names
  pub memory : Memory
  pub against : Against q.names q.first q.second names memory
  pub count : length memory ≡ k
  pub few : k ≤ enough (length q.first.atoms)
  pub told : take (q.names + 2 * k) p ≡ names ++ memory_words memory
  pub behind : drop (q.names + 2 * k) p ≡ drop (q.names + 2 * k) o

-- names and a memory are against it, but out has fewer words than names, and four for each cell and row of the first claim
pub record NotShown (q : claims.Question) (o p : List ℕ) : Type 0 where
  pub names : Names
  pub memory : Memory
  pub against : Against q.names q.first q.second names memory
  pub short : length o < q.names + 4 * length q.first.atoms
  pub unchanged : p ≡ o

-- what is told, or that there is no room
abbrev pub Written : Goal → List ℕ → List ℕ → Decided → Type 0
Written g o p Follows = ⊥
Written g o p (Fails k) = Shown (question_of g) o p k
Written g o p OutFull = NotShown (question_of g) o p
Written g o p NoClaims = ⊥
Written g o p Few = ⊥

-- the words s are a question, of which P holds
pub record Asked (s : List ℕ) (P : claims.Question → Type 0) : Type 0 where
  pub question : claims.Question
  pub reads : Reads s question
  pub so : P question

-- the second claim follows, and out is as it was
pub record Does (o p : List ℕ) (q : claims.Question) : Type 0 where
  pub follows : DoesFollow q.first q.second
  pub unchanged : p ≡ o

-- the words are no question, and out is as it was
pub record NoQuestion (s o p : List ℕ) : Type 0 where
  pub none : (q : claims.Question) → Reads s q → ⊥
  pub unchanged : p ≡ o

-- What each answer says of the words s, with o in out before and p after.
abbrev pub Answer : List ℕ → List ℕ → List ℕ → Decided → Type 0
Answer s o p Follows = Asked s (Does o p)
Answer s o p (Fails k) = Asked s (λ q. Shown q o p k)
Answer s o p OutFull = Asked s (λ q. NotShown q o p)
Answer s o p NoClaims = NoQuestion s o p
Answer s o p Few = p ≡ o

-- what the rules settle of all atoms of two claims follows, wherever names agree with what is known
abbrev pub RulesRight : Type 0
RulesRight =
    (m : ℕ) (c d : claims.Claim) → m ≤ 64 → AllByRecursion (PureBelow 64) d.pures → (k : Known) → Closed m c d (Some k) c.atoms d.atoms →
    (n : Names) (mem : Memory) → T (sound mem) → Agrees k n → Says n mem c → Says n mem d

-- The theorems that the answers rest on.
pub record Theorems : Type 0 where
  -- words are at most one question
  pub one_question : OneQuestion
  -- a claim says which part of a memory it is
  pub precise : Precise
  -- rows end to end are a row, if the far end isn't in the first
  pub rows_join : RowsJoin
  -- what any memory shows, a small one does
  pub small_shows : SmallShows
  -- it follows, or a small memory shows that it does not
  pub one_of_two : OneOfTwo
  -- where nothing forks, the claim holds of its generic memory
  pub generic_holds : GenericHolds
  -- for names of one pattern it follows, or one of few memories is against it
  pub exact : Exact
  -- what the rules of the search settle follows
  pub rules_right : RulesRight

-- What `decide` promises: its answer, that it asks for 65,536 words and no more, and the theorems.
pub record DecidedPost (s : List ℕ) (w : ℕ) (o p : List ℕ) (r : Decided) : Type 0 where
  pub answer : Answer s o p r
  pub few : (w < 65536) ↔ (r ≡ Few)
  pub theorems : Theorems
