-- From a search over all names to an answer.
--
-- goal_settled: what the search settles follows; answered: what is told is the answer.
use Rattle.std.proofs.Common.{◌≡◌, ℕ, ◌≤◌, List, arith}
use Rattle.std.specs.List.{AllByRecursion}
use Rattle.claims.specs.Words.{Reads}
use Rattle.claims.specs.Memory.{Names, PureHolds}
use Rattle.claims.proofs.ClaimWords.{one_question}
use Rattle.memory.proofs.Theorems.{precise, rows_join}
use Rattle.models.specs.Follows.{DoesFollow}
use Rattle.models.proofs.Small.{small_shows, one_of_two}
use Rattle.models.proofs.Exact.{exact}
use Rattle.linked.specs.Knowing.{Agrees}
use Rattle.linked.proofs.FirstNumbers.{generic_holds}
use Rattle.linked.specs.declared.known.Known.{Known}
use Rattle.entails.specs.Telling.{first_of, second_of, question_of}
use Rattle.matching.specs.Rules.{renamed}
use Rattle.entails.specs.Reducing.{PartSettled, Whole}
use Rattle.matching.specs.declared.parts.Part.{Part}
use Rattle.entails.specs.Deciding.{Written, RulesRight, Theorems, Answer, DecidedPost}
use Rattle.entails.specs.declared.goals.Goal.{Goal}
use Rattle.entails.specs.declared.deciding.Decided.{Decided}
use Rattle.entails.specs.declared.deciding.Decided.TheVariants.{Follows, Fails, OutFull, NoClaims, Few}
use Rattle.entails.proofs.Bounds.{second_pures}
use Rattle.matching.proofs.Rules.{all_settled}

pub goal_settled :
    (g : Goal) (k : Known) (p : Part) →
    ((n : Names) → AllByRecursion (PureHolds n) (first_of g).pures → Agrees k n) → Whole g k p → PartSettled g k p → DoesFollow (first_of g) (second_of g)
goal_settled g k p all whole closed n m s says =
    all_settled g.names (first_of g) (second_of g) g.limits.few_names (second_pures g) k (renamed whole.own whole.wanted closed) n m s (all n says.pures) says

-- what the rules settle follows
rules_right : RulesRight
rules_right m c d few below k closed = all_settled m c d few below k closed

pub theorems : Theorems
theorems =
    record { one_question = one_question; precise = precise; rows_join = rows_join; small_shows = small_shows; one_of_two = one_of_two; generic_holds = generic_holds; exact = exact; rules_right = rules_right }

-- with enough words lent, any answer but one
pub post :
    (s : List ℕ) (w : ℕ) (o p : List ℕ) (r : Decided) → 65536 ≤ w → (r ≡ Few → ⊥) → Answer s o p r → DecidedPost s w o p r
post s w o p r room other answer =
    record { answer = answer; few = ((λ l. absurd (omega arith)), (λ e. absurd (other e))); theorems = theorems }

pub answered :
    (g : Goal) (s : List ℕ) (w : ℕ) (o p : List ℕ) (r : Decided) → 65536 ≤ w → Reads s (question_of g) → Written g o p r →
    DecidedPost s w o p r
answered g s w o p Follows room reads h = absurd h
answered g s w o p (Fails k) room reads h =
    post s w o p (Fails k) room (λ e. let z : ◌≡◌ {A = ℕ} 0 1 = cc in omega arith) (record { question = question_of g; reads = reads; so = h })
answered g s w o p OutFull room reads h =
    post s w o p OutFull room (λ e. let z : ◌≡◌ {A = ℕ} 0 1 = cc in omega arith) (record { question = question_of g; reads = reads; so = h })
answered g s w o p NoClaims room reads h = absurd h
answered g s w o p Few room reads h = absurd h
