-- What can fail in finitely many cases fails in one of them or holds in all.
--
-- below_either: for the numbers below b; lists_either: for the lists of k numbers below b.
use Rattle.std.proofs.Common.{◌≡◌, ℕ, zero, suc, ◌<◌, ◌⊎◌, List, [], ◌∷◌, length, refl, ap, inl, inr, ⊎_elim, arith}
use Rattle.std.specs.List.{AllByRecursion}
use Rattle.std.proofs.lemmas.Bool.{cases_eq}

-- go on if it holds
pub then-either : {A B Q : Type 0} → A ⊎ Q → (A → B ⊎ Q) → B ⊎ Q
then-either (inl a) f = f a
then-either (inr q) f = inr q

pub below_either : (P : ℕ → Type 0) (Q : Type 0) (b : ℕ) → ((x : ℕ) → x < b → P x ⊎ Q) → ((x : ℕ) → x < b → P x) ⊎ Q
below_either P Q zero f = inl (λ x l. absurd (omega arith))
below_either P Q (suc b) f =
    then-either (below_either P Q b (λ x l. f x (omega arith))) λ below.
    then-either (f b (omega arith)) λ last.
    inl (λ x l. ⊎_elim (λ e. rw e last) (λ ne. below x (omega arith)) (cases_eq x b))

only_none : (P : List ℕ → Type 0) → P [] → (g : List ℕ) → length g ≡ 0 → P g
only_none P p [] len = p
only_none P p (x ∷ g) len = absurd (omega arith)

-- P holds of all lists of k numbers below b
abbrev pub AllLists : (List ℕ → Type 0) → ℕ → ℕ → Type 0
AllLists P b k = (g : List ℕ) → length g ≡ k → AllByRecursion (λ p. p < b) g → P g

all_first : (P : List ℕ → Type 0) (b k : ℕ) → ((x : ℕ) → x < b → AllLists (λ g. P (x ∷ g)) b k) → AllLists P b (suc k)
all_first P b k f [] len below = absurd (omega arith)
all_first P b k f (x ∷ g) len below = f x below.0 g (omega arith) below.1

pub lists_either :
    (P : List ℕ → Type 0) (Q : Type 0) (b k : ℕ) → AllLists (λ g. P g ⊎ Q) b k → AllLists P b k ⊎ Q
lists_either P Q b zero f = then-either (f [] refl tt) λ p. inl (λ g len below. only_none P p g len)
lists_either P Q b (suc k) f =
    let first = λ (x : ℕ) (l : x < b). lists_either (λ g. P (x ∷ g)) Q b k (λ g len below. f (x ∷ g) (ap suc len) (l, below)) in
    then-either (below_either (λ x. AllLists (λ g. P (x ∷ g)) b k) Q b first) λ all.
    inl (all_first P b k all)
