-- What `check` answers, told of the words of a case.
use Rattle.std.proofs.Common.{◌≡◌, ℕ, List, Result, subst}
use Rattle.memory.specs.Checking.{Answer, CheckedPost}
use Rattle.memory.specs.declared.checks.Refusal.{Refusal}
use Rattle.memory.specs.declared.deals.Why.{Why}

pub told :
    (s n t w w' s' n' t' : List ℕ) (r a : Result (Result Unit Why) Refusal) → CheckedPost s n t w w' r → s ≡ s' → n ≡ n' → t ≡ t' → r ≡ a →
    Answer s' n' t' w a
told s n t w w' s' n' t' r a h e f g i =
    let P : List ℕ → Type 0 = λ u. Answer u n t w r in
    let Q : List ℕ → Type 0 = λ u. Answer s' u t w r in
    let R : List ℕ → Type 0 = λ u. Answer s' n' u w r in
    let S : Result (Result Unit Why) Refusal → Type 0 = λ u. Answer s' n' t' w u in
    subst S i (subst R g (subst Q f (subst P e h.answer)))
