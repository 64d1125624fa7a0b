-- For one pattern of names: it follows, or a trial is against it.
--
-- trials_either: what can fail for trials fails for one of them or holds of all; exact: the theorem.
use Rattle.std.proofs.Common.{ℕ, zero, suc, ◌<◌, Bool, true, false, T, ◌⊎◌, List, length, inl, inr, ⊎_elim, arith}
use Rattle.claims.specs.Claims.{Atom}
use Rattle.claims.specs.Memory.{Names, Memory, sound, Says}
use Rattle.models.specs.Generic.{generic, stretched, Trial, plain, through}
use Rattle.models.specs.Follows.{Against, Exact}
use Rattle.models.proofs.Finite.{then-either, below_either}
use Rattle.models.proofs.Decidable.{Decided, says_decided}
use Rattle.models.proofs.Tried.{tried}

all_trials :
    {k : ℕ} {g : Names} {cs : List Atom} {m : Memory} (P : Memory → Type 0) → P (generic g cs) →
    ((i : ℕ) → i < length cs → (t : ℕ) → t < k → P (stretched g cs i (suc t))) → Trial k g cs m → P m
all_trials P p f plain = p
all_trials P p f (through i zero li l lk) = absurd (omega arith)
all_trials P p f (through i (suc t) li l lk) = f i li t lk

pub trials_either :
    (P : Memory → Type 0) (Q : Type 0) (k : ℕ) (g : Names) (cs : List Atom) → ((m : Memory) → Trial k g cs m → P m ⊎ Q) →
    ((m : Memory) → Trial k g cs m → P m) ⊎ Q
trials_either P Q k g cs f =
    then-either (f (generic g cs) plain) λ p.
    then-either (below_either (λ i. (t : ℕ) → t < k → P (stretched g cs i (suc t))) Q (length cs) stretches) λ all.
    inl (λ m. all_trials P p all)
  where
    stretches : (i : ℕ) → i < length cs → ((t : ℕ) → t < k → P (stretched g cs i (suc t))) ⊎ Q
    stretches i li =
        below_either (λ t. P (stretched g cs i (suc t))) Q k λ t lt.
        f (stretched g cs i (suc t)) (through i (suc t) li (omega arith) lt)

sound_decided : (b : Bool) → Decided (T b)
sound_decided true = inl tt
sound_decided false = inr (λ t. t)

pub exact : Exact
exact k g c d some_names len below c-fits d-fits =
    then-either (trials_either (λ m. T (sound m) → Says g m c → Says g m d) Failing k g c.atoms check) λ trials.
    inl (tried k g c d some_names below c-fits d-fits trials)
  where
    Failing : Type 0
    Failing = (m : Memory) × Trial k g c.atoms m × Against k c d g m

    go :
        (m : Memory) → Trial k g c.atoms m → (s : T (sound m)) → Decided (Says g m c) → Decided (Says g m d) →
        (T (sound m) → Says g m c → Says g m d) ⊎ Failing
    go m trial s (inl says-c) (inl says-d) = inl (λ _ _. says-d)
    go m trial s (inl says-c) (inr not-d) = inr (m, trial, record { names = len; sound_m = s; says = says-c; not = not-d })
    go m trial s (inr not-c) _ = inl (λ _ h. absurd (not-c h))

    check : (m : Memory) → Trial k g c.atoms m → (T (sound m) → Says g m c → Says g m d) ⊎ Failing
    check m trial =
        let sound-case = λ (s : T (sound m)). go m trial s (says_decided g m c s) (says_decided g m d s) in
        ⊎_elim sound-case (λ no-s. inl (λ s. absurd (no-s s))) (sound_decided (sound m))
