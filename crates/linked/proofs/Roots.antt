-- The way up from a name to the one that stands for it.
--
-- Where the entries fall, the way ends at a name that stands for itself (`root_stays`), and names that agree with the
-- entries stand for what their representatives stand for (`root_same`).
use Rattle.std.proofs.Common.{◌≡◌, ℕ, zero, suc, ◌+◌, ◌-◌, ◌<◌, ◌≤◌, List, length, get_or, set, sym, refl, ap, ◌∙◌, subst, ⊎_elim, eq-or-lt_of_le, arith}
use Rattle.std.proofs.lemmas.List.{get_or-set_same, get_or-set_other}
use Rattle.std.proofs.lemmas.Bool.{cases_eq}
use Rattle.claims.specs.Memory.{Names, at}
use Rattle.linked.specs.Stands.{Falls, up, root, SameAs}

-- the turns of a loop that goes up
pub up_start : (s : List ℕ) (x : ℕ) → up (64 - 0) s x ≡ root s x
unfolding root
up_start s x = refl

pub up_next : (s : List ℕ) (k x : ℕ) → k < 64 → up (64 - (k + 1)) s (get_or s x 0) ≡ up (64 - k) s x
unfolding up
up_next s k x h =
    let e : 64 - k ≡ suc (64 - (k + 1)) = omega arith in
    sym (ap (λ j. up j s x) e)

pub up_stays : (s : List ℕ) (k x : ℕ) → get_or s x 0 ≡ x → up k s x ≡ x
unfolding up
up_stays s zero x e = refl
up_stays s (suc k) x e = ap (up k s) e ∙ up_stays s k x e

pub up-end : (s : List ℕ) (k x : ℕ) → 64 ≤ k → up (64 - k) s x ≡ x
unfolding up
up-end s k x h = let e : 64 - k ≡ 0 = omega arith in ap (λ j. up j s x) e

-- what agrees with the entries agrees all the way up
pub up_same : (s : List ℕ) (n : Names) → Falls s → SameAs s n → (k x : ℕ) → x < 64 → at n x ≡ at n (up k s x)
unfolding up
up_same s n f a zero x h = refl
up_same s n f a (suc k) x h = a x h ∙ up_same s n f a k (get_or s x 0) (omega (arith, f x h))

pub root_same : (s : List ℕ) (n : Names) → Falls s → SameAs s n → (x : ℕ) → x < 64 → at n x ≡ at n (root s x)
unfolding root
root_same s n f a x h = up_same s n f a 64 x h

pub up_below : (s : List ℕ) → Falls s → (k x : ℕ) → x < 64 → up k s x ≤ x
unfolding up
up_below s f zero x h = omega arith
up_below s f (suc k) x h = omega (arith, f x h, up_below s f k (get_or s x 0) (omega (arith, f x h)))

pub root_below : (s : List ℕ) → Falls s → (x : ℕ) → x < 64 → root s x ≤ x
unfolding root
root_below s f x h = up_below s f 64 x h

-- more steps than x lead to a name that stands for itself
up_ends : (s : List ℕ) → Falls s → (k x : ℕ) → x < 64 → x < k → get_or s (up k s x) 0 ≡ up k s x
unfolding up
up_ends s f zero x h l = absurd (omega arith)
up_ends s f (suc k) x h l =
    ⊎_elim
    (λ e. ap (λ y. get_or s y 0) (ap (up k s) e ∙ up_stays s k x e) ∙ e ∙ sym (ap (up k s) e ∙ up_stays s k x e))
    (λ lt. up_ends s f k (get_or s x 0) (omega arith) (omega arith))
    (eq-or-lt_of_le (f x h))

pub root_stays : (s : List ℕ) → Falls s → (x : ℕ) → x < 64 → get_or s (root s x) 0 ≡ root s x
unfolding root
root_stays s f x h = up_ends s f 64 x h h

-- joining: b, which stands for itself, is put below a
module _ (s : List ℕ) (a b : ℕ) (full : length s ≡ 64) (falls : Falls s) (lower : a < b) (high : b < 64) where
  entry_b : get_or (set s b a) b 0 ≡ a
  entry_b = get_or-set_same s b a 0 (omega arith)

  entry_other : (x : ℕ) → (x ≡ b → ⊥) → get_or (set s b a) x 0 ≡ get_or s x 0
  entry_other x d = get_or-set_other s b x a 0 d

  pub join_falls : Falls (set s b a)
  join_falls x h =
      ⊎_elim (λ e. subst (λ y. get_or (set s b a) y 0 ≤ y) (sym e) (omega (arith, entry_b)))
      (λ d. omega (arith, entry_other x d, falls x h)) (cases_eq x b)

  -- exactly the names that agreed and have a and b the same
  pub join_same : (n : Names) → get_or s b 0 ≡ b → SameAs (set s b a) n → SameAs s n × (at n b ≡ at n a)
  join_same n e g = (
    (λ x h.
        ⊎_elim (λ i. subst (λ y. at n y ≡ at n (get_or s y 0)) (sym i) (ap (at n) (sym e)))
        (λ d. g x h ∙ ap (at n) (entry_other x d)) (cases_eq x b)),
    g b high ∙ ap (at n) entry_b,
  )

  pub same_join : (n : Names) → SameAs s n → at n b ≡ at n a → SameAs (set s b a) n
  same_join n g e x h =
      ⊎_elim (λ i. subst (λ y. at n y ≡ at n (get_or (set s b a) y 0)) (sym i) (e ∙ ap (at n) (sym entry_b)))
      (λ d. g x h ∙ ap (at n) (sym (entry_other x d))) (cases_eq x b)
