-- The way up as a relation, and how it changes when a name is put below another (`root-join`).
use Rattle.std.proofs.Common.{◌≡◌, ℕ, zero, suc, ◌<◌, List, length, get_or, set, sym, refl, ap, ◌∙◌, subst, ⊎_elim, eq-or-lt_of_le, arith}
use Rattle.std.proofs.lemmas.List.{get_or-set_same, get_or-set_other}
use Rattle.std.proofs.lemmas.Bool.{cases_eq}
use Rattle.linked.specs.Stands.{Falls, up, root}
use Rattle.linked.proofs.Roots.{up_stays, root_stays, join_falls}

-- the way up from the first name ends at the second
data Leads (s : List ℕ) : ℕ → ℕ → Type 0 where
  stop : {r : ℕ} → get_or s r 0 ≡ r → Leads s r r
  go : {x r : ℕ} → Leads s (get_or s x 0) r → Leads s x r

leads_end : {s : List ℕ} {x r : ℕ} → Leads s x r → get_or s r 0 ≡ r
leads_end (stop e) = e
leads_end (go l) = leads_end l

up_leads : (s : List ℕ) (k x : ℕ) → get_or s (up k s x) 0 ≡ up k s x → Leads s x (up k s x)
unfolding up
up_leads s zero x e = stop e
up_leads s (suc k) x e = go (up_leads s k (get_or s x 0) e)

root_leads : (s : List ℕ) → Falls s → (x : ℕ) → x < 64 → Leads s x (root s x)
unfolding root
root_leads s f x h = up_leads s 64 x (root_stays s f x h)

-- from a name that stands for itself it leads nowhere else
fixed_leads : {s : List ℕ} {x r : ℕ} → Leads s x r → get_or s x 0 ≡ x → x ≡ r
fixed_leads (stop e) f = refl
fixed_leads {s} (go w) f = sym f ∙ fixed_leads w (ap (λ y. get_or s y 0) f)

-- a way of any length ends where the root is
leads_up : {s : List ℕ} {x r : ℕ} → Falls s → x < 64 → Leads s x r → (k : ℕ) → x < k → up k s x ≡ r
unfolding up
leads_up {s} {x} f h (stop e) k l = up_stays s k x e
leads_up f h (go w) zero l = absurd (omega arith)
leads_up {s} {x} f h (go w) (suc k) l =
    ⊎_elim
    (λ e. ap (up k s) e ∙ up_stays s k x e ∙ fixed_leads (go w) e)
    (λ lt. leads_up f (omega arith) w k (omega arith))
    (eq-or-lt_of_le (f x h))

leads_root : {s : List ℕ} {x r : ℕ} → Falls s → x < 64 → Leads s x r → root s x ≡ r
unfolding root
leads_root f h w = leads_up f h w 64 h

-- one step up leads to the same
pub root-up : (s : List ℕ) → Falls s → (x : ℕ) → x < 64 → root s (get_or s x 0) ≡ root s x
root-up s f x h = sym (leads_root f h (go (root_leads s f (get_or s x 0) (omega (arith, f x h)))))

-- b, which stands for itself, is put below a, which does too
module _ (s : List ℕ) (a b : ℕ) (full : length s ≡ 64) (falls : Falls s) (lower : a < b) (high : b < 64)
    (a_itself : get_or s a 0 ≡ a) (b_itself : get_or s b 0 ≡ b) where
  at_b : get_or (set s b a) b 0 ≡ a
  at_b = get_or-set_same s b a 0 (omega arith)

  off_b : (x : ℕ) → (x ≡ b → ⊥) → get_or (set s b a) x 0 ≡ get_or s x 0
  off_b x d = get_or-set_other s b x a 0 d

  leads_on : {x r : ℕ} → Leads s x r → (r ≡ b → ⊥) → Leads (set s b a) x r
  leads_on {r = r} (stop e) d = stop (off_b r d ∙ e)
  leads_on {x} {r} (go w) d =
      let n : x ≡ b → ⊥ = λ i. d (sym (fixed_leads (go w) (ap (λ y. get_or s y 0) i ∙ b_itself ∙ sym i)) ∙ i) in
      go (subst (λ y. Leads (set s b a) y r) (sym (off_b x n)) (leads_on w d))

  from_b : Leads (set s b a) b a
  from_b = go (subst (λ y. Leads (set s b a) y a) (sym at_b) (stop (off_b a (λ i. omega arith) ∙ a_itself)))

  leads_below : {x r : ℕ} → Leads s x r → r ≡ b → Leads (set s b a) x a
  leads_below {r = r} (stop e) i = subst (λ y. Leads (set s b a) y a) (sym i) from_b
  leads_below {x} (go w) i =
      ⊎_elim (λ j. subst (λ y. Leads (set s b a) y a) (sym j) from_b)
      (λ d. go (subst (λ y. Leads (set s b a) y a) (sym (off_b x d)) (leads_below w i))) (cases_eq x b)

  pub root_same_as_before : (x : ℕ) → x < 64 → (root s x ≡ b → ⊥) → root (set s b a) x ≡ root s x
  root_same_as_before x h d = leads_root (join_falls s a b full falls lower high) h (leads_on (root_leads s falls x h) d)

  pub root_now_a : (x : ℕ) → x < 64 → root s x ≡ b → root (set s b a) x ≡ a
  root_now_a x h e = leads_root (join_falls s a b full falls lower high) h (leads_below (root_leads s falls x h) e)
