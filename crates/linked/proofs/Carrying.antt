-- Othernesses carried over from one name to another: the rows first, and then the name's own row.
use Rattle.std.proofs.Common.{◌≡◌, ℕ, ◌<◌, Bool, true, false, ◌||◌, ◌⊎◌, List, get_or, set, sym, refl, ap, ◌∙◌, subst, inl, inr, ⊎_elim, arith, length-set}
use Rattle.std.proofs.lemmas.List.{get_or-set_same, get_or-set_other}
use Rattle.std.proofs.lemmas.Bool.{cases_eq}
use Rattle.claims.specs.Memory.{at}
use Rattle.linked.specs.Bits.{has}
use Rattle.linked.specs.Stands.{none, Marked, Columned, Carried, Came, old, by_column, by_row, by_both}
use Rattle.linked.specs.declared.bits.NameSet.{NameSet}

pub or_left : (p q : Bool) → p ≡ true → (p || q) ≡ true
or_left p q e = ap (λ b. b || q) e

pub or_right : (p q : Bool) → q ≡ true → (p || q) ≡ true
or_right true q e = refl
or_right false q e = e

pub or_cases : (p q : Bool) → (p || q) ≡ true → (p ≡ true) ⊎ (q ≡ true)
or_cases true q e = inl refl
or_cases false q e = inr e

pub carry_made :
    (o p : List NameSet) (a b : ℕ) (u : NameSet) → a < 64 → b < 64 → Columned o a b 64 p →
    ((y : ℕ) → has u y ≡ (has (get_or p a none) y || has (get_or p b none) y)) → Carried o a b (set p a u)
carry_made o p a b u ha hb c e =
    record {
      full = length-set p a u ∙ c.full;
      kept = λ x y h m. ⊎_elim (λ i. at_a y (or_left _ _ (subst (λ z. has (get_or p z none) y ≡ true) i (c.kept x y h m))) x i) (λ d. off_a x y d (c.kept x y h m)) (cases_eq x a);
      row = λ y m. at_a y (or_right (has (get_or p a none) y) _ (c.kept b y hb m)) a refl;
      column = λ x h m. ⊎_elim (λ i. at_a a (or_left _ _ (subst (λ z. has (get_or p z none) a ≡ true) i (c.column x h m))) x i) (λ d. off_a x a d (c.column x h m)) (cases_eq x a);
      only =
          λ n s g x y hx hy m q.
          let f = c.only n s g in
          ⊎_elim
          (λ i.
          ⊎_elim (λ t. f a y ha hy t (sym (ap (at n) i) ∙ q)) (λ t. f b y hb hy t (sym s ∙ sym (ap (at n) i) ∙ q))
          (or_cases (has (get_or p a none) y) (has (get_or p b none) y) (sym (e y) ∙ sym (ap (λ r. has r y) here) ∙ subst (λ z. Marked (set p a u) z y) i m)))
          (λ d. f x y hx hy (sym (ap (λ r. has r y) (get_or-set_other p a x u none d)) ∙ m) q)
          (cases_eq x a);
      came =
          λ x y m.
          ⊎_elim
          (λ i.
          subst (λ z. Came o a b z y) (sym i)
          (⊎_elim
          (λ t. from_row a y (c.came a y t))
          (λ t. ⊎_elim (λ w. by_row w) (λ w. subst (λ z. Came o a b a z) (sym w.0) (by_both w.1)) (c.came b y t))
          (or_cases (has (get_or p a none) y) (has (get_or p b none) y) (sym (e y) ∙ sym (ap (λ r. has r y) here) ∙ subst (λ z. Marked (set p a u) z y) i m))))
          (λ d. from_row x y (c.came x y (sym (ap (λ r. has r y) (get_or-set_other p a x u none d)) ∙ m)))
          (cases_eq x a);
    }
  where
    from_row : (x y : ℕ) → Marked o x y ⊎ ((y ≡ a) × Marked o x b) → Came o a b x y
    from_row x y w = ⊎_elim old (λ v. subst (λ z. Came o a b x z) (sym v.0) (by_column v.1)) w

    here : get_or (set p a u) a none ≡ u
    here = get_or-set_same p a u none (omega (arith, c.full))

    at_a : (y : ℕ) → (has (get_or p a none) y || has (get_or p b none) y) ≡ true → (x : ℕ) → x ≡ a → Marked (set p a u) x y
    at_a y m x i = subst (λ z. Marked (set p a u) z y) (sym i) (ap (λ r. has r y) here ∙ e y ∙ m)

    off_a : (x y : ℕ) → (x ≡ a → ⊥) → Marked p x y → Marked (set p a u) x y
    off_a x y d m = ap (λ r. has r y) (get_or-set_other p a x u none d) ∙ m
