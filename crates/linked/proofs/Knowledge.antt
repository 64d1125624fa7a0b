-- What knowledge of names says of the names that agree with it.
use Rattle.std.proofs.Common.{◌≡◌, ℕ, ◌<◌, true, ◌||◌, eqb, ◌⊎◌, ◌↔◌, List, [], length, get_or, set, Some, sym, refl, ap, ◌∙◌, subst, subst₂, inl, inr, ⊎_elim, arith, length-set, eq-eqb, eqb-true}
use Rattle.std.proofs.lemmas.List.{get_or-set_same, get_or-set_other}
use Rattle.std.proofs.lemmas.Bool.{cases_eq}
use Rattle.claims.specs.Memory.{Names, at}
use Rattle.linked.specs.Bits.{has}
use Rattle.linked.specs.Stands.{root, none, SameAs, Marked, Apart, Added}
use Rattle.linked.specs.Knowing.{Agrees, known_other, Joined, Parted}
use Rattle.linked.specs.declared.known.Known.{Known}
use Rattle.linked.specs.declared.bits.NameSet.{NameSet}
use Rattle.linked.proofs.Roots.{root_same, root_below}
use Rattle.linked.proofs.Carrying.{or_cases, or_left, or_right}

-- one more otherness: exactly the names that agreed and have a and b other
module _ (o : List NameSet) (a b : ℕ) (row : NameSet) (full : length o ≡ 64) (ha : a < 64) (hb : b < 64)
    (new : (z : ℕ) → has row z ≡ (has (get_or o a none) z || eqb z b)) (n : Names) where
  at_a : (z : ℕ) → Marked (set o a row) a z → Marked o a z ⊎ (z ≡ b)
  at_a z m =
      ⊎_elim inl (λ e. inr (eqb-true z b e))
      (or_cases (has (get_or o a none) z) (eqb z b) (sym (new z) ∙ sym (ap (λ r. has r z) (get_or-set_same o a row none (omega arith))) ∙ m))

  a_at : (z : ℕ) → (has (get_or o a none) z || eqb z b) ≡ true → Marked (set o a row) a z
  a_at z m = ap (λ r. has r z) (get_or-set_same o a row none (omega arith)) ∙ new z ∙ m

  off_a : (x z : ℕ) → (x ≡ a → ⊥) → has (get_or (set o a row) x none) z ≡ has (get_or o x none) z
  off_a x z d = ap (λ r. has r z) (get_or-set_other o a x row none d)

  pub apart_more : Apart o n → (at n a ≡ at n b → ⊥) → Apart (set o a row) n
  apart_more g d x z hx hz m e =
      ⊎_elim
      (λ i.
      let e' = sym (ap (at n) i) ∙ e in
      ⊎_elim (λ t. g a z ha hz t e') (λ t. d (e' ∙ ap (at n) t)) (at_a z (subst (λ w. Marked (set o a row) w z) i m)))
      (λ d'. g x z hx hz (sym (off_a x z d') ∙ m) e) (cases_eq x a)

  pub more_apart : Apart (set o a row) n → Apart o n × (at n a ≡ at n b → ⊥)
  more_apart g = (
    (λ x z hx hz m e.
        ⊎_elim
        (λ i. g a z ha hz (a_at z (or_left _ _ (subst (λ w. Marked o w z) i m))) (sym (ap (at n) i) ∙ e))
        (λ d. g x z hx hz (off_a x z d ∙ m) e) (cases_eq x a)),
    g a b ha hb (a_at b (or_right (has (get_or o a none) b) _ (eq-eqb b b refl))),
  )

pub added :
    (o : List NameSet) (a b : ℕ) (row : NameSet) → length o ≡ 64 → a < 64 → b < 64 →
    ((z : ℕ) → has row z ≡ (has (get_or o a none) z || eqb z b)) → Added o a b (set o a row)
added o a b row full ha hb new =
    record {
      full = length-set o a row ∙ full;
      kept =
          λ x z m.
          ⊎_elim
          (λ i. subst (λ w. Marked (set o a row) w z) (sym i) (a_at o a b row full ha hb new [] z (or_left _ _ (subst (λ w. Marked o w z) i m))))
          (λ d. off_a o a b row full ha hb new [] x z d ∙ m) (cases_eq x a);
      new = a_at o a b row full ha hb new [] b (or_right (has (get_or o a none) b) _ (eq-eqb b b refl));
      came =
          λ x z m.
          ⊎_elim
          (λ i. ⊎_elim (λ t. inl (subst (λ w. Marked o w z) (sym i) t)) (λ t. inr (i, t)) (at_a o a b row full ha hb new [] z (subst (λ w. Marked (set o a row) w z) i m)))
          (λ d. inl (sym (off_a o a b row full ha hb new [] x z d) ∙ m)) (cases_eq x a);
      only = λ n. (more_apart o a b row full ha hb new n, λ g. apart_more o a b row full ha hb new n g.0 g.1);
    }

-- names that have a and b other besides
pub part_made :
    (k j : Known) (a b : ℕ) → j.stands ≡ k.stands → Added k.others a b j.others → Parted k a b (Some j)
part_made k j a b e add n = (
  (λ g.
      let m = (add.only n).0 g.other in
      (record { same = subst (λ s. SameAs s n) e g.same; other = m.0 }, m.1)),
  (λ g. record { same = subst (λ s. SameAs s n) (sym e) g.0.same; other = (add.only n).1 (g.0.other, g.1) }),
)

module _ (k : Known) (x y : ℕ) (hx : x < 64) (hy : y < 64) where
  -- a name stands for what its representative stands for
  pub to_root : (n : Names) → Agrees k n → at n x ≡ at n (root k.stands x)
  to_root n g = root_same k.stands n k.falls g.same x hx

  to_root_y : (n : Names) → Agrees k n → at n y ≡ at n (root k.stands y)
  to_root_y n g = root_same k.stands n k.falls g.same y hy

  rx : root k.stands x < 64
  rx = omega (arith, root_below k.stands k.falls x hx)

  ry : root k.stands y < 64
  ry = omega (arith, root_below k.stands k.falls y hy)

  pub same_known : (n : Names) → Agrees k n → root k.stands x ≡ root k.stands y → at n x ≡ at n y
  same_known n g e = to_root n g ∙ ap (at n) e ∙ sym (to_root_y n g)

  pub other_known : (n : Names) → Agrees k n → known_other k x y ≡ true → at n x ≡ at n y → ⊥
  other_known n g o e =
      let d = sym (to_root n g) ∙ e ∙ to_root_y n g in
      ⊎_elim (λ m. g.other (root k.stands x) (root k.stands y) rx ry m d)
      (λ m. g.other (root k.stands y) (root k.stands x) ry rx m (sym d))
      (or_cases (has (get_or k.others (root k.stands x) none) (root k.stands y)) _ o)

  -- two names are the same just if their representatives are
  pub by_roots :
      (n : Names) → Agrees k n → (at n x ≡ at n y) ↔ (at n (root k.stands x) ≡ at n (root k.stands y))
  by_roots n g = ((λ e. sym (to_root n g) ∙ e ∙ to_root_y n g), (λ e. to_root n g ∙ e ∙ sym (to_root_y n g)))

  -- joining the representatives joins the names
  pub join_roots : (j : Known) (a b : ℕ) → a ≡ root k.stands x → b ≡ root k.stands y → Joined k a b (Some j) → Joined k x y (Some j)
  join_roots j a b ea eb f' n =
      let f = subst₂ (λ u v. Joined k u v (Some j)) ea eb f' in (
        (λ g. (((f n).0 g).0, (by_roots n ((f n).0 g).0).1 ((f n).0 g).1)),
        (λ g. (f n).1 (g.0, (by_roots n g.0).0 g.1)),
      )

  -- and parting them parts the names
  pub part_roots : (j : Known) (a b : ℕ) → a ≡ root k.stands x → b ≡ root k.stands y → Parted k a b (Some j) → Parted k x y (Some j)
  part_roots j a b ea eb f' n =
      let f = subst₂ (λ u v. Parted k u v (Some j)) ea eb f' in (
        (λ g. (((f n).0 g).0, λ e. ((f n).0 g).1 ((by_roots n ((f n).0 g).0).0 e))),
        (λ g. (f n).1 (g.0, λ e. g.1 ((by_roots n g.0).1 e))),
      )

pub join_swapped : (k j : Known) (a b : ℕ) → Joined k a b (Some j) → Joined k b a (Some j)
join_swapped k j a b f n =
    ((λ g. (((f n).0 g).0, sym ((f n).0 g).1)), (λ g. (f n).1 (g.0, sym g.1)))
