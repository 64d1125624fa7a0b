-- Fewer pairs of names are undecided when two are joined (`join_closer`) or parted (`part_closer`): what was decided stays
-- so, and these two are decided then (`fewer_pairs`).
use Rattle.std.proofs.Common.{◌≡◌, ℕ, zero, suc, ◌+◌, ◌*◌, ◌/◌, ◌%◌, ◌<◌, ◌≤◌, Bool, true, false, cond, not, ◌&&◌, get_or, set, sym, refl, ap, ◌∙◌, subst, ap₂, subst₂, ⊎_elim, arith, eq-eqb, ne_eqb}
use borrow.Author.Tests.{eqb-false, both_ways}
use Rattle.std.proofs.lemmas.Bool.{cases_eq, cases_Bool}
use Rattle.linked.specs.Bits.{has}
use Rattle.linked.specs.Stands.{root, none, Marked, Carried, Added}
use Rattle.linked.specs.Knowing.{known_same, known_other, undecided, undecided_of, open_pairs, Closer}
use Rattle.linked.specs.declared.known.Known.{Known}
use Rattle.linked.proofs.Roots.{root_below}
use Rattle.linked.proofs.Leading.{root_same_as_before, root_now_a}
use Rattle.linked.proofs.Carrying.{or_cases, or_left, or_right}

-- undecided: neither the same nor other
neither : (s o : Bool) → s ≡ false → o ≡ false → (not s && not o) ≡ true
neither s o e f = ap₂ (λ u v. not u && not v) e f

not_both : (s o : Bool) → (not s && not o) ≡ true → (s ≡ false) × (o ≡ false)
not_both true o e = absurd (both_ways false refl e)
not_both false true e = absurd (both_ways false refl e)
not_both false false e = (refl, refl)

pub decided_same : (k : Known) (x y : ℕ) → root k.stands x ≡ root k.stands y → undecided k x y ≡ false
decided_same k x y e = ap (λ b. not b && not (known_other k x y)) (eq-eqb (root k.stands x) (root k.stands y) e)

pub decided_other : (k : Known) (x y : ℕ) → known_other k x y ≡ true → undecided k x y ≡ false
decided_other k x y e = ap (λ b. not (known_same k x y) && not b) e ∙ right (known_same k x y)
  where
    right : (b : Bool) → (not b && false) ≡ false
    right true = refl
    right false = refl

-- what decides a pair stays: then what is undecided was undecided before
closer :
    (k j : Known) →
    ((x y : ℕ) → x < 64 → y < 64 → root k.stands x ≡ root k.stands y → root j.stands x ≡ root j.stands y) →
    ((x y : ℕ) → x < 64 → y < 64 → (root k.stands x ≡ root k.stands y → ⊥) → Marked k.others (root k.stands x) (root k.stands y) → Marked j.others (root j.stands x) (root j.stands y)) →
    Closer k j
closer k j same marked x y hx hy u =
    let n = not_both (known_same j x y) (known_other j x y) u in
    let d : root k.stands x ≡ root k.stands y → ⊥ =
    λ e. eqb-false (root j.stands x) (root j.stands y) n.0 (same x y hx hy e) in
    neither (known_same k x y) (known_other k x y) (ne_eqb (root k.stands x) (root k.stands y) d)
    (⊎_elim
    (λ t.
    ⊎_elim
    (λ m. absurd (both_ways (known_other j x y) n.1 (or_left _ _ (marked x y hx hy d m))))
    (λ m. absurd (both_ways (known_other j x y) n.1 (or_right (has (get_or j.others (root j.stands x) none) (root j.stands y)) _ (marked y x hy hx (λ e. d (sym e)) m))))
    (or_cases (has (get_or k.others (root k.stands x) none) (root k.stands y)) _ t))
    (λ f. f)
    (cases_Bool (known_other k x y)))

-- counting
one_or_none : (b c : Bool) → (b ≡ true → c ≡ true) → cond b 1 0 ≤ cond c 1 0
one_or_none true c h = subst (λ d. 1 ≤ cond d 1 0) (sym (h refl)) (omega arith)
one_or_none false c h = omega arith

module _ (k j : Known) (near : Closer k j) where
  pair_small : (i : ℕ) → i < 4096 → (i / 64 < 64) × (i % 64 < 64)
  pair_small i h = (omega arith, omega arith)

  none_more : (i : ℕ) → i ≤ 4096 → undecided_of j i ≤ undecided_of k i
  none_more zero h = omega arith
  none_more (suc i) h =
      let p = pair_small i (omega arith) in
      omega (arith, none_more i (omega arith), one_or_none (undecided j (i / 64) (i % 64)) (undecided k (i / 64) (i % 64)) (near (i / 64) (i % 64) p.0 p.1))

  pub none_more_pairs : open_pairs j ≤ open_pairs k
  unfolding open_pairs
  none_more_pairs = none_more 4096 (omega arith)

  one_fewer :
      (p : ℕ) → undecided k (p / 64) (p % 64) ≡ true → undecided j (p / 64) (p % 64) ≡ false → (i : ℕ) → p < i → i ≤ 4096 →
      undecided_of j i < undecided_of k i
  one_fewer p was is zero l h = absurd (omega arith)
  one_fewer p was is (suc i) l h =
      ⊎_elim
      (λ e.
      let a : ◌≡◌ {A = ℕ} (cond (undecided k (i / 64) (i % 64)) 1 0) 1 = ap (λ b. cond b 1 0) (subst (λ q. undecided k (q / 64) (q % 64) ≡ true) e was) in
      let b : ◌≡◌ {A = ℕ} (cond (undecided j (i / 64) (i % 64)) 1 0) 0 = ap (λ b. cond b 1 0) (subst (λ q. undecided j (q / 64) (q % 64) ≡ false) e is) in
      omega (arith, a, b, none_more i (omega arith)))
      (λ d.
      let q = pair_small i (omega arith) in
      let lt : p < i = omega arith in
      omega (arith, one_fewer p was is i lt (omega arith), one_or_none (undecided j (i / 64) (i % 64)) (undecided k (i / 64) (i % 64)) (near (i / 64) (i % 64) q.0 q.1)))
      (cases_eq p i)

  pub fewer_pairs : (x y : ℕ) → x < 64 → y < 64 → undecided k x y ≡ true → undecided j x y ≡ false → open_pairs j < open_pairs k
  unfolding open_pairs
  fewer_pairs x y hx hy was is =
      let a : (64 * x + y) / 64 ≡ x = omega arith in
      let b : (64 * x + y) % 64 ≡ y = omega arith in
      one_fewer (64 * x + y)
      (subst₂ (λ u v. undecided k u v ≡ true) (sym a) (sym b) was)
      (subst₂ (λ u v. undecided j u v ≡ false) (sym a) (sym b) is) 4096 (omega arith) (omega arith)

-- joining b to a: both stand for themselves, and b's othernesses are carried over
module _ (k j : Known) (a b : ℕ) (lower : a < b) (high : b < 64) (a_itself : get_or k.stands a 0 ≡ a) (b_itself : get_or k.stands b 0 ≡ b)
    (put : j.stands ≡ set k.stands b a) (carried : Carried k.others a b j.others) where
  before : (x : ℕ) → x < 64 → (root k.stands x ≡ b → ⊥) → root j.stands x ≡ root k.stands x
  before x h d = ap (λ s. root s x) put ∙ root_same_as_before k.stands a b k.all k.falls lower high a_itself b_itself x h d

  pub now_a : (x : ℕ) → x < 64 → root k.stands x ≡ b → root j.stands x ≡ a
  now_a x h e = ap (λ s. root s x) put ∙ root_now_a k.stands a b k.all k.falls lower high a_itself b_itself x h e

  pub still_a : (x : ℕ) → x < 64 → root k.stands x ≡ a → root j.stands x ≡ a
  still_a x h e = before x h (λ f. omega arith) ∙ e

  pub join_closer : Closer k j
  join_closer =
      closer k j
      (λ x y hx hy e.
      ⊎_elim (λ f. now_a x hx f ∙ sym (now_a y hy (sym e ∙ f))) (λ d. before x hx d ∙ e ∙ sym (before y hy (λ f. d (e ∙ f)))) (cases_eq (root k.stands x) b))
      (λ x y hx hy d m.
      ⊎_elim
      (λ f.
      let g : root k.stands y ≡ b → ⊥ = λ h. d (f ∙ sym h) in
      subst₂ (Marked j.others) (sym (now_a x hx f)) (sym (before y hy g)) (carried.row (root k.stands y) (subst (λ u. Marked k.others u (root k.stands y)) f m)))
      (λ f.
      ⊎_elim
      (λ g.
      subst₂ (Marked j.others) (sym (before x hx f)) (sym (now_a y hy g)) (carried.column (root k.stands x) (below x hx) (subst (λ u. Marked k.others (root k.stands x) u) g m)))
      (λ g. subst₂ (Marked j.others) (sym (before x hx f)) (sym (before y hy g)) (carried.kept (root k.stands x) (root k.stands y) (below x hx) m))
      (cases_eq (root k.stands y) b))
      (cases_eq (root k.stands x) b))
    where
      below : (x : ℕ) → x < 64 → root k.stands x < 64
      below x h = omega (arith, root_below k.stands k.falls x h)

-- parting the representatives a and b of x and y
module _ (k j : Known) (x y a b : ℕ) (hx : x < 64) (hy : y < 64) (ra : a ≡ root k.stands x) (rb : b ≡ root k.stands y)
    (stands : j.stands ≡ k.stands) (add : Added k.others a b j.others) where
  pub part_closer : Closer k j
  part_closer =
      closer k j
      (λ u v hu hv e. ap (λ s. root s u) stands ∙ e ∙ sym (ap (λ s. root s v) stands))
      (λ u v hu hv d m. subst (λ s. Marked j.others (root s u) (root s v)) (sym stands) (add.kept (root k.stands u) (root k.stands v) m))

  pub part_fewer : undecided k x y ≡ true → open_pairs j < open_pairs k
  part_fewer u =
      fewer_pairs k j part_closer x y hx hy u
      (decided_other j x y (or_left _ _ (subst₂ (Marked j.others) (ra ∙ sym (ap (λ s. root s x) stands)) (rb ∙ sym (ap (λ s. root s y) stands)) add.new)))
