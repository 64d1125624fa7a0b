-- Knowledge stays clear: no class of names is marked other than itself, since what is marked is marked of the
-- representatives too, and these are never joined when they are marked.
use Rattle.std.proofs.Common.{◌≡◌, ℕ, ◌<◌, Bool, true, false, List, length, get_or, set, sym, refl, ap, ◌∙◌, subst, subst₂, ⊎_elim, arith}
use borrow.Author.Tests.{both_ways}
use Rattle.std.proofs.lemmas.Bool.{cases_eq}
use Rattle.linked.specs.Stands.{Falls, root, Marked, Closed, Clear, Loose, Mixed, Came, old, by_column, by_row, by_both, Carried, Added}
use Rattle.linked.specs.declared.known.Known.{Known}
use Rattle.linked.specs.declared.bits.NameSet.{NameSet}
use Rattle.linked.proofs.Roots.{root_below, up_stays, join_falls}
use Rattle.linked.proofs.Leading.{root_same_as_before, root_now_a}

pub root_itself : (s : List ℕ) (x : ℕ) → get_or s x 0 ≡ x → root s x ≡ x
unfolding root
root_itself s x e = up_stays s 64 x e

not-not : (c : Bool) → ((c ≡ true → ⊥) → ⊥) → c ≡ true
not-not true h = refl
not-not false h = absurd (h (λ e. both_ways false refl e))

pub marked_root : (s : List ℕ) (o : List NameSet) → Closed s o → (x y : ℕ) → x < 64 → y < 64 → Marked o x y → Marked o (root s x) (root s y)
marked_root s o closed x y hx hy m = not-not _ (closed x y hx hy m)

-- of knowledge
pub closed_of : (k : Known) → Closed k.stands k.others
closed_of k x y hx hy m u = k.closed x y (record { x_small = hx; y_small = hy; marked = m; unmarked = u })

pub clear_of : (k : Known) → Clear k.stands k.others
clear_of k x y hx hy m e = k.clear x y (record { x_small = hx; y_small = hy; marked = m; one = e })

pub not_loose : (s : List ℕ) (o : List NameSet) → Closed s o → (x y : ℕ) → Loose s o x y → ⊥
not_loose s o c x y l = c x y l.x_small l.y_small l.marked l.unmarked

pub not_mixed : (s : List ℕ) (o : List NameSet) → Clear s o → (x y : ℕ) → Mixed s o x y → ⊥
not_mixed s o c x y l = c x y l.x_small l.y_small l.marked l.one

-- a and b, which stand for themselves and are not the same, are other besides
module _ (s : List ℕ) (o p : List NameSet) (a b : ℕ) (ra : root s a ≡ a) (rb : root s b ≡ b) (apart : a ≡ b → ⊥)
    (closed : Closed s o) (clear : Clear s o) (add : Added o a b p) where
  pub added_closed : Closed s p
  added_closed x y hx hy m no-mark = no-mark
      (⊎_elim (λ t. add.kept (root s x) (root s y) (marked_root s o closed x y hx hy t))
      (λ t. subst₂ (Marked p) (sym (ap (root s) t.0 ∙ ra)) (sym (ap (root s) t.1 ∙ rb)) add.new) (add.came x y m))

  pub added_clear : Clear s p
  added_clear x y hx hy m e =
      ⊎_elim (λ t. clear x y hx hy t e)
      (λ t. apart (sym ra ∙ sym (ap (root s) t.0) ∙ e ∙ ap (root s) t.1 ∙ rb)) (add.came x y m)

-- a and b, which stand for themselves and are not marked other, become one
module _ (s : List ℕ) (o p : List NameSet) (a b : ℕ) (full : length s ≡ 64) (falls : Falls s) (lower : a < b) (high : b < 64)
    (a_itself : get_or s a 0 ≡ a) (b_itself : get_or s b 0 ≡ b) (ab : Marked o a b → ⊥) (ba : Marked o b a → ⊥)
    (closed : Closed s o) (clear : Clear s o) (carried : Carried o a b p) where
  ha : a < 64
  ha = omega arith

  ra : root s a ≡ a
  ra = root_itself s a a_itself

  rb : root s b ≡ b
  rb = root_itself s b b_itself

  stays : (x : ℕ) → x < 64 → (root s x ≡ b → ⊥) → root (set s b a) x ≡ root s x
  stays = root_same_as_before s a b full falls lower high a_itself b_itself

  becomes : (x : ℕ) → x < 64 → root s x ≡ b → root (set s b a) x ≡ a
  becomes = root_now_a s a b full falls lower high a_itself b_itself

  a_stays : root (set s b a) a ≡ a
  a_stays = stays a ha (λ e. omega (arith, ra, e)) ∙ ra

  b_joins : root (set s b a) b ≡ root (set s b a) a
  b_joins = becomes b high rb ∙ sym a_stays

  small : (x : ℕ) → x < 64 → root s x < 64
  small x h = omega (arith, root_below s falls x h)

  -- of what was marked, the representatives are marked
  old_closed : (x y : ℕ) → x < 64 → y < 64 → Marked o x y → Marked p (root (set s b a) x) (root (set s b a) y)
  old_closed x y hx hy m =
      let d = clear x y hx hy m in
      let c = marked_root s o closed x y hx hy m in
      ⊎_elim
      (λ e.
      subst₂ (Marked p) (sym (becomes x hx e)) (sym (stays y hy (λ f. d (e ∙ sym f)))) (carried.row (root s y) (subst (λ u. Marked o u (root s y)) e c)))
      (λ ne.
      ⊎_elim
      (λ f. subst₂ (Marked p) (sym (stays x hx ne)) (sym (becomes y hy f)) (carried.column (root s x) (small x hx) (subst (Marked o (root s x)) f c)))
      (λ nf. subst₂ (Marked p) (sym (stays x hx ne)) (sym (stays y hy nf)) (carried.kept (root s x) (root s y) (small x hx) c))
      (cases_eq (root s y) b))
      (cases_eq (root s x) b)

  marks : (x y : ℕ) → x < 64 → y < 64 → Marked p x y → Marked p (root (set s b a) x) (root (set s b a) y)
  marks x y hx hy m = go (carried.came x y m) hx hy
    where
      go : {x y : ℕ} → Came o a b x y → x < 64 → y < 64 → Marked p (root (set s b a) x) (root (set s b a) y)
      go {x} {y} (old t) hx hy = old_closed x y hx hy t
      go {x} (by_column t) hx hy =
          subst (λ u. Marked p (root (set s b a) x) u) b_joins (old_closed x b hx high t)
      go {y = y} (by_row t) hx hy = subst (λ u. Marked p u (root (set s b a) y)) b_joins (old_closed b y high hy t)
      go (by_both t) hx hy = absurd (clear b b high high t refl)

  pub carried_closed : Closed (set s b a) p
  carried_closed x y hx hy m no-mark = no-mark (marks x y hx hy m)

  -- none is marked other than itself
  no_self : {x y : ℕ} → Came o a b x y → x < 64 → y < 64 → x ≡ y → ⊥
  no_self {x} {y} (old t) hx hy e = clear x y hx hy t (ap (root s) e)
  no_self (by_column t) hx hy e = ab (subst (λ u. Marked o u b) e t)
  no_self (by_row t) hx hy e = ba (subst (Marked o b) (sym e) t)
  no_self (by_both t) hx hy e = clear b b high high t refl

  pub carried_clear : Clear (set s b a) p
  carried_clear x y hx hy m e =
      let below : (z : ℕ) → z < 64 → root (set s b a) z < 64 =
      λ z h. omega (arith, root_below (set s b a) (join_falls s a b full falls lower high) z h) in
      no_self (carried.came (root (set s b a) x) (root (set s b a) y) (marks x y hx hy m)) (below x hx) (below y hy) e
