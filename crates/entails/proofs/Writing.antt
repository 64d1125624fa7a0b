-- Writing down a memory, cell by cell.
--
-- all_stand: names that stand at the numbers of their representatives.
-- memory_push: two more words are one more cell; told_push: so it is where they are written into an array.
use Rattle.std.proofs.Common.{◌≡◌, ℕ, zero, suc, ◌+◌, ◌*◌, ◌%◌, ◌<◌, ◌≤◌, List, [], ◌∷◌, ◌++◌, length, get_or, take, set, sym, refl, ap, ◌∙◌, subst, arith, lit<, length-set}
use Rattle.std.proofs.lemmas.List.{take_more_set, length-take-le, append_assoc}
use Rattle.std.proofs.ByRecursion.{All-from_get_or}
use Rattle.std.proofs.lemmas.Bool.{ne_eqb}
use Rattle.claims.specs.Claims.{row}
use Rattle.claims.specs.Memory.{Names, at, Memory}
use Rattle.memory.specs.Marks.{memory_of}
use Rattle.models.specs.Generic.{linked_through}
use Rattle.linked.specs.Stands.{root}
use Rattle.linked.specs.declared.known.Known.{Known}
use Rattle.linked.proofs.Roots.{root_below}
use Rattle.matching.specs.Rules.{StandsAt}

pub all_stand :
    (m : ℕ) (k : Known) (g : List ℕ) → m ≤ 64 → length g ≡ 64 →
    ((y : ℕ) → y < 64 → (y < m → get_or g y 0 ≡ root k.stands y) × (get_or g y 0 < m)) → StandsAt m k g
all_stand m k g few full h =
    record { rooted = rooted; below = All-from_get_or (λ p. p < m) g 0 (λ i l. (h i (omega arith)).1) }
  where
    rooted : (x : ℕ) → x < m → at g x ≡ root k.stands x
    rooted zero l = let z = root_below k.stands k.falls 0 (lit< tt) in omega arith
    rooted (suc x) l = (h (suc x) (omega arith)).0 l

-- a row that isn't empty goes through t by two cells
pub through_full :
    (g : Names) (x y t : ℕ) → (at g x ≡ at g y → ⊥) →
    linked_through g (row x y) t ≡ record { place = at g x; holds = t } ∷ record { place = t; holds = at g y } ∷ []
through_full g x y t ne = rw (ne_eqb (at g x) (at g y) ne) refl

-- and so it is written
pub through_written :
    (g : Names) (x y t p q : ℕ) (m m1 m2 : Memory) → p ≡ at g x → q ≡ at g y → (p ≡ q → ⊥) →
    m1 ≡ m ++ record { place = p; holds = t } ∷ [] → m2 ≡ m1 ++ record { place = t; holds = q } ∷ [] →
    m2 ≡ m ++ linked_through g (row x y) t
through_written g x y t p q m m1 m2 ep eq ne e1 e2 =
    let full = through_full g x y t (λ e. ne (ep ∙ e ∙ sym eq)) in
    let two = append_assoc m (record { place = p; holds = t } ∷ []) (record { place = t; holds = q } ∷ []) in
    e2 ∙ ap (λ l. l ++ record { place = t; holds = q } ∷ []) e1 ∙ two ∙
    subst (λ u. m ++ record { place = p; holds = t } ∷ record { place = t; holds = q } ∷ [] ≡ m ++ u) (sym full)
    (ap (λ u. m ++ record { place = u; holds = t } ∷ record { place = t; holds = q } ∷ []) ep ∙ ap (λ u. m ++ record { place = at g x; holds = t } ∷ record { place = t; holds = u } ∷ []) eq)

pub memory_push :
    (s : List ℕ) (p q : ℕ) → length s % 2 ≡ 0 → memory_of (s ++ p ∷ q ∷ []) ≡ memory_of s ++ record { place = p; holds = q } ∷ []
memory_push [] p q e = refl
memory_push (x ∷ []) p q e = absurd (omega arith)
memory_push (x ∷ y ∷ s) p q e = ap (λ m. record { place = x; holds = y } ∷ m) (memory_push s p q (omega arith))

pub told_push :
    (s : List ℕ) (n p q : ℕ) → 2 * n + 1 < length s →
    memory_of (take (2 * (n + 1)) (set (set s (2 * n) p) (2 * n + 1) q)) ≡ memory_of (take (2 * n) s) ++ record { place = p; holds = q } ∷ []
told_push s n p q h =
    let twice : 2 * (n + 1) ≡ 2 * n + 1 + 1 = omega arith in
    let second = take_more_set (set s (2 * n) p) (2 * n + 1) q (omega (arith, length-set s (2 * n) p)) in
    let first = take_more_set s (2 * n) p (omega arith) in
    let words : take (2 * (n + 1)) (set (set s (2 * n) p) (2 * n + 1) q) ≡ take (2 * n) s ++ p ∷ q ∷ [] =
    ap (λ i. take i (set (set s (2 * n) p) (2 * n + 1) q)) twice ∙ second ∙ ap (λ l. l ++ q ∷ []) first ∙ append_assoc (take (2 * n) s) (p ∷ []) (q ∷ []) in
    ap memory_of words ∙ memory_push (take (2 * n) s) p q (omega (arith, length-take-le (2 * n) s (omega arith)))
