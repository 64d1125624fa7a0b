-- Patterns of names: which names below k stand for the same.
--
-- pattern: a list of numbers below k for each pattern; pattern_like: any names have the pattern of one.
use Rattle.std.proofs.Common.{◌≡◌, ℕ, zero, suc, ◌<◌, ◌≤◌, cond, eqb, ◌⊎◌, map, length, get_or, sym, refl, ap, ◌∙◌, subst, inl, inr, le_of_eq, arith}
use Rattle.std.specs.List.{range_with_len, AllByRecursion}
use Rattle.std.proofs.lemmas.Bool.{cases_eq, eq-eqb, ne_eqb}
use Rattle.std.proofs.lemmas.List.FromFn.{length-map-range_with_len, get_or-map-range_with_len}
use Rattle.std.proofs.ByRecursion.{All-from_get_or}
use Rattle.claims.specs.Memory.{Names, at}
use Rattle.models.specs.Generic.{Like}

-- the least name up to b that stands for the place v; b, if none does
pub lowest : Names → ℕ → ℕ → ℕ
lowest n v zero = 0
lowest n v (suc b) = cond (eqb (at n (lowest n v b)) v) (lowest n v b) (suc b)

-- one more name stands for the place, or the lowest is the same
lowest_more : (n : Names) (v b : ℕ) → at n (lowest n v b) ≡ v → lowest n v (suc b) ≡ lowest n v b
unfolding lowest
lowest_more n v b e = rw (eq-eqb (at n (lowest n v b)) v e) refl

lowest_new : (n : Names) (v b : ℕ) → (at n (lowest n v b) ≡ v → ⊥) → lowest n v (suc b) ≡ suc b
unfolding lowest
lowest_new n v b ne = rw (ne_eqb (at n (lowest n v b)) v ne) refl

lowest_below : (n : Names) (v b : ℕ) → lowest n v b ≤ b
unfolding lowest
lowest_below n v zero = omega arith
lowest_below n v (suc b) = go (lowest_below n v b) (cases_eq (at n (lowest n v b)) v)
  where
    go : lowest n v b ≤ b → (at n (lowest n v b) ≡ v) ⊎ (at n (lowest n v b) ≡ v → ⊥) → lowest n v (suc b) ≤ suc b
    go l (inl e) = omega (arith, lowest_more n v b e)
    go l (inr ne) = omega (arith, lowest_new n v b ne)

pub lowest_least : (n : Names) (v b y : ℕ) → y ≤ b → at n y ≡ v → (at n (lowest n v b) ≡ v) × (lowest n v b ≤ y)
unfolding lowest
lowest_least n v zero y l h = let z : y ≡ 0 = omega arith in (rw z at h, omega arith)
lowest_least n v (suc b) y l h =
    go (λ lb. lowest_least n v b y lb h) (cases_eq (at n (lowest n v b)) v) (cases_eq y (suc b))
  where
    go :
        (y ≤ b → (at n (lowest n v b) ≡ v) × (lowest n v b ≤ y)) →
        (at n (lowest n v b) ≡ v) ⊎ (at n (lowest n v b) ≡ v → ⊥) → (y ≡ suc b) ⊎ (y ≡ suc b → ⊥) →
        (at n (lowest n v (suc b)) ≡ v) × (lowest n v (suc b) ≤ y)
    go before (inl e) (inl z) = rw (lowest_more n v b e) (e, omega (arith, lowest_below n v b))
    go before (inl e) (inr nz) = rw (lowest_more n v b e) (e, (before (omega arith)).1)
    go before (inr ne) (inl z) = rw (lowest_new n v b ne) (subst (λ x. at n x ≡ v) z h, le_of_eq (sym z))
    go before (inr ne) (inr nz) = absurd (ne (before (omega arith)).0)

-- each name's lowest name that stands for the same
pub pattern : Names → ℕ → Names
pattern n k = map (λ x. lowest n (at n x) k) (range_with_len 0 k)

pub pattern_length : (n : Names) (k : ℕ) → length (pattern n k) ≡ k
unfolding pattern
pattern_length n k = length-map-range_with_len (λ x. lowest n (at n x) k) 0 k

pattern_get : (n : Names) (k x : ℕ) → x < k → get_or (pattern n k) x 0 ≡ lowest n (at n x) k
unfolding pattern
pattern_get n k x l = get_or-map-range_with_len (λ x. lowest n (at n x) k) 0 k x x 0 l (omega arith)

at_pattern : (n : Names) (k x : ℕ) → x < k → at (pattern n k) x ≡ lowest n (at n x) k
at_pattern n k zero l = omega (arith, (lowest_least n 0 k 0 (omega arith) refl).1)
at_pattern n k (suc x) l = pattern_get n k (suc x) l

pub pattern_below : (n : Names) (k : ℕ) → AllByRecursion (λ p. p < k) (pattern n k)
pattern_below n k =
    All-from_get_or (λ p. p < k) (pattern n k) 0 λ i l.
    let within : i < k = omega (arith, pattern_length n k) in
    rw (pattern_get n k i within) (omega (arith, (lowest_least n (at n i) k i (omega arith) refl).1))

pub pattern_like : (n : Names) (k : ℕ) → Like k (pattern n k) n
pattern_like n k x y lx ly = (to, from)
  where
    stands : (z : ℕ) → z < k → at n (lowest n (at n z) k) ≡ at n z
    stands z l = (lowest_least n (at n z) k z (omega arith) refl).0

    to : at (pattern n k) x ≡ at (pattern n k) y → at n x ≡ at n y
    to e =
        let same-lowest = sym (at_pattern n k x lx) ∙ (e ∙ at_pattern n k y ly) in
        sym (stands x lx) ∙ (ap (λ z. at n z) same-lowest ∙ stands y ly)

    from : at n x ≡ at n y → at (pattern n k) x ≡ at (pattern n k) y
    from e = at_pattern n k x lx ∙ (ap (λ v. lowest n v k) e ∙ sym (at_pattern n k y ly))
