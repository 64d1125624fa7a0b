-- Bits of numbers: of a union (`bit-bit_or`), of a single one (`bit_pow`), and that a number has one (`bit_some`).
use Rattle.std.proofs.Common.{◌≡◌, ℕ, zero, suc, ◌*◌, ◌%◌, ◌^◌, ◌<◌, true, false, ◌||◌, eqb, max, sym, refl, ap, ◌∙◌, subst, ⊎_elim, arith, eq-eqb, ne_eqb, bit_and, bit_or, w64}
use Rattle.std.proofs.lemmas.Nat.{one_shl}
use Rattle.std.proofs.lemmas.Nat.Bits.{bit_at-zero, bit_at-lt, bit_at_and, bit_at_or, bit_at-pow_same, bit_at-pow_other, bit_at-trailing_zeros}
use Rattle.std.proofs.lemmas.Bool.{cases_eq}
use Rattle.std.specs.Int.{trailing_zeros}
use Rattle.linked.specs.Bits.{bit}

or_last : (x y : ℕ) → x < 2 → y < 2 → eqb (max x y) 1 ≡ (eqb x 1 || eqb y 1)
or_last zero zero h k = refl
or_last zero (suc zero) h k = refl
or_last (suc zero) zero h k = refl
or_last (suc zero) (suc zero) h k = refl
or_last zero (suc (suc y)) h k = absurd (omega arith)
or_last (suc zero) (suc (suc y)) h k = absurd (omega arith)
or_last (suc (suc x)) y h k = absurd (omega arith)

pub bit-bit_or : (a b j : ℕ) → bit (bit_or a b) j ≡ (bit a j || bit b j)
bit-bit_or a b j = ap (λ n. eqb n 1) (bit_at_or a b j) ∙ or_last _ _ (bit_at-lt a j) (bit_at-lt b j)

pub bit_pow : (k j : ℕ) → bit (2 ^ k) j ≡ eqb j k
bit_pow k j =
    ⊎_elim (λ e. subst (λ x. bit (2 ^ x) j ≡ eqb j x) e (ap (λ n. eqb n 1) (bit_at-pow_same j) ∙ sym (eq-eqb j j refl)))
    (λ n. ap (λ b. eqb b 1) (bit_at-pow_other k j n) ∙ sym (ne_eqb j k n)) (cases_eq j k)

-- one more bit, of a number of w bits
pub bit_with : (s k w j : ℕ) → k < w → bit (bit_or s (1 * 2 ^ k % 2 ^ w)) j ≡ (bit s j || eqb j k)
bit_with s k w j h =
    bit-bit_or s (1 * 2 ^ k % 2 ^ w) j ∙ ap (λ n. bit s j || bit n j) (one_shl k w h) ∙ ap (λ b. bit s j || b) (bit_pow k j)

pub bit-none : (k : ℕ) → bit 0 k ≡ false
bit-none k = ap (λ n. eqb n 1) (bit_at-zero k)

-- two numbers that have something in common have a bit in common
pub bit_some :
    (a b : ℕ) → 0 < bit_and a b → bit_and a b < 2 ^ 64 → (x : ℕ) × (x < 64) × (bit a x ≡ true) × (bit b x ≡ true)
bit_some a b some below =
    let z = bit_at-trailing_zeros w64 (bit_and a b) some below in
    let x = trailing_zeros w64 (bit_and a b) in
    let m = sym (bit_at_and a b x) ∙ z.1 in
    (x, z.0, eq-eqb _ 1 (omega (arith, m, bit_at-lt a x)), eq-eqb _ 1 (omega (arith, m, bit_at-lt b x)))
