-- The words of a question, cut behind its first claim, are that claim's.
use Rattle.std.proofs.Common.{◌≡◌, ℕ, ◌+◌, ◌*◌, List, ◌∷◌, length, take, ap, ◌∙◌, arith, w64, Fits}
use Rattle.std.proofs.lemmas.List.{take_at}
use Rattle.claims.specs.Claims.{Question}
use Rattle.claims.specs.Words.{words, claim_words, Limits}
use Rattle.claims.proofs.ClaimWords.{length_claim}
use Rattle.memory.specs.Checking.{IsClaim}

-- a claim has few words
pub small :
    {q : Question} {p a : ℕ} → Limits q → length q.first.pures ≡ p → length q.first.atoms ≡ a → Fits w64 (3 * (p + a))
small h e f = omega (arith, e, f, h.first_fits.few_pures, h.first_fits.few_atoms)

pub small_more :
    {q : Question} {p a : ℕ} → Limits q → length q.first.pures ≡ p → length q.first.atoms ≡ a → Fits w64 (3 + 3 * (p + a))
small_more h e f = omega (arith, e, f, h.first_fits.few_pures, h.first_fits.few_atoms)

pub cut_claim :
    (q : Question) (ws vs : List ℕ) (p a : ℕ) → Limits q → ws ≡ words q → length q.first.pures ≡ p →
    length q.first.atoms ≡ a → vs ≡ take (3 + 3 * (p + a)) ws → IsClaim vs q.names q.first
cut_claim q ws vs p a h e f g t = record {
  some_names = h.some_names;
  few_names = h.few_names;
  words =
      t ∙ ap (take (3 + 3 * (p + a))) e ∙
      take_at (q.names ∷ claim_words q.first) (claim_words q.second) (3 + 3 * (p + a)) (omega (arith, length_claim q.first p a f g));
  fits = h.first_fits;
}
