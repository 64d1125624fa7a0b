-- What words ask: the ways of `whole_claim` and of `check`.
use Rattle.std.proofs.Common.{◌≡◌, ℕ, ◌+◌, ◌*◌, ◌%◌, ◌≤◌, true, Bool, T, List, [], ◌∷◌, ◌++◌, length, take, drop, Ok, Err, Result, false, refl, sym, ap, ◌∙◌, subst, arith}
use borrow.Rule.Slice.PartMut.{put_mid}
use Rattle.std.proofs.lemmas.List.{append-nil, take-append-drop}
use Rattle.claims.specs.Claims.{Claim}
use Rattle.claims.specs.Words.{claim_words, Fits}
use Rattle.claims.specs.Memory.{Memory, sound, Says}
use Rattle.claims.specs.Decoding.{decoded_claim, Decodes}
use Rattle.claims.specs.declared.decoded.Decoded.{Decoded}
use Rattle.claims.proofs.ClaimWords.{claim_one, length_claim, claim_whole}
use Rattle.memory.specs.Marks.{memory_of}
use Rattle.memory.specs.Judging.{FailsFor, Judged}
use Rattle.memory.specs.Checking.{IsClaim, Asks, Room, Asked, Answer, CheckedPost}
use Rattle.memory.specs.declared.checks.Refusal.{Refusal}
use Rattle.memory.specs.declared.deals.Why.{Why}
use Rattle.memory.proofs.Marking.{memory_words_of, words_memory, length-words}
use Rattle.memory.proofs.Theorems.{precise, rows_join, one_asked}

-- the words are x and those of u
module _ (s : List ℕ) (x : ℕ) (u : List ℕ) (are : s ≡ x ∷ u) where
  pub claim_apart : (k : ℕ) (c : Claim) → IsClaim s k c → (k ≡ x) × (u ≡ claim_words c ++ [])
  claim_apart k c h =
      let same = sym h.words ∙ are in
      let behind : u ≡ claim_words c = cc same in
      (cc same, behind ∙ sym (append-nil (claim_words c)))

  pub no_whole_claim :
      ((c : Claim) (rest : List ℕ) → u ≡ claim_words c ++ rest → Fits x c → ⊥) → (k : ℕ) (c : Claim) → IsClaim s k c → ⊥
  no_whole_claim none k c h =
      let (count, behind) = claim_apart k c h in
      none c [] behind (subst (λ n. Fits n c) count h.fits)

  module _ (d : Decoded) (decodes : Decodes u x d) where
    long : length (claim_words (decoded_claim d)) ≡ 2 + 3 * (d.shape.pures + d.shape.atoms)
    long = length_claim (decoded_claim d) d.shape.pures d.shape.atoms decodes.shape.pures decodes.shape.atoms

    -- words are left over behind the claim
    pub claim_and_more :
        (length u ≡ 2 + 3 * (d.shape.pures + d.shape.atoms) → ⊥) → (k : ℕ) (c : Claim) → IsClaim s k c → ⊥
    claim_and_more ne k c h =
        let (count, behind) = claim_apart k c h in
        let (same, _) = claim_one c (decoded_claim d) [] decodes.rest (sym behind ∙ decodes.words) in
        ne (ap length (behind ∙ append-nil (claim_words c) ∙ ap claim_words same) ∙ long)

    pub claim_alone :
        1 ≤ x → x ≤ 64 → length u ≡ 2 + 3 * (d.shape.pures + d.shape.atoms) → IsClaim s x (decoded_claim d)
    claim_alone some few e =
        record {
          some_names = some;
          few_names = few;
          words = are ∙ ap (λ l. x ∷ l) (claim_whole (decoded_claim d) u decodes.rest decodes.words (long ∙ sym e));
          fits = decodes.fits;
        }

is_true : (b : Bool) → T b → true ≡ b
is_true true t = refl
is_true false t = absurd t

-- why nothing is asked of a memory
pub data NotAsked (k : ℕ) (n t : List ℕ) : Type 0 where
  other_names : (length n ≡ k → ⊥) → NotAsked k n t
  odd_words : (length t % 2 ≡ 0 → ⊥) → NotAsked k n t
  unsound : (T (sound (memory_of t)) → ⊥) → NotAsked k n t

pub not_asked :
    (s n t : List ℕ) (k j : ℕ) (c d : Claim) (m : Memory) → IsClaim s k c → NotAsked k n t → Asks s n t j d m → ⊥
not_asked s n t k j c d m is (other_names ne) h =
    let same = sym is.words ∙ h.claim_is.words in
    let as_many : k ≡ j = cc same in
    ne (h.names_are ∙ sym as_many)
not_asked s n t k j c d m is (odd_words odd) h = odd (omega (arith, length-words m, ap length h.memory_is))
not_asked s n t k j c d m is (unsound no-sound) h =
    let same : memory_of t ≡ m = sym (ap memory_of h.memory_is) ∙ memory_words_of m in
    let P : Memory → Type 0 = λ o. T (sound o) in
    no-sound (subst P (sym same) h.memory_sound)

pub asked :
    (s n t w : List ℕ) (k : ℕ) (c : Claim) (P : Memory → Claim → Type 0) → Room t w → IsClaim s k c → length n ≡ k →
    length t % 2 ≡ 0 → true ≡ sound (memory_of t) → P (memory_of t) c → Asked s n t w P
asked s n t w k c P room is count even is_sound so =
    record {
      room = room;
      names = k;
      claim = c;
      memory = memory_of t;
      asks = record { claim_is = is; names_are = count; memory_is = words_memory t even; memory_sound = subst T is_sound tt };
      so = so;
    }

-- what `check` answers of it
pub asked_judged :
    (s n t w : List ℕ) (k : ℕ) (c : Claim) (r : Result Unit Why) → Room t w → IsClaim s k c → length n ≡ k → length t % 2 ≡ 0 →
    T (sound (memory_of t)) → Judged n (memory_of t) c r → Answer s n t w (Ok r)
asked_judged s n t w k c (Ok u) room is count even is_sound so =
    asked s n t w k c (λ m d. Says n m d) room is count even (is_true (sound (memory_of t)) is_sound) so
asked_judged s n t w k c (Err why) room is count even is_sound so =
    asked s n t w k c (λ m d. FailsFor n m d why) room is count even (is_true (sound (memory_of t)) is_sound) so

-- a part that is as it was leaves the whole as it was
pub put_back : (w : List ℕ) (a k : ℕ) (part : List ℕ) → part ≡ take k (drop a w) → put_mid a k w part ≡ w
put_back w a k part e =
    ap (λ l. take a w ++ (l ++ drop k (drop a w))) e ∙ ap (λ l. take a w ++ l) (take-append-drop k (drop a w)) ∙ take-append-drop a w

pub post : (s n t w after : List ℕ) (r : Result (Result Unit Why) Refusal) → Answer s n t w r → after ≡ w → CheckedPost s n t w after r
post s n t w after r a e =
    record { answer = a; unchanged = e; one_asked = one_asked; precise = precise; rows_join = rows_join }
