-- The words of a claim and of a question: they tell which it is (`claim_one`, `one_question`), where its parts stand
-- (`claim_stands`), and that words in which they stand so are a claim (`claim_made`).
use Rattle.std.proofs.Common.{◌≡◌, ℕ, ◌+◌, ◌-◌, ◌*◌, ◌≤◌, List, [], ◌∷◌, ◌++◌, length, get_or, take, drop, sym, refl, ap, ◌∙◌, subst, ap₂, arith, length-append, length-drop, take-append-drop, length-take}
use Rattle.std.specs.List.{flat_map}
use Rattle.std.proofs.lemmas.List.{append_assoc, take_at, drop_at, drop-drop, take_rest, nil_from_length, append-nil}
use Rattle.claims.specs.Claims.{Pure, Atom, Claim, Question}
use Rattle.claims.specs.Words.{pure_words, atom_words, claim_words, words, Reads, OneQuestion}
use Rattle.claims.proofs.PartWords.{length_pure, length_atom, pure_one, atom_one}
use Rattle.claims.proofs.Threes.{length_threes, threes_one}

pure_threes : (ps : List Pure) → length (flat_map pure_words ps) ≡ 3 * length ps
pure_threes = length_threes pure_words (λ p. Unit {0}) length_pure

atom_threes : (xs : List Atom) → length (flat_map atom_words xs) ≡ 3 * length xs
atom_threes = length_threes atom_words (λ p. Unit {0}) length_atom

-- the words behind a claim's two counts, as the checker reads them
abbrev pub behind : List ℕ → List ℕ
behind s = take (length s - 2) (drop 2 s)

counts_first : (s : List ℕ) → 2 ≤ length s → s ≡ get_or s 0 0 ∷ get_or s 1 0 ∷ behind s
counts_first [] h = absurd (omega arith)
counts_first (p ∷ []) h = absurd (omega arith)
counts_first (p ∷ a ∷ parts) h = ap (λ u. p ∷ a ∷ u) (sym (take_rest (p ∷ a ∷ parts) 2))

-- where the parts of the claim c stand in words: p and a of both kinds, in the words behind the counts
pub record Stands (c : Claim) (p a : ℕ) (parts : List ℕ) : Type 0 where
  pub pures : length c.pures ≡ p
  pub atoms : length c.atoms ≡ a
  pub room : 3 * (p + a) ≤ length parts
  pub pure_part : flat_map pure_words c.pures ≡ take (3 * p - 0) parts
  pub atom_part : flat_map atom_words c.atoms ≡ take (3 * (p + a) - 3 * p) (drop (3 * p) parts)

-- so many there are of both kinds
pub count_pures :
    (ps : List Pure) (p a : ℕ) (parts : List ℕ) → 3 * (p + a) ≤ length parts →
    flat_map pure_words ps ≡ take (3 * p - 0) parts → length ps ≡ p
count_pures ps p a parts h e = omega (arith, pure_threes ps, ap length e, length-take (3 * p - 0) parts)

pub count_atoms :
    (xs : List Atom) (p a : ℕ) (parts : List ℕ) → 3 * (p + a) ≤ length parts →
    flat_map atom_words xs ≡ take (3 * (p + a) - 3 * p) (drop (3 * p) parts) → length xs ≡ a
count_atoms xs p a parts h e =
    omega (arith, atom_threes xs, ap length e, length-take (3 * (p + a) - 3 * p) (drop (3 * p) parts), length-drop (3 * p) parts)

stands_so : (c : Claim) (p a : ℕ) (parts rest : List ℕ) → p ∷ a ∷ parts ≡ claim_words c ++ rest → Stands c p a parts
stands_so c p a parts rest e =
    let ps = flat_map pure_words c.pures in
    let xs = flat_map atom_words c.atoms in
    let h : p ≡ length c.pures = cc in
    let k : a ≡ length c.atoms = cc in
    let d : parts ≡ (ps ++ xs) ++ rest = cc in
    let f : parts ≡ ps ++ (xs ++ rest) = d ∙ append_assoc ps xs rest in
    let lp : length ps ≡ 3 * p = omega (arith, pure_threes c.pures) in
    let lq : length ps ≡ 3 * p - 0 = omega arith in
    let lx : length xs ≡ 3 * (p + a) - 3 * p = omega (arith, atom_threes c.atoms) in
    let r : drop (3 * p) parts ≡ xs ++ rest = ap (drop (3 * p)) f ∙ drop_at ps (xs ++ rest) (3 * p) lp in
    record {
      pures = sym h;
      atoms = sym k;
      room = omega (arith, ap length f, length-append ps (xs ++ rest), length-append xs rest, lp, atom_threes c.atoms);
      pure_part = sym (ap (take (3 * p - 0)) f ∙ take_at ps (xs ++ rest) (3 * p - 0) lq);
      atom_part = sym (ap (take (3 * (p + a) - 3 * p)) r ∙ take_at xs rest (3 * (p + a) - 3 * p) lx);
    }

pub claim_stands :
    (c : Claim) (s rest : List ℕ) → s ≡ claim_words c ++ rest → Stands c (get_or s 0 0) (get_or s 1 0) (behind s)
claim_stands c s rest e =
    let h : 2 ≤ length s = omega (arith, ap length e) in
    stands_so c (get_or s 0 0) (get_or s 1 0) (behind s) rest (sym (counts_first s h) ∙ e)

-- words that stand so are a claim, with the rest behind it
made_so : (c : Claim) (p a : ℕ) (parts : List ℕ) → Stands c p a parts → p ∷ a ∷ parts ≡ claim_words c ++ drop (3 * (p + a)) parts
made_so c p a parts st =
    let ps = flat_map pure_words c.pures in
    let xs = flat_map atom_words c.atoms in
    let k = 3 * (p + a) - 3 * p in
    let back = drop (3 * p) parts in
    let z : 3 * p - 0 ≡ 3 * p = omega arith in
    let h : 3 * p + k ≡ 3 * (p + a) = omega arith in
    let e : drop k back ≡ drop (3 * (p + a)) parts = drop-drop k (3 * p) parts ∙ ap (λ n. drop n parts) h in
    let d : xs ++ drop (3 * (p + a)) parts ≡ back =
    ap₂ (λ u v. u ++ v) st.atom_part (sym e) ∙ take-append-drop k back in
    let f : ps ++ (xs ++ drop (3 * (p + a)) parts) ≡ parts =
    ap₂ (λ u v. u ++ v) (st.pure_part ∙ ap (λ n. take n parts) z) d ∙ take-append-drop (3 * p) parts in
    let g = append_assoc ps xs (drop (3 * (p + a)) parts) ∙ f in
    let i = st.pures in
    let j = st.atoms in
    cc

pub claim_made :
    (c : Claim) (s : List ℕ) → 2 ≤ length s → Stands c (get_or s 0 0) (get_or s 1 0) (behind s) →
    s ≡ claim_words c ++ drop (3 * (get_or s 0 0 + get_or s 1 0)) (behind s)
claim_made c s h st = counts_first s h ∙ made_so c (get_or s 0 0) (get_or s 1 0) (behind s) st

pub claim_one : (c d : Claim) (s t : List ℕ) → claim_words c ++ s ≡ claim_words d ++ t → (c ≡ d) × (s ≡ t)
claim_one c d s t e =
    let p : length c.pures ≡ length d.pures = cc in
    let a : length c.atoms ≡ length d.atoms = cc in
    let f :
    (flat_map pure_words c.pures ++ flat_map atom_words c.atoms) ++ s ≡
    (flat_map pure_words d.pures ++ flat_map atom_words d.atoms) ++ t = cc in
    let g =
    sym (append_assoc (flat_map pure_words c.pures) (flat_map atom_words c.atoms) s) ∙ f ∙
    append_assoc (flat_map pure_words d.pures) (flat_map atom_words d.atoms) t in
    let h =
    threes_one pure_words (λ x. Unit {0}) length_pure pure_one c.pures d.pures (flat_map atom_words c.atoms ++ s) (flat_map atom_words d.atoms ++ t) p g in
    let i = threes_one atom_words (λ x. Unit {0}) length_atom atom_one c.atoms d.atoms s t a h.1 in
    (ap₂ (λ x y. record { pures = x; atoms = y }) h.0 i.0, i.1)

question_fields : (q r : Question) → q.names ≡ r.names → q.first ≡ r.first → q.second ≡ r.second → q ≡ r
question_fields q r n a b i = record { names = n i; first = a i; second = b i }

pub one_question : OneQuestion
one_question s q r f g =
    let e = f.is ∙ sym g.is in
    let n : q.names ≡ r.names = cc in
    let d : claim_words q.first ++ claim_words q.second ≡ claim_words r.first ++ claim_words r.second = cc in
    let a = claim_one q.first r.first (claim_words q.second) (claim_words r.second) d in
    let b = claim_one q.second r.second [] [] (ap (λ u. u ++ []) a.1) in
    question_fields q r n a.0 b.0

-- a claim's words, put behind others one kind after the other
pub claim_pushed :
    (c : Claim) (p a : ℕ) (front one two three four : List ℕ) → length c.pures ≡ p → length c.atoms ≡ a →
    one ≡ front ++ p ∷ [] → two ≡ one ++ a ∷ [] → three ≡ two ++ flat_map pure_words c.pures →
    four ≡ three ++ flat_map atom_words c.atoms → four ≡ front ++ claim_words c
claim_pushed c p a front one two three four h k e₁ e₂ e₃ e₄ =
    let ps = flat_map pure_words c.pures in
    let xs = flat_map atom_words c.atoms in
    let e : four ≡ (((front ++ p ∷ []) ++ a ∷ []) ++ ps) ++ xs = cc in
    e ∙ simp append_assoc (ap₂ (λ u v. front ++ u ∷ v ∷ (ps ++ xs)) (sym h) (sym k))

pub length_claim : (c : Claim) (p a : ℕ) → length c.pures ≡ p → length c.atoms ≡ a → length (claim_words c) ≡ 2 + 3 * (p + a)
length_claim c p a h k =
    omega (arith, length-append (flat_map pure_words c.pures) (flat_map atom_words c.atoms), pure_threes c.pures, atom_threes c.atoms)

-- the words from k on, as the checker reads `&s[k..]`
abbrev pub from : ℕ → List ℕ → List ℕ
from k s = take (length s - k) (drop k s)

-- behind a claim stands the rest
pub rest_from : (c : Claim) (k : ℕ) (s rest : List ℕ) → s ≡ claim_words c ++ rest → length (claim_words c) ≡ k → from k s ≡ rest
rest_from c k s rest e h = take_rest s k ∙ ap (drop k) e ∙ drop_at (claim_words c) rest k h

-- what is as long as the claim that it begins with is that claim
pub claim_whole : (c : Claim) (s rest : List ℕ) → s ≡ claim_words c ++ rest → length (claim_words c) ≡ length s → s ≡ claim_words c
claim_whole c s rest e h =
    let n : rest ≡ [] = nil_from_length rest (omega (arith, ap length e, length-append (claim_words c) rest)) in
    e ∙ ap (λ u. claim_words c ++ u) n ∙ append-nil (claim_words c)

-- a question is its number of names and its two claims
pub question_apart :
    (s : List ℕ) (q : Question) → Reads s q →
    (get_or s 0 0 ≡ q.names) × (from 1 s ≡ claim_words q.first ++ claim_words q.second)
question_apart s q r =
    let P : List ℕ → Type 0 =
    λ u. (get_or u 0 0 ≡ q.names) × (from 1 u ≡ claim_words q.first ++ claim_words q.second) in
    subst P r.is (refl, take_rest (words q) 1)

pub question_made :
    (s : List ℕ) (q : Question) → 1 ≤ length s → get_or s 0 0 ≡ q.names →
    from 1 s ≡ claim_words q.first ++ claim_words q.second → words q ≡ s
question_made [] q h n e = absurd (omega arith)
question_made (x ∷ s) q h n e = ap₂ (λ u v. u ∷ v) (sym n) (sym e ∙ take_rest (x ∷ s) 1)

-- what stands behind a question's first claim is its second
pub second_is :
    (s : List ℕ) (q : Question) (c : Claim) (rest : List ℕ) → Reads s q → from 1 s ≡ claim_words c ++ rest →
    rest ≡ claim_words q.second
second_is s q c rest r e =
    sym (claim_one q.first c (claim_words q.second) rest (sym (question_apart s q r).1 ∙ e)).1
