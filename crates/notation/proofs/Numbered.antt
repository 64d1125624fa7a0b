-- Names that are numbered in order: one more at the end, one list after another, and that all are below the count.
use Rattle.std.proofs.Common.{◌≡◌, ℕ, suc, ◌+◌, ◌<◌, ◌≤◌, List, [], ◌∷◌, ◌++◌, map, length, get_or, sym, refl, ap, ◌∙◌, subst, append_assoc, append-nil, arith}
use Rattle.std.proofs.lemmas.List.{length-map}
use Rattle.std.specs.List.{flat_map, AllByRecursion}
use Rattle.claims.specs.Claims.{Pure, same, other, Atom, cell, row, Claim}
use Rattle.claims.specs.Words.{PureBelow, AtomBelow, Fits}
use Rattle.notation.specs.declared.spans.Span.{Span}
use Rattle.notation.specs.Spelling.{spelling, spellings, Distinct}
use Rattle.notation.proofs.Spelled.{no_bytes}
use Rattle.notation.specs.Order.{pure_names, atom_names, claim_mentions, InOrder, done, known, new, Numbered, Accepted}

pub in-order-append : {k m n : ℕ} {xs ys : List ℕ} → InOrder k xs m → InOrder m ys n → InOrder k (xs ++ ys) n
in-order-append done b = b
in-order-append (known lt a) b = known lt (in-order-append a b)
in-order-append (new a) b = new (in-order-append a b)

pub in-order-grows : {k n : ℕ} {xs : List ℕ} → InOrder k xs n → k ≤ n
in-order-grows done = omega arith
in-order-grows (known lt a) = in-order-grows a
in-order-grows (new a) = omega (arith, in-order-grows a)

pub in-order-below : {k n : ℕ} {xs : List ℕ} → InOrder k xs n → AllByRecursion (λ x. x < n) xs
in-order-below done = tt
in-order-below (known lt a) = (omega (arith, lt, in-order-grows a), in-order-below a)
in-order-below (new a) = (omega (arith, in-order-grows a), in-order-below a)

all_front : (P : ℕ → Type 0) (xs ys : List ℕ) → AllByRecursion P (xs ++ ys) → AllByRecursion P xs
all_front P [] ys h = tt
all_front P (x ∷ xs) ys h = (h.0, all_front P xs ys h.1)

all_back : (P : ℕ → Type 0) (xs ys : List ℕ) → AllByRecursion P (xs ++ ys) → AllByRecursion P ys
all_back P [] ys h = h
all_back P (x ∷ xs) ys h = all_back P xs ys h.1

pures_below : (n : ℕ) (ps : List Pure) → AllByRecursion (λ x. x < n) (flat_map pure_names ps) → AllByRecursion (PureBelow n) ps
pures_below n [] h = tt
pures_below n (same x y ∷ ps) h = ((h.0, h.1.0), pures_below n ps h.1.1)
pures_below n (other x y ∷ ps) h = ((h.0, h.1.0), pures_below n ps h.1.1)

atoms_below : (n : ℕ) (cs : List Atom) → AllByRecursion (λ x. x < n) (flat_map atom_names cs) → AllByRecursion (AtomBelow n) cs
atoms_below n [] h = tt
atoms_below n (cell x y ∷ cs) h = ((h.0, h.1.0), atoms_below n cs h.1.1)
atoms_below n (row x y ∷ cs) h = ((h.0, h.1.0), atoms_below n cs h.1.1)

-- one more part at the end
module _ {X : Type 0} (names : X → List ℕ) where
  joined_push : (vs : List X) (v : X) → flat_map names (vs ++ v ∷ []) ≡ flat_map names vs ++ names v
  joined_push [] v = append-nil (names v)
  joined_push (u ∷ vs) v = ap (λ l. names u ++ l) (joined_push vs v) ∙ sym (append_assoc (names u) (flat_map names vs) (names v))

  pub in-order-push : {k m n : ℕ} (vs : List X) (v : X) (ws : List X) → ws ≡ vs ++ v ∷ [] → InOrder k (flat_map names vs) m → InOrder m (names v) n → InOrder k (flat_map names ws) n
  in-order-push {k} {m} {n} vs v ws e a b =
      let P : List ℕ → Type 0 = λ l. InOrder k l n in
      subst P (sym (ap (flat_map names) e ∙ joined_push vs v)) (in-order-append a b)

-- the names of parts that are read as others
joined_map : {X Y : Type 0} (names : Y → List ℕ) (of : X → Y) (vs : List X) → flat_map names (map of vs) ≡ flat_map (λ v. names (of v)) vs
joined_map names of [] = refl
joined_map names of (v ∷ vs) = ap (λ l. names (of v) ++ l) (joined_map names of vs)

two_accepted : {m n : ℕ} {a b : Claim} (spelled : List (List ℕ)) → n ≤ 64 → length spelled ≡ n → length (get_or spelled 0 []) ≡ 0 → Distinct spelled → Numbered 1 a m → Numbered m b n → Accepted (record { names = n; first = a; second = b }) spelled
two_accepted {m} {n} {a} {b} spelled few e none apart x y =
    let order = in-order-append x.in_order y.in_order in
    let below = in-order-below order in
    let front = all_front (λ i. i < n) (claim_mentions a) (claim_mentions b) below in
    let back = all_back (λ i. i < n) (claim_mentions a) (claim_mentions b) below in
    record {
      limits = record {
        some_names = in-order-grows order;
        few_names = few;
        first_fits = fits a x front;
        second_fits = fits b y back;
      };
      in_order = order;
      as_many = e;
      nowhere = no_bytes _ none;
      distinct = apart;
    }
  where
    fits : {k l : ℕ} (c : Claim) → Numbered k c l → AllByRecursion (λ i. i < n) (claim_mentions c) → Fits n c
    fits c z h = record {
      few_pures = z.few_pures;
      few_atoms = z.few_atoms;
      pures_below = pures_below n c.pures (all_front (λ i. i < n) (flat_map pure_names c.pures) (flat_map atom_names c.atoms) h);
      atoms_below = atoms_below n c.atoms (all_back (λ i. i < n) (flat_map pure_names c.pures) (flat_map atom_names c.atoms) h);
    }

-- a name that came before, and the next new one
pub one_known : {k x : ℕ} → x < k → InOrder k (x ∷ []) k
one_known lt = known lt done

pub one_new : {k x n : ℕ} → x ≡ k → n ≡ k + 1 → InOrder k (x ∷ []) n
one_new {k} {x} {n} e f =
    let P : ℕ → Type 0 = λ y. InOrder k (y ∷ []) n in
    let Q : ℕ → Type 0 = λ m. InOrder k (k ∷ []) m in
    let g : suc k ≡ n = omega arith in
    subst P (sym e) (subst Q g (new done))

pub in-order-as : {k n : ℕ} {xs ys : List ℕ} → xs ≡ ys → InOrder k ys n → InOrder k xs n
in-order-as {k} {n} e a =
    let P : List ℕ → Type 0 = λ l. InOrder k l n in
    subst P (sym e) a

-- no part yet
pub in-order-none : {X : Type 0} (names : X → List ℕ) {k : ℕ} (vs : List X) → vs ≡ [] → InOrder k (flat_map names vs) k
in-order-none names {k} vs e =
    let P : List ℕ → Type 0 = λ l. InOrder k l k in
    subst P (sym (ap (flat_map names) e)) done

-- the same where the counts and the text are known by equations
pub both_accepted : {k m n : ℕ} {a b : Claim} (names : ℕ) (text was : List ℕ) (spans : List Span) → k ≡ 1 → names ≡ n → n ≤ 64 → n ≡ length spans → text ≡ was → length (get_or (spellings text spans) 0 []) ≡ 0 → Distinct (spellings text spans) → Numbered k a m → Numbered m b n → Accepted (record { names = names; first = a; second = b }) (spellings was spans)
both_accepted {k} {m} {n} {a} {b} names text was spans one equal few long still none apart x y =
    let P : ℕ → Type 0 = λ i. Numbered i a m in
    let Q : ℕ → Type 0 = λ i. Accepted (record { names = i; first = a; second = b }) (spellings was spans) in
    let R : List ℕ → Type 0 = λ t. Accepted (record { names = n; first = a; second = b }) (spellings t spans) in
    subst Q (sym equal) (subst R still (two_accepted (spellings text spans) few (length-map spans (spelling text) ∙ sym long) none apart (subst P one x) y))

pub claim_numbered : {X Y : Type 0} (f : X → Pure) (g : Y → Atom) {k m n : ℕ} (ps : List X) (cs : List Y) → InOrder k (flat_map (λ p. pure_names (f p)) ps) m → InOrder m (flat_map (λ a. atom_names (g a)) cs) n → length ps ≤ 256 → length cs ≤ 64 → Numbered k (record { pures = map f ps; atoms = map g cs }) n
claim_numbered f g {k} {m} {n} ps cs a b few-p few-a =
    let P : List ℕ → Type 0 = λ l. InOrder k l m in
    let Q : List ℕ → Type 0 = λ l. InOrder m l n in
    record {
      in_order = in-order-append (subst P (sym (joined_map pure_names f ps)) a) (subst Q (sym (joined_map atom_names g cs)) b);
      few_pures = rw length-map few-p;
      few_atoms = rw length-map few-a;
    }
