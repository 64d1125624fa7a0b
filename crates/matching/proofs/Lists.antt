-- Lists of live atoms that grow and are divided.
--
-- live_push: one atom more; list_on: as far as an index; below_64: their names are below 64.
-- parts_left, parts_right: one more in a part; unmarked_on, unmarked_past: one more that isn't marked, or is.
use Rattle.std.proofs.Common.{◌≡◌, ℕ, zero, suc, ◌+◌, ◌-◌, ◌<◌, ◌≤◌, List, [], ◌∷◌, ◌++◌, map, length, get_or, take, sym, refl, ap, ◌∙◌, subst, subst₂, arith}
use Rattle.std.specs.List.{AllByRecursion}
use Rattle.std.proofs.lemmas.List.{map_push, take_more, length-take-le}
use Rattle.std.proofs.ByRecursion.{All-from_get_or}
use Rattle.claims.specs.Claims.{Atom, cell, row}
use Rattle.claims.specs.Words.{AtomBelow}
use Rattle.claims.specs.Memory.{Parts, none_p, left_p, right_p}
use Rattle.claims.specs.Meaning.{atom_of}
use Rattle.claims.specs.declared.parts.Atom.{Atom as CodeAtom}
use Rattle.memory.specs.Marks.{unmarked}
use Rattle.memory.specs.Owners.{start, end}
use Rattle.linked.specs.Living.{atoms_of}
use Rattle.linked.specs.Spare.{spare}
use Rattle.linked.specs.declared.atoms.Live.{Live}
use Rattle.linked.proofs.Reach.{live-length, live_at}

-- the front part of a slice, as the checker reads it
pub front : {A : Type 0} (n : ℕ) (s : List A) → take (n - 0) s ≡ take n s
front n s = let e : n - 0 ≡ n = omega arith in ap (λ i. take i s) e

-- what holds of all of it
pub front_all :
    {A : Type 0} (P : A → Type 0) {X : Type 0} (f : X → A) (n : ℕ) (xs : List X) → AllByRecursion P (map f (take n xs)) → AllByRecursion P (map f (take (n - 0) xs))
front_all P f n xs h = subst (λ u. AllByRecursion P (map f u)) (sym (front n xs)) h

pub live_push :
    (l r : Live) (a : CodeAtom) → take r.count r.atoms ≡ take l.count l.atoms ++ a ∷ [] →
    atoms_of r ≡ atoms_of l ++ atom_of a ∷ []
live_push l r a e = ap (map atom_of) e ∙ map_push atom_of (take l.count l.atoms) a

-- the first j + 1 of a list, the last of which is known
pub list_on :
    {A : Type 0} (xs : List A) (j : ℕ) (a d : A) → j < length xs → get_or xs j d ≡ a → take (j + 1) xs ≡ take j xs ++ a ∷ []
list_on xs j a d h is = take_more xs j d h ∙ ap (λ x. take j xs ++ x ∷ []) is

pub parts_left : {A : Type 0} {a b m : List A} (x : A) → Parts a b m → Parts (a ++ x ∷ []) b (m ++ x ∷ [])
parts_left x none_p = left_p none_p
parts_left x (left_p t) = left_p (parts_left x t)
parts_left x (right_p t) = right_p (parts_left x t)

pub parts_right : {A : Type 0} {a b m : List A} (x : A) → Parts a b m → Parts a (b ++ x ∷ []) (m ++ x ∷ [])
parts_right x none_p = right_p none_p
parts_right x (left_p t) = left_p (parts_right x t)
parts_right x (right_p t) = right_p (parts_right x t)

pub unmarked-none : {A : Type 0} (w : List ℕ) → unmarked {A = A} w [] ≡ []
unmarked-none [] = refl
unmarked-none (zero ∷ w) = refl
unmarked-none (suc k ∷ w) = refl

pub unmarked_on :
    {A : Type 0} (w : List ℕ) (xs : List A) (x : A) → length xs < length w → get_or w (length xs) 0 ≡ 0 →
    unmarked w (xs ++ x ∷ []) ≡ unmarked w xs ++ x ∷ []
unmarked_on [] xs x l e = absurd (omega arith)
unmarked_on (zero ∷ []) [] x l e = refl
unmarked_on (zero ∷ k ∷ w) [] x l e = ap (λ u. x ∷ u) (unmarked-none (k ∷ w))
unmarked_on (suc k ∷ w) [] x l e = absurd (omega arith)
unmarked_on (zero ∷ w) (y ∷ xs) x l e = ap (λ u. y ∷ u) (unmarked_on w xs x (omega arith) e)
unmarked_on (suc k ∷ w) (y ∷ xs) x l e = unmarked_on w xs x (omega arith) e

pub unmarked_past :
    {A : Type 0} (w : List ℕ) (xs : List A) (x : A) → length xs < length w → (get_or w (length xs) 0 ≡ 0 → ⊥) →
    unmarked w (xs ++ x ∷ []) ≡ unmarked w xs
unmarked_past [] xs x l e = absurd (omega arith)
unmarked_past (zero ∷ w) [] x l e = absurd (e refl)
unmarked_past (suc k ∷ []) [] x l e = refl
unmarked_past (suc k ∷ zero ∷ w) [] x l e = refl
unmarked_past (suc k ∷ suc j ∷ w) [] x l e = refl
unmarked_past (zero ∷ w) (y ∷ xs) x l e = ap (λ u. y ∷ u) (unmarked_past w xs x (omega arith) e)
unmarked_past (suc k ∷ w) (y ∷ xs) x l e = unmarked_past w xs x (omega arith) e

pub empty_list : (l : Live) → l.count ≡ 0 → atoms_of l ≡ []
empty_list l e = ap (λ i. map atom_of (take i l.atoms)) e

-- the first j atoms of a list are divided into those that are not marked and those that are
abbrev pub DividedTo : Live → List ℕ → Live → Live → ℕ → Type 0
DividedTo l w a b j =
    (a.count + b.count ≡ j) × Parts (atoms_of a) (atoms_of b) (take j (atoms_of l)) × (atoms_of a ≡ unmarked w (take j (atoms_of l)))

pub divided_none : (l : Live) (w : List ℕ) (a b : Live) → a.count ≡ 0 → b.count ≡ 0 → DividedTo l w a b 0
divided_none l w a b ea eb = (
  omega arith,
  subst₂ (λ x y. Parts x y []) (sym (empty_list a ea)) (sym (empty_list b eb)) none_p,
  empty_list a ea ∙ sym (unmarked-none w),
)

module _ (l : Live) (w : List ℕ) (a b r : Live) (j : ℕ) (x : CodeAtom) (within : j < l.count) (room : 64 ≤ length w)
    (is : get_or (atoms_of l) j (row 0 0) ≡ atom_of x) (so_far : DividedTo l w a b j) where
  upto : length (take j (atoms_of l)) ≡ j
  upto = length-take-le j (atoms_of l) (omega (arith, live-length l))

  further : take (j + 1) (atoms_of l) ≡ take j (atoms_of l) ++ atom_of x ∷ []
  further = list_on (atoms_of l) j (atom_of x) (row 0 0) (omega (arith, live-length l)) is

  pub divided_free :
      take r.count r.atoms ≡ take a.count a.atoms ++ x ∷ [] → r.count ≡ a.count + 1 → get_or w j 0 ≡ 0 → DividedTo l w r b (j + 1)
  divided_free more count free =
      let grown = live_push a r x more in (
        omega (arith, so_far.0),
        subst₂ (λ u v. Parts u (atoms_of b) v) (sym grown) (sym further) (parts_left (atom_of x) so_far.1),
        grown ∙ ap (λ u. u ++ atom_of x ∷ []) so_far.2 ∙
            sym (unmarked_on w (take j (atoms_of l)) (atom_of x) (omega (arith, upto, l.few)) (ap (λ i. get_or w i 0) upto ∙ free)) ∙ ap (unmarked w) (sym further),
      )

  pub divided_marked :
      take r.count r.atoms ≡ take b.count b.atoms ++ x ∷ [] → r.count ≡ b.count + 1 → (get_or w j 0 ≡ 0 → ⊥) →
      DividedTo l w a r (j + 1)
  divided_marked more count marked =
      let grown = live_push b r x more in (
        omega (arith, so_far.0),
        subst₂ (λ u v. Parts (atoms_of a) u v) (sym grown) (sym further) (parts_right (atom_of x) so_far.1),
        so_far.2 ∙
            sym (unmarked_past w (take j (atoms_of l)) (atom_of x) (omega (arith, upto, l.few)) (λ e. marked (sym (ap (λ i. get_or w i 0) upto) ∙ e))) ∙ ap (unmarked w) (sym further),
      )

atom_small : (a : Atom) → start a < 64 → end a < 64 → AtomBelow 64 a
atom_small (cell x y) hs he = (hs, he)
atom_small (row x y) hs he = (hs, he)

pub below_64 : (l : Live) → AllByRecursion (AtomBelow 64) (atoms_of l)
below_64 l =
    All-from_get_or (AtomBelow 64) (atoms_of l) (row 0 0) λ i h.
    let within : i < l.count = omega (arith, live-length l) in
    subst (AtomBelow 64) (sym (live_at l i (row 0 0) within)) (atom_small (atom_of (get_or l.atoms i spare)) (l.starts i within) (l.ends i within))

-- and so are those of its slice
pub slice_below : (l : Live) (xs : List CodeAtom) → xs ≡ take l.count l.atoms → AllByRecursion (AtomBelow 64) (map atom_of xs)
slice_below l xs e = subst (λ u. AllByRecursion (AtomBelow 64) (map atom_of u)) (sym e) (below_64 l)
