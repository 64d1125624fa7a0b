-- Memories to try, written atom by atom, and what it means that none of them is against it.
--
-- stretched_through, stretched_on, tried_on: one atom more, which goes through the place or doesn't.
-- stretched_plain: past the last atom nothing is stretched.
-- stretched-enough, tried-enough: enough cells are enough.
use Rattle.std.proofs.Common.{◌≡◌, ℕ, zero, suc, ◌≤◌, List, [], ◌∷◌, ◌++◌, length, Some, None, Option, sym, refl, ap, ◌∙◌, append_assoc, arith, length-append}
use Rattle.std.proofs.lemmas.List.{append-nil}
use Rattle.claims.specs.Claims.{Atom, cell, row}
use Rattle.claims.specs.Memory.{Names, at}
use Rattle.models.specs.Generic.{nonempty, link, linked, generic, linked_through, stretched}
use Rattle.models.specs.Follows.{enough}
use Rattle.entails.specs.Telling.{tried}
use Rattle.entails.specs.declared.stretches.Stretch.{Stretch}
use Rattle.std.proofs.lemmas.Bool.{cond_both}

module _ (g : Names) (a : Atom) where
  pub generic_push : (cs : List Atom) → generic g (cs ++ a ∷ []) ≡ generic g cs ++ linked g a
  generic_push [] = append-nil (linked g a)
  generic_push (b ∷ cs) =
      ap (λ m. linked g b ++ m) (generic_push cs) ∙ sym (append_assoc (linked g b) (generic g cs) (linked g a))

  pub stretched_through :
      (cs : List Atom) (i t : ℕ) → i ≡ length cs → stretched g (cs ++ a ∷ []) i t ≡ stretched g cs i t ++ linked_through g a t
  stretched_through [] zero t e = append-nil (linked_through g a t)
  stretched_through [] (suc i) t e = absurd (omega arith)
  stretched_through (b ∷ cs) zero t e = absurd (omega arith)
  stretched_through (b ∷ cs) (suc i) t e =
      ap (λ m. linked g b ++ m) (stretched_through cs i t (omega arith)) ∙
      sym (append_assoc (linked g b) (stretched g cs i t) (linked_through g a t))

  pub stretched_on :
      (cs : List Atom) (i t : ℕ) → (i ≡ length cs → ⊥) → stretched g (cs ++ a ∷ []) i t ≡ stretched g cs i t ++ linked g a
  stretched_on [] zero t e = absurd (e refl)
  stretched_on [] (suc i) t e = append-nil (linked g a)
  stretched_on (b ∷ cs) zero t e =
      ap (λ m. linked_through g b t ++ m) (generic_push cs) ∙ sym (append_assoc (linked_through g b t) (generic g cs) (linked g a))
  stretched_on (b ∷ cs) (suc i) t e =
      ap (λ m. linked g b ++ m) (stretched_on cs i t (λ h. e (omega arith))) ∙
      sym (append_assoc (linked g b) (stretched g cs i t) (linked g a))

  -- one atom more, where no row with its number goes through a place
  pub tried_on :
      (cs : List Atom) (s : Option Stretch) → ((t : Stretch) → s ≡ Some t → t.row ≡ length cs → ⊥) →
      tried g (cs ++ a ∷ []) s ≡ tried g cs s ++ linked g a
  tried_on cs None h = generic_push cs
  tried_on cs (Some t) h = stretched_on cs t.row t.through (h t refl)

pub stretched_plain : (g : Names) (cs : List Atom) (i t : ℕ) → length cs ≤ i → stretched g cs i t ≡ generic g cs
stretched_plain g [] i t h = refl
stretched_plain g (a ∷ cs) zero t h = absurd (omega arith)
stretched_plain g (a ∷ cs) (suc i) t h = ap (λ m. linked g a ++ m) (stretched_plain g cs i t (omega arith))

-- an atom has at most two cells
linked_few : (g : Names) (a : Atom) → length (linked g a) ≤ 1
linked_few g a =
    cond_both (nonempty g a) (link g a ∷ []) [] (λ m. length m ≤ 1) (λ _. omega arith) (λ _. omega arith)

through_few : (g : Names) (a : Atom) (t : ℕ) → length (linked_through g a t) ≤ 2
through_few g (cell x y) t = omega (arith, linked_few g (cell x y))
through_few g (row x y) t =
    cond_both (nonempty g (row x y)) (record { place = at g x; holds = t } ∷ record { place = t; holds = at g y } ∷ []) [] (λ m. length m ≤ 2)
    (λ _. omega arith) (λ _. omega arith)

generic_few : (g : Names) (cs : List Atom) → length (generic g cs) ≤ length cs
generic_few g [] = omega arith
generic_few g (a ∷ cs) = omega (arith, length-append (linked g a) (generic g cs), linked_few g a, generic_few g cs)

pub stretched-enough : (g : Names) (cs : List Atom) (i t : ℕ) → length (stretched g cs i t) ≤ enough (length cs)
stretched-enough g [] i t = omega arith
stretched-enough g (a ∷ cs) zero t =
    omega (arith, length-append (linked_through g a t) (generic g cs), through_few g a t, generic_few g cs)
stretched-enough g (a ∷ cs) (suc i) t =
    omega (arith, length-append (linked g a) (stretched g cs i t), linked_few g a, stretched-enough g cs i t)

pub tried-enough : (g : Names) (cs : List Atom) (s : Option Stretch) → length (tried g cs s) ≤ enough (length cs)
tried-enough g cs None = omega (arith, generic_few g cs)
tried-enough g cs (Some s) = stretched-enough g cs s.row s.through
