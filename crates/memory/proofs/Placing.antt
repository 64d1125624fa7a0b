-- A memory's words two by two, a list for each cell: which cell is at a place, and is the memory sound?
use Rattle.std.proofs.Common.{◌≡◌, ℕ, suc, ◌+◌, ◌-◌, ◌*◌, ◌/◌, ◌<◌, ◌≤◌, Bool, true, false, not, ◌&&◌, ◌||◌, ◌==◌, cond, List, [], ◌∷◌, map, length, get_or, take, drop, Some, None, Option, sym, refl, ap, ◌∙◌, arith, length-drop}
use Rattle.std.specs.Simd.{first_chunks}
use Rattle.std.specs.List.{position, position_from}
use Rattle.std.specs.Option.{is_some}
use Rattle.std.proofs.lemmas.Bool.{eq-eqb, ne_eqb, eqb-true, and_right}
use Rattle.std.proofs.lemmas.List.{get_or-map, length-map, take_rest}
use Rattle.std.proofs.lemmas.List.Quantifiers.{position-Some}
use Rattle.std.proofs.lemmas.Iterator.Adapters.{position_from-zero}
use Rattle.claims.specs.Memory.{Cell, Memory, here, sound}
use Rattle.memory.specs.Marks.{memory_of}

abbrev pub cell_of : List ℕ → Cell ℕ
cell_of c = record { place = get_or c 0 0; holds = get_or c 1 0 }

abbrev pub cells_of : List (List ℕ) → Memory
cells_of cs = map cell_of cs

pub cells_whole : (s : List ℕ) → cells_of (first_chunks 2 (length s / 2) s) ≡ memory_of s
cells_whole [] = refl
cells_whole (p ∷ []) = refl
cells_whole (p ∷ q ∷ s) =
    let next : length (p ∷ q ∷ s) / 2 ≡ suc (length s / 2) = omega arith in
    rw next (ap (λ m. record { place = p; holds = q } ∷ m) (cells_whole s))

short : (s : List ℕ) → length s < 2 → memory_of s ≡ []
short [] h = refl
short (p ∷ []) h = refl
short (p ∷ q ∷ s) h = absurd (omega arith)

-- past the last cell the others are sound
pub sound_none :
    (s : List ℕ) (i : ℕ) → sound (memory_of s) ≡ sound (memory_of (drop (2 * i) s)) → length s / 2 ≡ i → true ≡ sound (memory_of s)
sound_none s i before h = sym (before ∙ ap sound (short (drop (2 * i) s) (omega (arith, length-drop (2 * i) s))))

abbrev pub is_at : ℕ → List ℕ → Bool
is_at p c = get_or c 0 0 == p

here_from : (p n : ℕ) (cs : List (List ℕ)) → is_some (position_from (is_at p) n cs) ≡ here p (cells_of cs)
here_from p n [] = refl
here_from p n (c ∷ cs) =
    elim (is_at p c) as (λ b. is_some (cond b (Some n) (position_from (is_at p) (n + 1) cs)) ≡ (b || here p (cells_of cs))) [
      | true ↦ refl
      | false ↦ here_from p (n + 1) cs
    ]

pub here_position : (p : ℕ) (cs : List (List ℕ)) → is_some (position (is_at p) cs) ≡ here p (cells_of cs)
here_position p cs = ap is_some (position_from-zero (is_at p) cs) ∙ here_from p 0 cs

-- the words s are these cells
module _ (s : List ℕ) (p : ℕ) (cs : List (List ℕ)) (are : cs ≡ first_chunks 2 (length s / 2) s) where
  same : cells_of cs ≡ memory_of s
  same = ap cells_of are ∙ cells_whole s

  pub at_none : None ≡ position (is_at p) cs → here p (memory_of s) ≡ false
  at_none e = sym (ap (here p) same) ∙ sym (here_position p cs) ∙ sym (ap is_some e)

  pub at_some :
      (i : ℕ) → Some i ≡ position (is_at p) cs →
      (i < length (memory_of s)) × ((d : Cell ℕ) → get_or (memory_of s) i d ≡ record { place = p; holds = get_or (get_or cs i []) 1 0 })
  at_some i e =
      let (within, found, _) = position-Some (is_at p) cs i [] (sym e) in
      let here-p : get_or (get_or cs i []) 0 0 ≡ p = eqb-true (get_or (get_or cs i []) 0 0) p found in (
        omega (arith, length-map cs cell_of, ap length same),
        λ d. ap (λ m. get_or m i d) (sym same) ∙ get_or-map cell_of cs i [] d within ∙
            ap (λ q. record { place = q; holds = get_or (get_or cs i []) 1 0 }) here-p,
      )

-- r is the others, as the checker reads them
sound_apart :
    (cs r : List (List ℕ)) → 1 ≤ length cs → r ≡ take (length cs - 1) (drop 1 cs) →
    sound (cells_of cs) ≡ (not (get_or (get_or cs 0 []) 0 0 == 0) && (not (is_some (position (is_at (get_or (get_or cs 0 []) 0 0)) r)) && sound (cells_of r)))
sound_apart [] r some e = absurd (omega arith)
sound_apart (c ∷ cs) r some e =
    let same : r ≡ cs = e ∙ take_rest (c ∷ cs) 1 in
    rw same (ap (λ b. not (get_or c 0 0 == 0) && (not b && sound (cells_of cs))) (sym (here_position (get_or c 0 0) cs)))

module _ (cs : List (List ℕ)) (some : 1 ≤ length cs) where
  abbrev first : ℕ
  first = get_or (get_or cs 0 []) 0 0

  abbrev others : List (List ℕ)
  others = take (length cs - 1) (drop 1 cs)

  sound_first :
      sound (cells_of cs) ≡ (not (first == 0) && (not (is_some (position (is_at first) others)) && sound (cells_of others)))
  sound_first = sound_apart cs others some refl

  pub unsound_nowhere : first ≡ 0 → sound (cells_of cs) ≡ false
  unsound_nowhere e = sound_first ∙ ap (λ b. not b && (not (is_some (position (is_at first) others)) && sound (cells_of others))) (eq-eqb first 0 e)

  module _ (o : Option ℕ) (is : o ≡ position (is_at first) others) where
    known : (b : Bool) → is_some o ≡ b → sound (cells_of cs) ≡ (not (first == 0) && (not b && sound (cells_of others)))
    known b e = sound_first ∙ ap (λ r. not (first == 0) && (not r && sound (cells_of others))) (sym (ap is_some is) ∙ e)

    pub unsound_twice : is_some o ≡ true → sound (cells_of cs) ≡ false
    unsound_twice e = known true e ∙ and_right (not (first == 0)) false refl

    pub sound_more : (first ≡ 0 → ⊥) → is_some o ≡ false → sound (cells_of cs) ≡ sound (cells_of others)
    sound_more ne e = known false e ∙ ap (λ b. not b && sound (cells_of others)) (ne_eqb first 0 ne)
