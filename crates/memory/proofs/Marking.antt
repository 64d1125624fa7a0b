-- Memories as words, and cells that are marked.
--
-- length_memory, memory_at: how many cells words are, and which; memory_words_of and words_memory: words and memories tell each other.
-- sound_rest: what is left of a sound memory is sound.
-- mark_out: marking a cell takes it out of the unmarked ones; unmarked_clear: with no marks all cells are left; all_unmarked: so it is with marks that are all set to 0.
-- absent_unmarked, none-unmarked: what is left has no cell at a place, or none at all.
-- step_absent, step_taken and step_out: the ways of taking the cell at a place.
use Rattle.std.proofs.Common.{◌≡◌, ℕ, zero, suc, ◌+◌, ◌*◌, ◌/◌, ◌%◌, ◌<◌, false, true, T, eqb, List, [], ◌∷◌, length, get_or, set, replicate, sym, refl, ap, ◌∙◌, arith}
use Rattle.std.proofs.lemmas.Bool.{both_ways, or_from, or_right, ne_eqb}
use Rattle.claims.specs.Memory.{Cell, Memory, here, sound, Parts, none_p, left_p, right_p}
use Rattle.memory.specs.Marks.{memory_words, memory_of, unmarked, rest_of}
use Rattle.memory.proofs.Parts.{none_parts, here_neither, here_first, sound_first, sound_right}

pub length_memory : (s : List ℕ) → length (memory_of s) ≡ length s / 2
length_memory [] = refl
length_memory (p ∷ []) = refl
length_memory (p ∷ q ∷ s) = omega (arith, length_memory s)

-- no cell, where a default is asked for
pub nowhere : Cell ℕ
nowhere = record { place = 0; holds = 0 }

pub memory_at :
    (s : List ℕ) (i : ℕ) (d : Cell ℕ) → i < length s / 2 →
    get_or (memory_of s) i d ≡ record { place = get_or s (2 * i) 0; holds = get_or s (2 * i + 1) 0 }
memory_at [] i d h = absurd (omega arith)
memory_at (p ∷ []) i d h = absurd (omega arith)
memory_at (p ∷ q ∷ s) zero d h = refl
memory_at (p ∷ q ∷ s) (suc i) d h =
    let first : 2 * suc i ≡ suc (suc (2 * i)) = omega arith in
    let second : 2 * suc i + 1 ≡ suc (suc (2 * i + 1)) = omega arith in
    rw (second, first) (memory_at s i d (omega arith))

pub memory_words_of : (m : Memory) → memory_of (memory_words m) ≡ m
memory_words_of [] = refl
memory_words_of (c ∷ m) = ap (λ l. c ∷ l) (memory_words_of m)

pub words_memory : (s : List ℕ) → length s % 2 ≡ 0 → memory_words (memory_of s) ≡ s
words_memory [] h = refl
words_memory (p ∷ []) h = absurd (omega arith)
words_memory (p ∷ q ∷ s) h = ap (λ l. p ∷ q ∷ l) (words_memory s (omega arith))

pub length-words : (m : Memory) → length (memory_words m) ≡ 2 * length m
length-words [] = refl
length-words (c ∷ m) = omega (arith, length-words m)

pub mark_out :
    {A : Type 0} (w : List ℕ) (m : List A) (i : ℕ) (d : A) → i < length m → i < length w → get_or w i 0 ≡ 0 →
    Parts (get_or m i d ∷ []) (unmarked (set w i 1) m) (unmarked w m)
mark_out [] m i d h k e = absurd (omega arith)
mark_out (x ∷ w) [] i d h k e = absurd (omega arith)
mark_out (zero ∷ w) (c ∷ m) zero d h k e = left_p (none_parts (unmarked w m))
mark_out (suc x ∷ w) (c ∷ m) zero d h k e = absurd (omega arith)
mark_out (zero ∷ w) (c ∷ m) (suc i) d h k e = right_p (mark_out w m i d (omega arith) (omega arith) e)
mark_out (suc x ∷ w) (c ∷ m) (suc i) d h k e = mark_out w m i d (omega arith) (omega arith) e

-- what is left is a part of the memory, and so as sound
pub unmarked_part : (w : List ℕ) (m : Memory) → (used : Memory) × Parts used (unmarked w m) m
unmarked_part [] m = ([], none_parts m)
unmarked_part (zero ∷ w) [] = ([], none_p)
unmarked_part (suc x ∷ w) [] = ([], none_p)
unmarked_part (zero ∷ w) (c ∷ m) = let (used, t) = unmarked_part w m in (used, right_p t)
unmarked_part (suc x ∷ w) (c ∷ m) = let (used, t) = unmarked_part w m in (c ∷ used, left_p t)

pub sound_rest : (s w : List ℕ) → T (sound (memory_of s)) → T (sound (rest_of s w))
sound_rest s w h = sound_right (unmarked_part w (memory_of s)).1 h

pub unmarked_clear : {A : Type 0} (w : List ℕ) (m : List A) → ((i : ℕ) → i < length w → get_or w i 0 ≡ 0) → unmarked w m ≡ m
unmarked_clear [] m h = refl
unmarked_clear (zero ∷ w) [] h = refl
unmarked_clear (suc x ∷ w) [] h = refl
unmarked_clear (zero ∷ w) (c ∷ m) h = ap (λ l. c ∷ l) (unmarked_clear w m (λ i l. h (suc i) (omega arith)))
unmarked_clear (suc x ∷ w) (c ∷ m) h = absurd (omega (arith, h 0 (omega arith)))

pub all_unmarked : {A : Type 0} (k : ℕ) (m : List A) → unmarked (replicate k 0) m ≡ m
all_unmarked zero m = refl
all_unmarked (suc k) [] = refl
all_unmarked (suc k) (c ∷ m) = ap (λ l. c ∷ l) (all_unmarked k m)

pub none-unmarked :
    {A : Type 0} (w : List ℕ) (m : List A) → length w ≡ length m → ((i : ℕ) → i < length w → get_or w i 0 ≡ 0 → ⊥) → unmarked w m ≡ []
none-unmarked [] [] e h = refl
none-unmarked [] (c ∷ m) e h = absurd (omega arith)
none-unmarked (zero ∷ w) [] e h = refl
none-unmarked (suc x ∷ w) [] e h = refl
none-unmarked (zero ∷ w) (c ∷ m) e h = absurd (h 0 (omega arith) refl)
none-unmarked (suc x ∷ w) (c ∷ m) e h = none-unmarked w m (omega arith) (λ i l. h (suc i) (omega arith))

pub absent_unmarked :
    (w : List ℕ) (m : Memory) (p : ℕ) (d : Cell ℕ) → length w ≡ length m →
    ((i : ℕ) → i < length w → get_or w i 0 ≡ 0 → (get_or m i d).place ≡ p → ⊥) → here p (unmarked w m) ≡ false
absent_unmarked [] [] p d e h = refl
absent_unmarked [] (c ∷ m) p d e h = absurd (omega arith)
absent_unmarked (zero ∷ w) [] p d e h = refl
absent_unmarked (suc x ∷ w) [] p d e h = refl
absent_unmarked (zero ∷ w) (c ∷ m) p d e h =
    or_from (eqb c.place p) (here p (unmarked w m)) (ne_eqb c.place p (h 0 (omega arith) refl))
    (absent_unmarked w m p d (omega arith) (λ i l. h (suc i) (omega arith)))
absent_unmarked (suc x ∷ w) (c ∷ m) p d e h = absent_unmarked w m p d (omega arith) (λ i l. h (suc i) (omega arith))

-- where a sound memory has a marked cell, nothing is left
pub absent_marked :
    (w : List ℕ) (m : Memory) (i : ℕ) (c : Cell ℕ) → T (sound m) → i < length m → (get_or w i 0 ≡ 0 → ⊥) →
    ((d : Cell ℕ) → get_or m i d ≡ c) → here c.place (unmarked w m) ≡ false
absent_marked [] m i c s h ne e = absurd (ne refl)
absent_marked (x ∷ w) [] i c s h ne e = absurd (omega arith)
absent_marked (zero ∷ w) (a ∷ m) zero c s h ne e = absurd (ne refl)
absent_marked (suc x ∷ w) (a ∷ m) zero c s h ne e =
    rw (← e a) (here_neither (unmarked_part w m).1 a.place (sound_first a m s).alone).1
absent_marked (suc x ∷ w) (a ∷ m) (suc i) c s h ne e = absent_marked w m i c (sound_first a m s).others (omega arith) ne e
absent_marked (zero ∷ w) (a ∷ m) (suc i) c s h ne e =
    let f = sound_first a m s in
    let elsewhere : a.place ≡ c.place → ⊥ = λ same. both_ways (here c.place m) (rw same at f.alone) (here_at m i c (omega arith) e) in
    or_from (eqb a.place c.place) (here c.place (unmarked w m)) (ne_eqb a.place c.place elsewhere)
    (absent_marked w m i c f.others (omega arith) ne e)
  where
    here_at : (m : Memory) (i : ℕ) (c : Cell ℕ) → i < length m → ((d : Cell ℕ) → get_or m i d ≡ c) → here c.place m ≡ true
    here_at [] i c h e = absurd (omega arith)
    here_at (a ∷ m) zero c h e = ap (λ b. here b.place (a ∷ m)) (sym (e a)) ∙ here_first a m
    here_at (a ∷ m) (suc i) c h e = or_right (eqb a.place c.place) (here c.place m) (here_at m i c (omega arith) e)

module _ (s w : List ℕ) (p : ℕ) where
  pub step_absent : here p (memory_of s) ≡ false → here p (rest_of s w) ≡ false
  step_absent h = (here_neither (unmarked_part w (memory_of s)).1 p h).1

  module _ (i q : ℕ) (within : i < length (memory_of s)) (is : (d : Cell ℕ) → get_or (memory_of s) i d ≡ record { place = p; holds = q }) where
    pub step_taken : T (sound (memory_of s)) → (get_or w i 0 ≡ 0 → ⊥) → here p (rest_of s w) ≡ false
    step_taken sound ne = absent_marked w (memory_of s) i (record { place = p; holds = q }) sound within ne is

    pub step_out : length w ≡ length s / 2 → get_or w i 0 ≡ 0 → Parts (record { place = p; holds = q } ∷ []) (rest_of s (set w i 1)) (rest_of s w)
    step_out room e =
        let out = mark_out w (memory_of s) i nowhere within (omega (arith, length_memory s)) e in
        rw (is nowhere) at out
