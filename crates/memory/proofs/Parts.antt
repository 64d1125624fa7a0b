-- Two parts and their whole, whatever the cells hold.
--
-- parts_comm, parts_assoc and parts_regroup: the order and the grouping of parts do not matter.
-- here_parts: the whole has a cell at a place if one of the parts does; here-left to absent_whole say it by cases.
-- sound-left, sound_right, parts_disjoint and sound_whole: the whole is sound if the parts are, and share no place; and only then.
-- here_out, absent_out and out_absent: the places of a memory that one cell is taken out of.
-- parts_same: parts of one sound memory that have the same places are equal, and so are their rests.
-- one_out: a sound memory has at most one cell at a place, and one rest without it.
use Rattle.std.proofs.Common.{◌≡◌, ℕ, ◌+◌, Bool, true, false, not, ◌&&◌, ◌||◌, T, eqb, ◌⊎◌, List, [], ◌∷◌, length, sym, refl, ap, ◌∙◌, ⊎_elim, arith}
use mathlib.Core.Bool.{or_assoc}
use Rattle.std.proofs.lemmas.Bool.{both_ways, cases_eq, eqb-true, eq-eqb, ne_eqb, or_cases, or_parts, or_from, or_left, or_right}
use Rattle.claims.specs.Memory.{Cell, Cells, here, sound, Parts, none_p, left_p, right_p}

pub parts_comm : {A : Type 0} {a b m : List A} → Parts a b m → Parts b a m
parts_comm none_p = none_p
parts_comm (left_p t) = right_p (parts_comm t)
parts_comm (right_p t) = left_p (parts_comm t)

-- a part of a part is a part
pub parts_assoc :
    {A : Type 0} {a b c d m : List A} → Parts a b m → Parts c d a → (e : List A) × Parts c e m × Parts d b e
parts_assoc none_p none_p = ([], none_p, none_p)
parts_assoc (left_p t) (left_p s) = let (e, u, v) = parts_assoc t s in (e, left_p u, v)
parts_assoc (left_p {c = x} t) (right_p s) = let (e, u, v) = parts_assoc t s in (x ∷ e, right_p u, left_p v)
parts_assoc (right_p {c = x} t) s = let (e, u, v) = parts_assoc t s in (x ∷ e, right_p u, right_p v)

-- a part and a part of the rest are a part together
pub parts_regroup :
    {A : Type 0} {a b c d m : List A} → Parts a b m → Parts c d b → (e : List A) × Parts a c e × Parts e d m
parts_regroup t s = let (e, u, v) = parts_assoc (parts_comm t) (parts_comm s) in (e, parts_comm v, parts_comm u)

pub parts_none : {A : Type 0} {b m : List A} → Parts [] b m → b ≡ m
parts_none none_p = refl
parts_none (right_p {c = x} t) = ap (λ l. x ∷ l) (parts_none t)

pub none_parts : {A : Type 0} (m : List A) → Parts [] m m
none_parts [] = none_p
none_parts (x ∷ m) = right_p (none_parts m)

pub all_parts : {A : Type 0} (m : List A) → Parts m [] m
all_parts m = parts_comm (none_parts m)

pub parts_length : {A : Type 0} {a b m : List A} → Parts a b m → length m ≡ length a + length b
parts_length none_p = refl
parts_length (left_p t) = omega (arith, parts_length t)
parts_length (right_p t) = omega (arith, parts_length t)

or_middle : (x y z : Bool) → (x || (y || z)) ≡ (y || (x || z))
or_middle true true z = refl
or_middle true false z = refl
or_middle false y z = refl

pub here_parts : {A : Type 0} {a b m : Cells A} → Parts a b m → (x : ℕ) → here x m ≡ (here x a || here x b)
here_parts none_p x = refl
here_parts (left_p {c = k} {a = a} {b = b} t) x =
    ap (λ h. eqb k.place x || h) (here_parts t x) ∙ sym (or_assoc (eqb k.place x) (here x a) (here x b))
here_parts (right_p {c = k} {a = a} {b = b} t) x =
    ap (λ h. eqb k.place x || h) (here_parts t x) ∙ or_middle (eqb k.place x) (here x a) (here x b)

pub here-left : {A : Type 0} {a b m : Cells A} → Parts a b m → (x : ℕ) → here x a ≡ true → here x m ≡ true
here-left {a = a} {b = b} t x h = here_parts t x ∙ or_left (here x a) (here x b) h

pub here_right : {A : Type 0} {a b m : Cells A} → Parts a b m → (x : ℕ) → here x b ≡ true → here x m ≡ true
here_right t x h = here-left (parts_comm t) x h

pub here_either :
    {A : Type 0} {a b m : Cells A} → Parts a b m → (x : ℕ) → here x m ≡ true → (here x a ≡ true) ⊎ (here x b ≡ true)
here_either {a = a} {b = b} t x h = or_cases (here x a) (here x b) (sym (here_parts t x) ∙ h)

pub here_neither :
    {A : Type 0} {a b m : Cells A} → Parts a b m → (x : ℕ) → here x m ≡ false → (here x a ≡ false) × (here x b ≡ false)
here_neither {a = a} {b = b} t x h = or_parts (here x a) (here x b) (sym (here_parts t x) ∙ h)

pub absent_whole :
    {A : Type 0} {a b m : Cells A} → Parts a b m → (x : ℕ) → here x a ≡ false → here x b ≡ false → here x m ≡ false
absent_whole {a = a} {b = b} t x h k = here_parts t x ∙ or_from (here x a) (here x b) h k

pub here_first : {A : Type 0} (c : Cell A) (m : Cells A) → here c.place (c ∷ m) ≡ true
here_first c m = or_left (eqb c.place c.place) (here c.place m) (eq-eqb c.place c.place refl)

pub not_true_false : (b : Bool) → (b ≡ true → ⊥) → b ≡ false
not_true_false true h = absurd (h refl)
not_true_false false h = refl

not_so : (b : Bool) → T (not b) → b ≡ false
not_so true t = absurd t
not_so false t = refl

both : (x y : Bool) → T (x && y) → T x × T y
both true y t = (tt, t)
both false y t = absurd t

both_from : (x y : Bool) → x ≡ false → T y → T (not x && y)
both_from true y e t = absurd (both_ways true e refl)
both_from false y e t = t

-- what it is for a memory with the first cell c and the others m to be sound
pub record FirstSound {A : Type 0} (c : Cell A) (m : Cells A) : Type 0 where
  pub somewhere : c.place ≡ 0 → ⊥
  pub alone : here c.place m ≡ false
  pub others : T (sound m)

pub sound_first : {A : Type 0} (c : Cell A) (m : Cells A) → T (sound (c ∷ m)) → FirstSound c m
sound_first c m s =
    let (t, u) = both (not (eqb c.place 0)) (not (here c.place m) && sound m) s in
    let (v, w) = both (not (here c.place m)) (sound m) u in
    record {
      somewhere = λ e. both_ways (eqb c.place 0) (not_so (eqb c.place 0) t) (eq-eqb c.place 0 e);
      alone = not_so (here c.place m) v;
      others = w;
    }

pub first_sound : {A : Type 0} (c : Cell A) (m : Cells A) → FirstSound c m → T (sound (c ∷ m))
first_sound c m f =
    let apart = both_from (here c.place m) (sound m) f.alone f.others in
    both_from (eqb c.place 0) (not (here c.place m) && sound m) (ne_eqb c.place 0 f.somewhere) apart

-- nowhere is no place of a sound memory
pub sound_nowhere : {A : Type 0} (m : Cells A) → T (sound m) → here 0 m ≡ false
sound_nowhere [] s = refl
sound_nowhere (c ∷ m) s =
    let f = sound_first c m s in
    or_from (eqb c.place 0) (here 0 m) (ne_eqb c.place 0 f.somewhere) (sound_nowhere m f.others)

pub sound-left : {A : Type 0} {a b m : Cells A} → Parts a b m → T (sound m) → T (sound a)
sound-left none_p s = tt
sound-left (left_p {c = c} {a = a} {m = m} t) s =
    let f = sound_first c m s in
    first_sound c a (record {
      somewhere = f.somewhere;
      alone = (here_neither t c.place f.alone).0;
      others = sound-left t f.others;
    })
sound-left (right_p {c = c} {m = m} t) s = sound-left t (sound_first c m s).others

pub sound_right : {A : Type 0} {a b m : Cells A} → Parts a b m → T (sound m) → T (sound b)
sound_right t s = sound-left (parts_comm t) s

-- no place is one of both
abbrev pub Disjoint : {A : Type 0} → Cells A → Cells A → Type 0
Disjoint a b = (x : ℕ) → here x a ≡ true → here x b ≡ false

pub parts_disjoint : {A : Type 0} {a b m : Cells A} → Parts a b m → T (sound m) → Disjoint a b
parts_disjoint none_p s x h = refl
parts_disjoint (left_p {c = c} {a = a} {b = b} {m = m} t) s x h =
    let f = sound_first c m s in
    let absent = (here_neither t c.place f.alone).1 in
    ⊎_elim (λ e. rw (← eqb-true c.place x e) absent) (parts_disjoint t f.others x) (or_cases (eqb c.place x) (here x a) h)
parts_disjoint (right_p {c = c} {b = b} {m = m} t) s x h =
    let f = sound_first c m s in
    let elsewhere : c.place ≡ x → ⊥ = λ e. both_ways (here x m) (rw e at f.alone) (here-left t x h) in
    or_from (eqb c.place x) (here x b) (ne_eqb c.place x elsewhere) (parts_disjoint t f.others x h)

pub sound_whole : {A : Type 0} {a b m : Cells A} → Parts a b m → T (sound a) → T (sound b) → Disjoint a b → T (sound m)
sound_whole none_p s u d = tt
sound_whole (left_p {c = c} {a = a} {m = m} t) s u d =
    let f = sound_first c a s in
    first_sound c m (record {
      somewhere = f.somewhere;
      alone = absent_whole t c.place f.alone (d c.place (here_first c a));
      others = sound_whole t f.others u (λ x h. d x (or_right (eqb c.place x) (here x a) h));
    })
sound_whole (right_p {c = c} {a = a} {b = b} {m = m} t) s u d =
    let f = sound_first c b u in
    let absent = not_true_false (here c.place a) (λ h. both_ways (here c.place (c ∷ b)) (d c.place h) (here_first c b)) in
    first_sound c m (record {
      somewhere = f.somewhere;
      alone = absent_whole t c.place absent f.alone;
      others = sound_whole t s f.others (λ x h. (or_parts (eqb c.place x) (here x b) (d x h)).1);
    })

-- without their first cell c, cells that have the same places have the same places
others_same :
    {A : Type 0} (c : Cell A) (a b : Cells A) → here c.place a ≡ false → here c.place b ≡ false →
    ((x : ℕ) → here x (c ∷ a) ≡ here x (c ∷ b)) → (x : ℕ) → here x a ≡ here x b
others_same c a b p q h x =
    ⊎_elim (λ e. rw (← e) (p ∙ sym q)) (λ ne. rw (ne_eqb c.place x ne) at (h x)) (cases_eq c.place x)

-- Parts of one sound memory that have the same places are equal, and so are their rests.
pub parts_same :
    {A : Type 0} {a b a' b' m : Cells A} → Parts a b m → Parts a' b' m → T (sound m) → ((x : ℕ) → here x a ≡ here x a') →
    (a ≡ a') × (b ≡ b')
parts_same none_p none_p s h = (refl, refl)
parts_same (left_p {c = c} {a = a} {m = m} t) (left_p {a = a'} u) s h =
    let f = sound_first c m s in
    let same = others_same c a a' (here_neither t c.place f.alone).0 (here_neither u c.place f.alone).0 h in
    let (p, q) = parts_same t u f.others same in
    (ap (λ l. c ∷ l) p, q)
parts_same (right_p {c = c} {m = m} t) (right_p u) s h =
    let (p, q) = parts_same t u (sound_first c m s).others h in
    (p, ap (λ l. c ∷ l) q)
parts_same (left_p {c = c} {a = a} {m = m} t) (right_p {a = a'} u) s h =
    let absent = (here_neither u c.place (sound_first c m s).alone).0 in
    absurd (both_ways (here c.place a') absent (sym (h c.place) ∙ here_first c a))
parts_same (right_p {c = c} {a = a} {m = m} t) (left_p {a = a'} u) s h =
    let absent = (here_neither t c.place (sound_first c m s).alone).0 in
    absurd (both_ways (here c.place a) absent (h c.place ∙ here_first c a'))

-- the rest is determined by the part
pub rest_same : {A : Type 0} {a b a' b' m : Cells A} → Parts a b m → Parts a' b' m → T (sound m) → a ≡ a' → b ≡ b'
rest_same t u s e = (parts_same t u s (λ x. ap (λ l. here x l) e)).1

-- there is one way to take the cell at a place out of a sound memory
pub one_out :
    {A : Type 0} {c d : Cell A} {b b' m : Cells A} → Parts (c ∷ []) b m → Parts (d ∷ []) b' m → T (sound m) →
    c.place ≡ d.place → (c ≡ d) × (b ≡ b')
one_out t u s e =
    let (p, q) = parts_same t u s (λ x. ap (λ y. eqb y x || false) e) in
    (cc, q)

pub here_out : {A : Type 0} {c : Cell A} {b m : Cells A} → Parts (c ∷ []) b m → here c.place m ≡ true
here_out {c = c} t = here-left t c.place (here_first c [])

pub absent_out :
    {A : Type 0} {c : Cell A} {b m : Cells A} → Parts (c ∷ []) b m → (x : ℕ) → (c.place ≡ x → ⊥) → here x b ≡ false →
    here x m ≡ false
absent_out {c = c} t x ne h = here_parts t x ∙ rw (ne_eqb c.place x ne) h

pub out_absent :
    {A : Type 0} {c : Cell A} {b m : Cells A} → Parts (c ∷ []) b m → (x : ℕ) → here x m ≡ false →
    (c.place ≡ x → ⊥) × (here x b ≡ false)
out_absent {m = m} t x h = ((λ e. both_ways (here x m) h (rw e at (here_out t))), (here_neither t x h).1)
