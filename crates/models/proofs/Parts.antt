-- More on two parts and their whole.
--
-- append_parts, parts_behind: lists joined, and behind another.
-- out_first: what is taken out of a list is its first element, or out of the others.
-- here_cons, here_only: a cell at a place is the first, or one of the others.
-- cell_at: a cell at a place can be taken out; cell_left: a part that has the place has the whole's cell there.
use Rattle.std.proofs.Common.{◌≡◌, ℕ, true, T, eqb, ◌⊎◌, List, [], ◌∷◌, ◌++◌, sym, refl, inl, inr, ⊎_elim}
use Rattle.std.proofs.lemmas.Bool.{false≢true, eqb-true, or_cases}
use Rattle.claims.specs.Memory.{Cell, Cells, here, sound, Parts, left_p, right_p}
use Rattle.memory.proofs.Parts.{parts_assoc, parts_none, none_parts, one_out}

pub append_parts : {A : Type 0} (a b : List A) → Parts a b (a ++ b)
append_parts [] b = none_parts b
append_parts (x ∷ a) b = left_p (append_parts a b)

pub parts_behind : {A : Type 0} {b c m : List A} (a : List A) → Parts b c m → Parts b (a ++ c) (a ++ m)
parts_behind [] t = t
parts_behind (x ∷ a) t = right_p (parts_behind a t)

-- what is taken out of a list is its first element, or out of the others
pub out_first :
    {A : Type 0} {c x : A} {b m : List A} → Parts (c ∷ []) b (x ∷ m) →
    ((x ≡ c) × (m ≡ b)) ⊎ ((b' : List A) × (b ≡ x ∷ b') × Parts (c ∷ []) b' m)
out_first (left_p t) = inl (refl, sym (parts_none t))
out_first (right_p {b = b} t) = inr (b, refl, t)

-- a memory with the first cell c has a cell at p: it is c, or one of the others
pub here_cons : {A : Type 0} (p : ℕ) (c : Cell A) (m : Cells A) → here p (c ∷ m) ≡ true → (c.place ≡ p) ⊎ (here p m ≡ true)
here_cons p c m h = ⊎_elim (λ e. inl (eqb-true c.place p e)) inr (or_cases (eqb c.place p) (here p m) h)

pub here_only : {A : Type 0} (p : ℕ) (c : Cell A) → here p (c ∷ []) ≡ true → c.place ≡ p
here_only p c h = ⊎_elim (λ e. e) (λ z. absurd (false≢true z)) (here_cons p c [] h)

-- the cell at the place p of a memory, and the others
pub record CellOut {A : Type 0} (p : ℕ) (m : Cells A) : Type 0 where
  pub held : A
  pub others : Cells A
  pub out : Parts (record { place = p; holds = held } ∷ []) others m

pub cell_at : {A : Type 0} (p : ℕ) (m : Cells A) → here p m ≡ true → CellOut p m
cell_at p [] h = absurd (false≢true h)
cell_at p (c ∷ m) h = ⊎_elim first (λ k. later (cell_at p m k)) (here_cons p c m h)
  where
    first : c.place ≡ p → CellOut p (c ∷ m)
    first e = record { held = c.holds; others = m; out = rw (← e) (left_p (none_parts m)) }

    later : CellOut p m → CellOut p (c ∷ m)
    later o = record { held = o.held; others = c ∷ o.others; out = right_p o.out }

pub cell_left :
    {A : Type 0} {a e o m : Cells A} {c : Cell A} → Parts a e m → Parts (c ∷ []) o m → T (sound m) → here c.place a ≡ true →
    (a' : Cells A) × Parts a' e o
cell_left {a = a} {c = c} t u s h =
    let own = cell_at c.place a h in
    let (f, w, x) = parts_assoc t own.out in
    (own.others, rw (one_out w u s refl).1 at x)
