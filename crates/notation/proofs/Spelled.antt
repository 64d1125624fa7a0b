-- What is spelled where: a span cut to the text's length, one more name, and a name among others.
use Rattle.std.proofs.Common.{◌≡◌, ℕ, zero, suc, ◌<◌, ◌≤◌, min, Bool, true, false, cond, List, [], ◌∷◌, ◌++◌, length, get_or, take, drop, Some, None, Option, sym, refl, ap, ◌∙◌, subst, ⊎_elim, arith}
use native.Mathlib.Nat.{min-eq_left, min-eq_right}
use Rattle.std.specs.List.{between}
use Rattle.std.proofs.str.Laws.{order}
use Rattle.std.proofs.lemmas.List.{take_all, drop_all, get_or_append_left, get_or_push, length_push, get_or-map, map_push, length-map}
use Rattle.std.proofs.lemmas.Slice.{between_is}
use Rattle.notation.specs.declared.spans.Span.{Span}
use Rattle.notation.specs.Spelling.{spelling, spellings, Distinct, Found}

take_cut : (e : ℕ) (xs : List ℕ) → take (min e (length xs)) xs ≡ take e xs
take_cut e xs =
    ⊎_elim
    (λ h. ap (λ n. take n xs) (min-eq_left (omega arith)))
    (λ h. ap (λ n. take n xs) (min-eq_right h) ∙ take_all (length xs) xs (omega arith) ∙ sym (take_all e xs h))
    (order e (length xs))

drop_cut : (s n : ℕ) (xs : List ℕ) → length xs ≤ n → drop (min s n) xs ≡ drop s xs
drop_cut s n xs h =
    ⊎_elim
    (λ lt. ap (λ k. drop k xs) (min-eq_left (omega arith)))
    (λ le. ap (λ k. drop k xs) (min-eq_right le) ∙ drop_all n xs h ∙ sym (drop_all s xs (omega arith)))
    (order s n)

take_short : (n : ℕ) (xs : List ℕ) → length (take n xs) ≤ n
take_short zero xs = omega arith
take_short (suc n) [] = omega arith
take_short (suc n) (x ∷ xs) = omega (arith, take_short n xs)

pub cut_span : (s e : ℕ) (xs : List ℕ) → between (min s (min e (length xs))) (min e (length xs)) xs ≡ between s e xs
cut_span s e xs =
    let n = min e (length xs) in
    between_is xs (min s n) n ∙ drop_cut s n (take n xs) (take_short n xs) ∙ ap (λ l. drop s l) (take_cut e xs) ∙ sym (between_is xs s e)

pub spelled_at : (text : List ℕ) (names : List Span) (i : ℕ) (x : Span) → i < length names → x ≡ get_or names i x → get_or (spellings text names) i [] ≡ spelling text x
spelled_at text names i x lt e = get_or-map (spelling text) names i x [] lt ∙ ap (spelling text) (sym e)

pub no_bytes : (bs : List ℕ) → length bs ≡ 0 → bs ≡ []
no_bytes [] e = refl
no_bytes (b ∷ bs) e = absurd (omega arith)

-- the first name stays when one more is added
pub first_push : (text : List ℕ) (names more : List Span) (x : Span) → more ≡ names ++ x ∷ [] → 1 ≤ length names → length (get_or (spellings text names) 0 []) ≡ 0 → length (get_or (spellings text more) 0 []) ≡ 0
first_push text (y ∷ names) more x e some h =
    let P : List Span → Type 0 = λ l. length (get_or (spellings text l) 0 []) ≡ 0 in
    subst P (sym e) h
first_push text [] more x e some h = absurd (omega arith)

distinct_last : (all : List (List ℕ)) (s : List ℕ) → Distinct all → ((k : ℕ) → k < length all → get_or all k [] ≡ s → ⊥) → Distinct (all ++ s ∷ [])
distinct_last all s h none i j lt within e =
    let long = length_push all s in
    let below : i < length all = omega arith in
    ⊎_elim
    (λ inside. h i j lt inside (sym (get_or_append_left all (s ∷ []) [] i below) ∙ e ∙ get_or_append_left all (s ∷ []) [] j inside))
    (λ last. none i below (sym (get_or_append_left all (s ∷ []) [] i below) ∙ e ∙ get_or_push all s [] j (omega arith)))
    (order j (length all))

-- one more name, which is spelled otherwise than those before
pub distinct_push : (text : List ℕ) (names more : List Span) (x : Span) → more ≡ names ++ x ∷ [] → Distinct (spellings text names) → ((k : ℕ) → k < length (spellings text names) → get_or (spellings text names) k [] ≡ spelling text x → ⊥) → Distinct (spellings text more)
distinct_push text names more x e h none =
    subst Distinct (sym (ap (spellings text) e ∙ map_push (spelling text) names x)) (distinct_last (spellings text names) (spelling text x) h none)

-- the name that was added
pub last_spelled : (text : List ℕ) (names more : List Span) (x : Span) (i : ℕ) → more ≡ names ++ x ∷ [] → length names ≡ i → get_or (spellings text more) i [] ≡ spelling text x
last_spelled text names more x i e long =
    ap (λ l. get_or (spellings text l) i []) e ∙ ap (λ l. get_or l i []) (map_push (spelling text) names x) ∙
    get_or_push (spellings text names) (spelling text x) [] i (length-map names (spelling text) ∙ long)

pub no_span : Span
no_span = record { start = 0; end = 0 }

-- a search among the names: by their spans, and by how they are spelled
module _ (text : List ℕ) (names : List Span) (w : List ℕ) where
  abbrev pub SpanFound : Option ℕ → Type 0
  SpanFound (Some i) = (i < length names) × (spelling text (get_or names i no_span) ≡ w)
  SpanFound None = (k : ℕ) → k < length names → spelling text (get_or names k no_span) ≡ w → ⊥

  pub spelling_found : (r : Option ℕ) → SpanFound r → Found (spellings text names) w r
  spelling_found (Some i) h =
      (omega (arith, h.0, length-map names (spelling text)), get_or-map (spelling text) names i no_span [] h.0 ∙ h.1)
  spelling_found None none = λ k lt e.
      let within : k < length names = omega (arith, lt, length-map names (spelling text)) in
      none k within (sym (get_or-map (spelling text) names k no_span [] within) ∙ e)

-- after an attempt to add a name, whether there was memory for it or not
module _ (text : List ℕ) (names more : List Span) (x : Span) where
  pub first_kept : (b : Bool) → more ≡ cond b (names ++ x ∷ []) names → 1 ≤ length names → length (get_or (spellings text names) 0 []) ≡ 0 → length (get_or (spellings text more) 0 []) ≡ 0
  first_kept true e some h = first_push text names more x e some h
  first_kept false e some h =
      let P : List Span → Type 0 = λ l. length (get_or (spellings text l) 0 []) ≡ 0 in
      subst P (sym e) h

  pub distinct_kept : (b : Bool) → more ≡ cond b (names ++ x ∷ []) names → Distinct (spellings text names) → ((k : ℕ) → k < length (spellings text names) → get_or (spellings text names) k [] ≡ spelling text x → ⊥) → Distinct (spellings text more)
  distinct_kept true e h none = distinct_push text names more x e h none
  distinct_kept false e h none =
      let P : List Span → Type 0 = λ l. Distinct (spellings text l) in
      subst P (sym e) h
