-- Words that are made of threes: the parts of a claim, one after the other.
--
-- f gives the three words of a part, and P says which parts are meant. `threes_more`, `threes_stop`, `threes_all` and
-- `threes_rest` are the ways of a loop that reads one part after the other; `threes_one` says that the words tell the parts.
use Rattle.std.proofs.Common.{◌≡◌, ℕ, zero, suc, ◌+◌, ◌-◌, ◌*◌, ◌/◌, ◌%◌, ◌<◌, List, [], ◌∷◌, ◌++◌, map, length, get_or, take, drop, sym, refl, ap, ◌∙◌, ap₂, arith, length-append, take-add}
use lib.Seq.{drop-append-add}
use Rattle.std.specs.List.{flat_map, AllByRecursion}
use Rattle.std.proofs.lemmas.List.{take_at, drop_at, append_assoc, flat_map_more, map_more, take_all, take_rest}
use Rattle.std.proofs.ByRecursion.{All-push}

-- lists that are put together of as long fronts are equal only part by part
pub append_split :
    {A : Type 0} (n : ℕ) (a b u v : List A) → length a ≡ n → length b ≡ n → a ++ u ≡ b ++ v → (a ≡ b) × (u ≡ v)
append_split n a b u v h k e =
    (sym (take_at a u n h) ∙ ap (take n) e ∙ take_at b v n k, sym (drop_at a u n h) ∙ ap (drop n) e ∙ drop_at b v n k)

-- one more part's words are put behind those of the parts before
pub joined_map_more :
    {X A : Type 0} (f : A → List ℕ) (g : X → A) (front : List ℕ) (xs : List X) (i : ℕ) (d : X) → i < length xs →
    (front ++ flat_map f (map g (take i xs))) ++ f (g (get_or xs i d)) ≡ front ++ flat_map f (map g (take (i + 1) xs))
joined_map_more f g front xs i d h =
    flat_map_more f front (map g (take i xs)) (g (get_or xs i d)) ∙ ap (λ u. front ++ flat_map f u) (sym (map_more g xs i d h))

module _ {A : Type 0} (f : A → List ℕ) (P : A → Type 0) (three : (x : A) → length (f x) ≡ 3) where
  pub length_threes : (xs : List A) → length (flat_map f xs) ≡ 3 * length xs
  length_threes [] = refl
  length_threes (x ∷ xs) = length-append (f x) (flat_map f xs) ∙ omega (arith, three x, length_threes xs)

  -- the part at i has its words at 3 * i
  pub threes_at :
      (xs : List A) (i : ℕ) → i < length xs → AllByRecursion P xs → (x : A) × P x × (take 3 (drop (3 * i) (flat_map f xs)) ≡ f x)
  threes_at [] i h a = absurd (omega arith)
  threes_at (x ∷ xs) zero h a = (x, a.0, take_at (f x) (flat_map f xs) 3 (three x))
  threes_at (x ∷ xs) (suc i) h a =
      let t = threes_at xs i (omega arith) a.1 in
      let e : 3 * suc i ≡ length (f x) + 3 * i = omega (arith, three x) in
      (t.0, t.1, rw (e, drop-append-add (f x) (flat_map f xs) (3 * i)) t.2)

  -- one more part was read; the words from 3 * i on are as the checker reads `&s[3 * i..]`
  pub threes_more :
      (s : List ℕ) (i : ℕ) (x : A) → P x → take 3 (take (length s - 3 * i) (drop (3 * i) s)) ≡ f x →
      (xs : List A) × (flat_map f xs ≡ take (3 * i) s) × AllByRecursion P xs →
      (xs : List A) × (flat_map f xs ≡ take (3 * (i + 1)) s) × AllByRecursion P xs
  threes_more s i x px e t =
      let d = sym (ap (take 3) (take_rest s (3 * i))) ∙ e in
      let k : 3 * (i + 1) ≡ 3 * i + 3 = omega arith in
      let j : flat_map f (t.0 ++ x ∷ []) ≡ flat_map f t.0 ++ f x = sym (flat_map_more f [] t.0 x) in
      (t.0 ++ x ∷ [], j ∙ ap₂ (λ u v. u ++ v) t.1 (sym d) ∙ sym (ap (λ n. take n s) k ∙ take-add (3 * i) 3 s), All-push P t.0 x t.2 px)

  -- there is no part at i
  pub threes_stop :
      (s : List ℕ) (i : ℕ) → i < length s / 3 → ((x : A) → P x → take 3 (take (length s - 3 * i) (drop (3 * i) s)) ≡ f x → ⊥) →
      (xs : List A) → flat_map f xs ≡ s → AllByRecursion P xs → ⊥
  threes_stop s i h no_part xs e a =
      let l : i < length xs = omega (arith, length_threes xs, ap length e) in
      let t = threes_at xs i l a in
      no_part t.0 t.1 (ap (take 3) (take_rest s (3 * i)) ∙ ap (λ u. take 3 (drop (3 * i) u)) (sym e) ∙ t.2)

  -- all were read
  pub threes_all :
      (s : List ℕ) (i : ℕ) → i ≡ length s / 3 → length s % 3 ≡ 0 → (xs : List A) × (flat_map f xs ≡ take (3 * i) s) × AllByRecursion P xs →
      (xs : List A) × (flat_map f xs ≡ s) × AllByRecursion P xs
  threes_all s i h m t = (t.0, t.1 ∙ take_all (3 * i) s (omega arith), t.2)

  -- words are left over
  pub threes_rest : (s : List ℕ) → (length s % 3 ≡ 0 → ⊥) → (xs : List A) → flat_map f xs ≡ s → ⊥
  threes_rest s h xs e = h (omega (arith, length_threes xs, ap length e))

  -- the words tell the parts
  pub threes_one :
      ((x y : A) → f x ≡ f y → x ≡ y) → (xs ys : List A) (s t : List ℕ) → length xs ≡ length ys →
      flat_map f xs ++ s ≡ flat_map f ys ++ t → (xs ≡ ys) × (s ≡ t)
  threes_one one [] [] s t h e = (refl, e)
  threes_one one [] (y ∷ ys) s t h e = absurd (omega arith)
  threes_one one (x ∷ xs) [] s t h e = absurd (omega arith)
  threes_one one (x ∷ xs) (y ∷ ys) s t h e =
      let d : f x ++ (flat_map f xs ++ s) ≡ f y ++ (flat_map f ys ++ t) = sym (append_assoc (f x) (flat_map f xs) s) ∙ e ∙ append_assoc (f y) (flat_map f ys) t in
      let p = append_split 3 (f x) (f y) (flat_map f xs ++ s) (flat_map f ys ++ t) (three x) (three y) d in
      let q = threes_one one xs ys s t (omega arith) p.1 in
      (ap₂ (λ u v. u ∷ v) (one x y p.0) q.0, q.1)
