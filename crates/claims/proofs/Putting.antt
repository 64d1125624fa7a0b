-- Parts that are read one after the other and put into an array, as by `decode`.
--
-- f gives the three words of a part, P says which parts are meant, and g what an element of the array stands for.
-- `put_more` and `put_all` are a turn and the end of the loop; `count_put` says how many parts were put.
use Rattle.std.proofs.Common.{◌≡◌, ℕ, ◌+◌, ◌-◌, ◌*◌, ◌/◌, ◌%◌, ◌<◌, List, [], ◌∷◌, ◌++◌, map, length, take, drop, set, sym, ap, ◌∙◌, ap₂, arith, length-set, take-add}
use Rattle.std.specs.List.{flat_map, AllByRecursion}
use Rattle.std.proofs.lemmas.List.{take_more_set, map_push, take_rest, take_all, flat_map_more}
use Rattle.std.proofs.ByRecursion.{All-push}

-- so many elements stand for the first i parts of the words s, and the array has room for k
pub record Put {A X : Type 0} (f : A → List ℕ) (P : A → Type 0) (g : X → A) (k : ℕ) (s : List ℕ) (i : ℕ) (xs : List X) : Type 0 where
  pub room : length xs ≡ k
  pub words : flat_map f (map g (take i xs)) ≡ take (3 * i) s
  pub meant : AllByRecursion P (map g (take i xs))

module _ {A X : Type 0} (f : A → List ℕ) (P : A → Type 0) (g : X → A) (k : ℕ) (s : List ℕ) (i : ℕ) (xs : List X) where
  -- the words from 3 * i on are as the checker reads `&s[3 * i..]`
  pub put_more :
      (x : X) → i < length xs → P (g x) → take 3 (take (length s - 3 * i) (drop (3 * i) s)) ≡ f (g x) → Put f P g k s i xs →
      Put f P g k s (i + 1) (set xs i x)
  put_more x h px e p =
      let before = map g (take i xs) in
      let same : map g (take (i + 1) (set xs i x)) ≡ before ++ g x ∷ [] =
      ap (map g) (take_more_set xs i x h) ∙ map_push g (take i xs) x in
      let next : take 3 (drop (3 * i) s) ≡ f (g x) = sym (ap (take 3) (take_rest s (3 * i))) ∙ e in
      let front : flat_map f (before ++ g x ∷ []) ≡ flat_map f before ++ f (g x) = sym (flat_map_more f [] before (g x)) in
      let far : 3 * (i + 1) ≡ 3 * i + 3 = omega arith in
      let whole : take (3 * (i + 1)) s ≡ take (3 * i) s ++ take 3 (drop (3 * i) s) = ap (λ n. take n s) far ∙ take-add (3 * i) 3 s in
      record {
        room = length-set xs i x ∙ p.room;
        words = ap (flat_map f) same ∙ front ∙ ap₂ (λ u v. u ++ v) p.words (sym next) ∙ sym whole;
        meant = rw same (All-push P before (g x) p.meant px);
      }

  pub put_all :
      i ≡ length s / 3 → length s % 3 ≡ 0 → Put f P g k s i xs →
      (length xs ≡ k) × (flat_map f (map g (take (length s / 3) xs)) ≡ s) × AllByRecursion P (map g (take (length s / 3) xs))
  put_all h m p = (p.room, rw (← h) (p.words ∙ take_all (3 * i) s (omega arith)), rw (← h) p.meant)

-- so many parts were put
pub count_put :
    {A X : Type 0} (f : A → List ℕ) (P : A → Type 0) (g : X → A) (s : List ℕ) (n : ℕ) (xs : List X) → length s ≡ 3 * n →
    flat_map f (map g (take (length s / 3) xs)) ≡ s → AllByRecursion P (map g (take (length s / 3) xs)) →
    (flat_map f (map g (take n xs)) ≡ s) × AllByRecursion P (map g (take n xs))
count_put f P g s n xs h e a =
    let same : length s / 3 ≡ n = omega arith in
    (rw same at e, rw same at a)
