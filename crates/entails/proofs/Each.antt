-- What holds of each part that elements stand for.
--
-- at_each: so it holds of the one at an index; each_more: one more; all_each: so it holds of all, where it holds at each index.
use Rattle.std.proofs.Common.{ℕ, suc, ◌+◌, ◌<◌, List, [], ◌∷◌, map, length, get_or, take, sym, subst, arith}
use lib.ListN.{length-map}
use Rattle.std.specs.List.{AllByRecursion}
use Rattle.std.proofs.lemmas.List.{get_or-map, map_more}
use Rattle.std.proofs.ByRecursion.{All-get_or, All-push}

module _ {X A : Type 0} (P : A → Type 0) (f : X → A) where
  pub at_each : (xs : List X) (i : ℕ) (d : X) → i < length xs → AllByRecursion P (map f xs) → P (f (get_or xs i d))
  at_each xs i d h all =
      subst P (get_or-map f xs i d (f d) h) (All-get_or P (map f xs) i (f d) (omega (arith, length-map xs f)) all)

  pub each_more :
      (xs : List X) (i : ℕ) (d : X) → i < length xs → AllByRecursion P (map f (take i xs)) → P (f (get_or xs i d)) →
      AllByRecursion P (map f (take (i + 1) xs))
  each_more xs i d h all one = subst (AllByRecursion P) (sym (map_more f xs i d h)) (All-push P (map f (take i xs)) (f (get_or xs i d)) all one)

  pub all_each : (xs : List X) → ((i : ℕ) (d : X) → i < length xs → P (f (get_or xs i d))) → AllByRecursion P (map f xs)
  all_each [] h = tt
  all_each (x ∷ xs) h = (h 0 x (omega arith), all_each xs (λ i d l. h (suc i) d (omega arith)))
