-- What reading one part of a claim promises, whatever kind of part it is.
--
-- g says what a part of the code stands for, f what the words of that are, and P which parts are meant.
use Rattle.std.specs.Prelude.{◌≡◌, ℕ, ◌<◌, List, [], ◌∷◌, take, Some, None, Option, ◌≢◌}
use Rattle.claims.specs.declared.names.Name.{Name}

-- the words s begin with a part, which it is; or with none
abbrev pub PartRead : {A X : Type 0} → (X → A) → (A → List ℕ) → (A → Type 0) → List ℕ → Option X → Type 0
PartRead g f P s (Some p) = (take 3 s ≡ f (g p)) × P (g p)
PartRead {A} g f P s None = (p : A) → P p → take 3 s ≢ f p

-- the words s begin with a kind and two names below n; or with none
abbrev pub KindRead : List ℕ → ℕ → Option (ℕ × Name × Name) → Type 0
KindRead s n (Some (k, x, y)) = (take 3 s ≡ k ∷ x.0 ∷ y.0 ∷ []) × (x.0 < n) × (y.0 < n)
KindRead s n None = (k x y : ℕ) → x < n → y < n → take 3 s ≢ k ∷ x ∷ y ∷ []
