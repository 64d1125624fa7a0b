-- Knowledge of names, as lists: names with the one that stands for them, and for each name those that are known other.
use Rattle.std.specs.Prelude.{◌≡◌, ℕ, zero, suc, ◌<◌, ◌≤◌, true, ◌⊎◌, ◌↔◌, List, length, ◌≢◌, slice_index, slice_index_or}
use Rattle.claims.specs.Memory.{Names, at}
use Rattle.linked.specs.Bits.{has}
use Rattle.linked.specs.declared.bits.NameSet.{NameSet}

-- no entry is above its own name, so that every way up ends
abbrev pub Falls : List ℕ → Type 0
Falls s = (x : ℕ) → x < 64 → slice_index s x ≤ x

-- k steps up from x
unfoldable pub up : ℕ → List ℕ → ℕ → ℕ
up zero s x = x
up (suc k) s x = up k s (slice_index s x)

-- the name that stands for x (its representative)
unfoldable pub root : List ℕ → ℕ → ℕ
root s x = up 64 s x

-- names that are known same stand for the same
abbrev pub SameAs : List ℕ → Names → Type 0
SameAs s n = (x : ℕ) → x < 64 → at n x ≡ at n (slice_index s x)

-- no name is known other
abbrev pub none : NameSet
none = record { low = 0; high = 0 }

-- y is among those known other than x
abbrev pub Marked : List NameSet → ℕ → ℕ → Type 0
Marked o x y = has (slice_index_or o x none) y ≡ true

-- names that are known other do not stand for the same
abbrev pub Apart : List NameSet → Names → Type 0
Apart o n = (x y : ℕ) → x < 64 → y < 64 → Marked o x y → at n x ≢ at n y

-- what is marked other is marked of those that stand for the two: it can't be that it isn't
abbrev pub Closed : List ℕ → List NameSet → Type 0
Closed s o = (x y : ℕ) → x < 64 → y < 64 → Marked o x y → (Marked o (root s x) (root s y) → ⊥) → ⊥

-- and no class is marked other than itself
abbrev pub Clear : List ℕ → List NameSet → Type 0
Clear s o = (x y : ℕ) → x < 64 → y < 64 → Marked o x y → root s x ≢ root s y

-- the same two facts as nothing that breaks them: x and y are marked other, and those that stand for them are not, or are one
pub record Loose (s : List ℕ) (o : List NameSet) (x y : ℕ) : Type 0 where
  pub x_small : x < 64
  pub y_small : y < 64
  pub marked : Marked o x y
  pub unmarked : Marked o (root s x) (root s y) → ⊥

pub record Mixed (s : List ℕ) (o : List NameSet) (x y : ℕ) : Type 0 where
  pub x_small : x < 64
  pub y_small : y < 64
  pub marked : Marked o x y
  pub one : root s x ≡ root s y

-- where the marks come from when b's othernesses are carried over to a
pub data Came (o : List NameSet) (a b : ℕ) : ℕ → ℕ → Type 0 where
  old : {x y : ℕ} → Marked o x y → Came o a b x y
  by_column : {x : ℕ} → Marked o x b → Came o a b x a
  by_row : {y : ℕ} → Marked o b y → Came o a b a y
  by_both : Marked o b b → Came o a b a a

-- in the first k rows, what is other than b is marked other than a
pub record Columned (o : List NameSet) (a b k : ℕ) (p : List NameSet) : Type 0 where
  pub full : length p ≡ 64
  pub kept : (x y : ℕ) → x < 64 → Marked o x y → Marked p x y
  pub column : (x : ℕ) → x < k → Marked o x b → Marked p x a
  pub only : (n : Names) → at n a ≡ at n b → Apart o n → Apart p n
  pub came : (x y : ℕ) → Marked p x y → Marked o x y ⊎ ((y ≡ a) × Marked o x b)
  pub later : (x : ℕ) → k ≤ x → x < 64 → slice_index_or p x none ≡ slice_index_or o x none

-- b's othernesses are carried over to a
pub record Carried (o : List NameSet) (a b : ℕ) (p : List NameSet) : Type 0 where
  pub full : length p ≡ 64
  -- nothing is forgotten
  pub kept : (x y : ℕ) → x < 64 → Marked o x y → Marked p x y
  -- what is other than b is other than a
  pub row : (y : ℕ) → Marked o b y → Marked p a y
  pub column : (x : ℕ) → x < 64 → Marked o x b → Marked p x a
  -- and nothing else is new
  pub only : (n : Names) → at n a ≡ at n b → Apart o n → Apart p n
  pub came : (x y : ℕ) → Marked p x y → Came o a b x y

-- a and b are other besides
pub record Added (o : List NameSet) (a b : ℕ) (p : List NameSet) : Type 0 where
  pub full : length p ≡ 64
  pub kept : (x y : ℕ) → Marked o x y → Marked p x y
  pub new : Marked p a b
  pub came : (x y : ℕ) → Marked p x y → Marked o x y ⊎ ((x ≡ a) × (y ≡ b))
  pub only : (n : Names) → Apart p n ↔ (Apart o n × (at n a ≢ at n b))
