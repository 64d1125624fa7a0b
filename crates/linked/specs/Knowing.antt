-- Knowledge of names, and what its changes promise.
use Rattle.std.specs.Prelude.{◌≡◌, ℕ, zero, suc, ◌+◌, ◌/◌, ◌%◌, ◌<◌, ◌≤◌, Bool, true, cond, not, ◌&&◌, ◌||◌, ◌↔◌, Some, None, Option, ◌==◌, ◌≢◌, slice_index_or}
use Rattle.claims.specs.Memory.{Names, at}
use Rattle.linked.specs.Bits.{has}
use Rattle.linked.specs.Stands.{root, SameAs, Apart, none}
use Rattle.linked.specs.declared.known.Known.{Known}

-- what names stand for agrees with what is known
pub record Agrees (k : Known) (n : Names) : Type 0 where
  pub same : SameAs k.stands n
  pub other : Apart k.others n

-- x and y are known to be the same
abbrev pub known_same : Known → ℕ → ℕ → Bool
known_same k x y = root k.stands x == root k.stands y

-- x and y are known to be other
abbrev pub known_other : Known → ℕ → ℕ → Bool
known_other k x y =
    has (slice_index_or k.others (root k.stands x) none) (root k.stands y)
    || has (slice_index_or k.others (root k.stands y) none) (root k.stands x)

-- with x and y the same: exactly the names that agreed and have them the same; or there are none
abbrev pub Joined : Known → ℕ → ℕ → Option Known → Type 0
Joined k x y (Some j) = (n : Names) → Agrees j n ↔ (Agrees k n × (at n x ≡ at n y))
Joined k x y None = (n : Names) → Agrees k n → at n x ≢ at n y

-- with x and y other: exactly the names that agreed and have them other; or there are none
abbrev pub Parted : Known → ℕ → ℕ → Option Known → Type 0
Parted k x y (Some j) = (n : Names) → Agrees j n ↔ (Agrees k n × (at n x ≢ at n y))
Parted k x y None = (n : Names) → Agrees k n → (at n x ≢ at n y) → ⊥

-- nothing is known of whether x and y are the same
abbrev pub undecided : Known → ℕ → ℕ → Bool
undecided k x y = not (known_same k x y) && not (known_other k x y)

-- of how many of the first i pairs of names that is so: pair number i is of the names i / 64 and i % 64
abbrev pub undecided_of : Known → ℕ → ℕ
undecided_of k zero = 0
undecided_of k (suc i) = cond (undecided k (i / 64) (i % 64)) 1 0 + undecided_of k i

-- how many pairs are undecided
unfoldable pub open_pairs : Known → ℕ
open_pairs k = undecided_of k 4096

-- what is undecided in j was undecided in k
abbrev pub Closer : Known → Known → Type 0
Closer k j = (x y : ℕ) → x < 64 → y < 64 → undecided j x y ≡ true → undecided k x y ≡ true

-- fewer pairs are undecided, if x and y were
abbrev pub Fewer : Known → ℕ → ℕ → Option Known → Type 0
Fewer k x y (Some j) = undecided k x y ≡ true → open_pairs j < open_pairs k
Fewer k x y None = Unit {0}

-- no more pairs are undecided than before
abbrev pub NoMore : Known → Option Known → Type 0
NoMore k (Some j) = open_pairs j ≤ open_pairs k
NoMore k None = Unit {0}
