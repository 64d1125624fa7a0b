-- Two theorems on memory: a claim is precise, and rows join.
use Rattle.std.specs.Prelude.{◌≡◌, ℕ, false, T, ◌⊎◌}
use Rattle.claims.specs.Claims.{Claim}
use Rattle.claims.specs.Memory.{Names, Memory, here, sound, Parts, IsRow, Says}

-- A claim says which part of a memory it is: two parts of one memory of which it holds are equal, and so is what is left.
abbrev pub Precise : Type 0
Precise =
    (n : Names) (c : Claim) (m a b e f : Memory) → T (sound m) → Parts a e m → Parts b f m → Says n a c → Says n b c →
    (a ≡ b) × (e ≡ f)

-- A row from p to q and one from q to r are together a row from p to r, if r is not a place of the first.
abbrev pub RowsJoin : Type 0
RowsJoin =
    (p q r : ℕ) (m a b : Memory) → T (sound m) → Parts a b m → IsRow p q a → IsRow q r b → (r ≡ 0) ⊎ (here r a ≡ false) →
    IsRow p r m
