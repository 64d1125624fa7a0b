-- Where nothing forks, there is a memory: each class of names at the number of the one that stands for it, and one cell
-- for each atom that isn't known to be empty.
use Rattle.std.specs.Prelude.{◌≡◌, ℕ, ◌<◌, true, T, List, map, length, ◌≢◌, slice_index_or}
use Rattle.std.specs.List.{range_with_len}
use Rattle.claims.specs.Claims.{Atom, row}
use Rattle.claims.specs.Memory.{Names, at, Memory, sound, Dealt}
use Rattle.memory.specs.Owners.{start}
use Rattle.models.specs.Generic.{generic}
use Rattle.linked.specs.Stands.{root}
use Rattle.linked.specs.Knowing.{Agrees, known_same}
use Rattle.linked.specs.declared.known.Known.{Known}

-- each name at the number of the one that stands for it
abbrev pub numbers : Known → Names
numbers k = map (root k.stands) (range_with_len 0 64)

-- the atoms hold of the generic memory with these names, which agree with what is known and are the same only where that is known
pub record HasGeneric (k : Known) (cs : List Atom) : Type 0 where
  pub agrees : Agrees k (numbers k)
  pub only_known : (x y : ℕ) → x < 64 → y < 64 → at (numbers k) x ≡ at (numbers k) y → known_same k x y ≡ true
  pub sound_m : T (sound (generic (numbers k) cs))
  pub dealt : Dealt (numbers k) cs (generic (numbers k) cs)

-- the name that stands for where the atom number i begins
abbrev pub begin_of : Known → List Atom → ℕ → ℕ
begin_of k cs i = root k.stands (start (slice_index_or cs i (row 0 0)))

-- the first k atoms begin somewhere, and nowhere where a later one begins
abbrev pub ApartSoFar : Known → List Atom → ℕ → Type 0
ApartSoFar k cs e =
    (i : ℕ) → i < e → (begin_of k cs i ≢ 0) × ((j : ℕ) → i < j → j < length cs → begin_of k cs j ≢ begin_of k cs i)

-- a memory for the atoms, with names that agree with what is known and are the same only where that is known
pub record SettledMemory (k : Known) (cs : List Atom) : Type 0 where
  pub memory : Memory
  pub sound_m : T (sound memory)
  pub dealt : Dealt (numbers k) cs memory
  pub agrees : Agrees k (numbers k)
  pub only_known : (x y : ℕ) → x < 64 → y < 64 → at (numbers k) x ≡ at (numbers k) y → known_same k x y ≡ true
