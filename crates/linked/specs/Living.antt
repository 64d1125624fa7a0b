-- The atoms of a claim that are not known to be empty, by the names that stand for their ends.
use Rattle.std.specs.Prelude.{◌<◌, ◌↔◌, List, map, take}
use Rattle.claims.specs.Claims.{Atom}
use Rattle.memory.specs.Owners.{start, end}
use Rattle.claims.specs.Memory.{Names, Memory, AtomHolds, Dealt}
use Rattle.claims.specs.Meaning.{atom_of}
use Rattle.linked.specs.declared.atoms.Live.{Live}
use Rattle.linked.specs.Knowing.{Agrees}
use Rattle.linked.specs.declared.known.Known.{Known}

-- for names that agree with what is known, the atom b says what a says
pub record Settled (k : Known) (a b : Atom) : Type 0 where
  pub start_small : start b < 64
  pub end_small : end b < 64
  pub alike : (n : Names) → Agrees k n → (m : Memory) → AtomHolds n a m ↔ AtomHolds n b m

-- for names that agree with what is known, the atoms ls say of a memory what the atoms cs say
abbrev pub Lives : Known → List Atom → List Atom → Type 0
Lives k cs ls = (n : Names) → Agrees k n → (m : Memory) → Dealt n cs m ↔ Dealt n ls m

-- the atoms of a list of code atoms
abbrev pub atoms_of : Live → List Atom
atoms_of l = map atom_of (take l.count l.atoms)
