-- Does a claim hold of names and a memory, and if not, why not.
use Rattle.std.specs.Prelude.{◌≡◌, ℕ, ◌<◌, List, [], ◌∷◌, map, length, take, Some, None, Ok, Err, Option, Result, ◌≢◌, slice_index, slice_index_or}
use Rattle.std.specs.List.{AllByRecursion}
use Rattle.claims.specs.Claims as claims
use Rattle.claims.specs.Memory.{Names, Cell, Memory, Parts, Dealt, PureHolds, Says}
use Rattle.claims.specs.Meaning.{pure_of, atom_of}
use Rattle.claims.specs.declared.parts.Pure.{Pure as Pure-value}
use Rattle.claims.specs.declared.parts.Atom.{Atom as Atom-value}
use Rattle.memory.specs.Walks.{AtomStuck}
use Rattle.memory.specs.declared.deals.Why.{Why}
use Rattle.memory.specs.declared.deals.Why.TheVariants.{Pure, Stuck, LeftOver}

-- the claim with these parts
abbrev pub claim_from : List Pure-value → List Atom-value → claims.Claim
claim_from ps xs = record { pures = map pure_of ps; atoms = map atom_of xs }

-- the same or other number i is false, and those before it are true
pub record FirstFalse (n : Names) (fs : List claims.Pure) (i : ℕ) : Type 0 where
  pub within : i < length fs
  pub before : AllByRecursion (PureHolds n) (take i fs)
  pub fails : (d : claims.Pure) → PureHolds n (slice_index_or fs i d) → ⊥

-- the first i atoms are dealt out to a part of m, and leave a rest that the atom number i can't be taken out of
pub record AtomsStuck (n : Names) (m : Memory) (xs : List claims.Atom) (i b : ℕ) : Type 0 where
  pub within : i < length xs
  pub used : Memory
  pub rest : Memory
  pub parts : Parts used rest m
  pub dealt : Dealt n (take i xs) used
  pub stuck : (d : claims.Atom) → AtomStuck n (slice_index_or xs i d) rest b

-- all atoms are dealt out to a part of m, and the cell number j of m is left
pub record AtomsLeave (n : Names) (m : Memory) (xs : List claims.Atom) (j : ℕ) : Type 0 where
  pub within : j < length m
  pub used : Memory
  pub rest : Memory
  pub others : Memory
  pub parts : Parts used rest m
  pub dealt : Dealt n xs used
  pub there : (d : Cell ℕ) → Parts (slice_index_or m j d ∷ []) others rest

-- what each answer says of the question
abbrev pub WhyTrue : Names → Memory → claims.Claim → Why → Type 0
WhyTrue n m c (Pure i) = FirstFalse n c.pures i
WhyTrue n m c (Stuck i p) = AllByRecursion (PureHolds n) c.pures × AtomsStuck n m c.atoms i p.0
WhyTrue n m c (LeftOver j) = AllByRecursion (PureHolds n) c.pures × AtomsLeave n m c.atoms j

-- the claim doesn't hold, and that is why
pub record FailsFor (n : Names) (m : Memory) (c : claims.Claim) (why : Why) : Type 0 where
  pub fails : Says n m c → ⊥
  pub why_true : WhyTrue n m c why

-- the claim holds; or it doesn't, and that is why
abbrev pub Judged : Names → Memory → claims.Claim → Result Unit Why → Type 0
Judged n m c (Ok _) = Says n m c
Judged n m c (Err why) = FailsFor n m c why

-- the first that is false, or all are true
abbrev pub FalseFound : Names → List claims.Pure → Option ℕ → Type 0
FalseFound n fs (Some i) = FirstFalse n fs i
FalseFound n fs None = AllByRecursion (PureHolds n) fs

-- the first i atoms are dealt out to a part of m, and leave e
pub record Deals (n : Names) (m : Memory) (xs : List claims.Atom) (i : ℕ) (e : Memory) : Type 0 where
  pub used : Memory
  pub parts : Parts used e m
  pub dealt : Dealt n (take i xs) used

-- all atoms are dealt out to a part of m, and leave e; or it got stuck
abbrev pub DealtOut : Names → Memory → List claims.Atom → Memory → Result Unit Why → Type 0
DealtOut n m xs e (Ok _) = Deals n m xs (length xs) e
DealtOut n m xs e (Err (Stuck i p)) = AtomsStuck n m xs i p.0
DealtOut n m xs e (Err (Pure _)) = ⊥
DealtOut n m xs e (Err (LeftOver _)) = ⊥

-- the first mark that is 0, or there is none
abbrev pub Unmarked : List ℕ → Option ℕ → Type 0
Unmarked w (Some j) = (j < length w) × (slice_index w j ≡ 0)
Unmarked w None = (k : ℕ) → k < length w → slice_index w k ≢ 0
