-- Names that are alike below k mean the same to what speaks only of names below k.
--
-- pure_alike, atom_alike and dealt_alike; says_alike: a claim over k names holds of both or of neither.
use Rattle.std.proofs.Common.{◌≡◌, ℕ, ◌<◌, List, [], ◌∷◌, sym, ◌∙◌}
use Rattle.std.specs.List.{AllByRecursion}
use Rattle.claims.specs.Claims.{Pure, same, other, Atom, cell, row, Claim}
use Rattle.claims.specs.Words.{PureBelow, AtomBelow, Fits}
use Rattle.claims.specs.Memory.{Names, at, Memory, PureHolds, AtomHolds, Dealt, no_more, one_more, Says}

-- the names below k stand for the same
abbrev pub Alike : ℕ → Names → Names → Type 0
Alike k n n' = (x : ℕ) → x < k → at n x ≡ at n' x

pub alike_sym : (k : ℕ) (n n' : Names) → Alike k n n' → Alike k n' n
alike_sym k n n' alike x l = sym (alike x l)

module _ (k : ℕ) (n n' : Names) (alike : Alike k n n') where
  pub pure_alike : (f : Pure) → PureBelow k f → PureHolds n f → PureHolds n' f
  pure_alike (same x y) b h = sym (alike x b.0) ∙ (h ∙ alike y b.1)
  pure_alike (other x y) b h = λ e. h (alike x b.0 ∙ (e ∙ sym (alike y b.1)))

  pub pures_alike : (fs : List Pure) → AllByRecursion (PureBelow k) fs → AllByRecursion (PureHolds n) fs → AllByRecursion (PureHolds n') fs
  pures_alike [] b h = tt
  pures_alike (f ∷ fs) b h = (pure_alike f b.0 h.0, pures_alike fs b.1 h.1)

  pub atom_alike : (x : Atom) (m : Memory) → AtomBelow k x → AtomHolds n x m → AtomHolds n' x m
  atom_alike (cell x y) m b h = rw (← alike x b.0, ← alike y b.1) h
  atom_alike (row x y) m b h = rw (← alike x b.0, ← alike y b.1) h

  pub dealt_alike : {cs : List Atom} {m : Memory} → AllByRecursion (AtomBelow k) cs → Dealt n cs m → Dealt n' cs m
  dealt_alike b no_more = no_more
  dealt_alike b (one_more {a = x} {part = part} t h d) = one_more t (atom_alike x part b.0 h) (dealt_alike b.1 d)

  pub says_alike : {c : Claim} {m : Memory} → Fits k c → Says n m c → Says n' m c
  says_alike {c} fits h =
      record { pures = pures_alike c.pures fits.pures_below h.pures; atoms = dealt_alike fits.atoms_below h.atoms }
