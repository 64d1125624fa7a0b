-- When the place of a name is never one of an atom's cells.
--
-- cell_outside: the atom is a cell whose start is another place; row_outside: it is a row, and its end would be there too.
use Rattle.std.proofs.Common.{◌≡◌, ℕ, ◌<◌, true, false, List, get_or, sym, ◌∙◌, subst}
use Rattle.std.proofs.lemmas.Bool.{both_ways}
use Rattle.claims.specs.Claims.{Atom, cell, row}
use Rattle.claims.specs.Memory.{at, here, AtomHolds}
use Rattle.memory.proofs.Rows.{row_end}
use Rattle.memory.proofs.Atoms.{cell_only}
use Rattle.memory.proofs.Dealt.{owns_part}
use Rattle.linked.specs.Bits.{bit}
use Rattle.linked.specs.Knowing.{known_other}
use Rattle.linked.specs.Reaching.{Reached, Barred}
use Rattle.linked.specs.declared.known.Known.{Known}
use Rattle.linked.proofs.Knowledge.{other_known}
use Rattle.matching.specs.Using.{OtherThan}

module _ (k : Known) (ls : List Atom) (e t : ℕ) where
  -- one that would stand for the place of t is known to be other than u
  pub other_reached :
      (set x u : ℕ) → Reached ls e t set → x < 64 → u < 64 → bit set x ≡ true → known_other k x u ≡ true → OtherThan k ls e t u
  other_reached set x u reached hx hu b o n m s g owns same =
      other_known k x u hx hu n g o (reached n m s owns x b ∙ sym same)

  pub cell_outside : (u z : ℕ) → get_or ls e (row 0 0) ≡ cell u z → OtherThan k ls e t u → Barred k ls e t
  cell_outside u z is other n m s g owns =
      let (_, out) = owns_part owns (row 0 0) in
      let holds = subst (λ a. AtomHolds n a out.part) is out.is.0 in
      other n m s g owns (cell_only n u z (at n t) out.part holds out.is.1)

  pub row_outside :
      (set u w : ℕ) → Reached ls e t set → get_or ls e (row 0 0) ≡ row u w → bit set w ≡ true → Barred k ls e t
  row_outside set u w reached is b n m s g owns =
      let (_, out) = owns_part owns (row 0 0) in
      let holds = subst (λ a. AtomHolds n a out.part) is out.is.0 in
      both_ways (here (at n t) out.part) (subst (λ p. here p out.part ≡ false) (reached n m s owns w b) (row_end holds)) out.is.1
