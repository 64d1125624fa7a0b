use Rattle.std.proofs.Common.{ℕ, Some, Option, Ok, Err, Result, sym, subst, subst₂}
use Rattle.std.specs.Result.{result_ok}
use Rattle.memory.specs.Taking.{Put}
use Rattle.claims.specs.Claims.{Atom as ClaimAtom, row}
use Rattle.claims.specs.Meaning.{atom_of}
use Rattle.claims.specs.declared.parts.Atom.{Atom}
use Rattle.matching.specs.Rules.{made_cell, made_row}
use Rattle.matching.specs.Using.{left_of, RowUsed, AtomUsed}
use Rattle.matching.specs.declared.rests.Rest.{Rest}
use Rattle.matching.specs.declared.rests.DeadEnd.{DeadEnd}
use Rattle.matching.proofs.Consuming.{taken_out}
use Rattle.matching.proofs.rests.Rest.without_atom.Goals as goal

pub returns-in_ok-find_cell-in-Cell : goal.returns-in_ok-find_cell-in-Cell
returns-in_ok-find_cell-in-Cell c =
    let r = c.args.self.now in
    let q = c.without.result in
    let found = c.in_ok-find_cell-in-Cell.ensures in
    let out = taken_out r q c.in_ok-find_cell-in-Cell.field-0 found.within found.there c.without.ensures.of c.without.ensures.used in
    let P : Atom → Type 0 = λ a. AtomUsed r (atom_of a) (Some q) in
    subst P (sym c.in-Cell.is) (c.without.ensures.of, made_cell (subst (λ (a : ClaimAtom). Put a (left_of q) (left_of r)) found.is out))

-- a row that is made is used
row_used : (r : Rest) (s t : ℕ) (o : Result Rest DeadEnd) → RowUsed r s t o → AtomUsed r (row s t) (result_ok o)
row_used r s t (Ok q) (of, made) = (of, made_row made)
row_used r s t (Err _) made = tt

pub returns-in-Row : goal.returns-in-Row
returns-in-Row c =
    let r = c.args.self.now in
    let made = row_used r c.in-Row.x.0 c.in-Row.y.0 c.without_row.result c.without_row.ensures in
    let P : Atom → Option Rest → Type 0 = λ a o. AtomUsed r (atom_of a) o in
    subst₂ P (sym c.in-Row.is) (sym c.ok.ensures.value) made
