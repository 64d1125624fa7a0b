use Rattle.std.proofs.Common.{◌≡◌, ℕ, ◌≢◌, ◌<◌, Bool, true, false, List, length, take, get_or, rules, refl, map, subst, arith}
use borrow.Author.Tests.{tests, both_ways}
use lib.ListN.{length-map}
use Rattle.std.specs.Bool.{MatchBool}
use Rattle.std.specs.List.{enumerate_from, HoldsAt}
use Rattle.std.proofs.lemmas.Iterator.{YieldsList-from_slice, cases_from_any}
use Rattle.std.proofs.lemmas.Iterator.Consumers.{YieldsList-from_enumerate}
use Rattle.std.proofs.lemmas.List.FromFn.{length-enumerate_from, get_or-enumerate_from}
use Rattle.claims.specs.Meaning.{atom_of}
use Rattle.claims.specs.declared.parts.Atom.{Atom}
use Rattle.memory.specs.Owners.{start}
use Rattle.linked.specs.Living.{atoms_of}
use Rattle.linked.specs.Reaching.{Barred, CellBegins}
use Rattle.linked.specs.Spare.{spare}
use Rattle.linked.specs.declared.known.Known.{Known}
use Rattle.linked.specs.declared.reaching.Reach.{Reach}
use Rattle.linked.proofs.Reach.{slice_at, barred_begins}
use Rattle.linked.proofs.reaching.Reach.has_cell.Goals as goal

when_true : {A : Type 0} (B : Type 0) (b : Bool) → b ≡ true → MatchBool b A B → A
when_true B true e m = m
when_true B false e m = absurd (both_ways false refl e)

-- the atom is another, and a cell that begins at a name that is reached
abbrev Found : Reach → ℕ × Atom → Type 0
Found r p = (p.0 ≢ r.without) × CellBegins r.names.0 (atom_of p.1)

barred_where :
    (r : Reach) (k : Known) (xs : List Atom) → xs ≡ take r.live.now.count r.live.now.atoms →
    ((j : ℕ) → j < length xs → start (atom_of (get_or xs j spare)) < 64) →
    (j : ℕ) × (j < length (enumerate_from 0 xs)) × HoldsAt (Found r) (enumerate_from 0 xs) j → Barred k (atoms_of r.live.now) r.without r.from
barred_where r k xs same small (j, l, h) =
    let within : j < length xs = omega (arith, l, length-enumerate_from 0 xs) in
    let is = subst (Found r) (get_or-enumerate_from 0 xs j (0, spare) within) (h (0, spare)) in
    let at = slice_at r.live.now xs same j spare within in
    let few : j < length (atoms_of r.live.now) = subst (λ u. j < length (map atom_of u)) same (omega (arith, within, length-map xs atom_of)) in
    barred_begins k (atoms_of r.live.now) r.without r.from r.names.0 r.reached j (atom_of (get_or xs j spare)) (λ e. is.0 (omega (arith, e))) few at (small j within) is.1

pub returns : goal.returns
returns c t k =
    let xs = c.as_slice-atoms in
    barred_where c.args.self.now k xs.result.now xs.ensures.value xs.ensures.starts
    (when_true _ c.any.result t
    (cases_from_any _ _ c.any.result (Found c.args.self.now) (λ p. Unit {0}) c.any.ensures.ran
    (YieldsList-from_enumerate (YieldsList-from_slice xs.result.now (cc)) (cc)) (λ x q k. search (rules, tests)) (λ x q k. search (rules, tests))))
