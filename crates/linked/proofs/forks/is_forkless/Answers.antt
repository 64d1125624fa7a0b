use Rattle.std.proofs.Common.{ℕ, ◌<◌, false, List, map, length, get_or, refl, subst, arith}
use lib.ListN.{length-map}
use borrow.Author.Tests.{both_ways}
use Rattle.std.specs.List.{AllByRecursion}
use Rattle.std.proofs.ByRecursion.{All-get_or}
use Rattle.std.proofs.lemmas.List.{get_or-map}
use Rattle.claims.specs.Claims.{row}
use Rattle.claims.specs.Meaning.{atom_of}
use Rattle.claims.specs.Words.{AtomBelow}
use Rattle.claims.specs.declared.parts.Atom.{Atom}
use Rattle.models.proofs.Like.{start_below}
use Rattle.linked.specs.Spare.{spare}
use Rattle.linked.proofs.Begun.{begun_none, begun_skip, begun_more, begun_all, fork_nowhere, fork_two, code_out, code_empty}
use Rattle.linked.proofs.FirstNumbers.{generic_holds, generic_settled}
use Rattle.linked.proofs.forks.is_forkless.Goals as goal
use Rattle.linked.proofs.forks.is_forkless.Goals.{then-start-eq0-via-then-start-eq0, then-start-eq0-via-else-start-eq0+then-has}

below : (atoms : List Atom) (i : ℕ) → i < length atoms → AllByRecursion (AtomBelow 64) (map atom_of atoms) → AtomBelow 64 (atom_of (get_or atoms i spare))
below atoms i h all =
    subst (AtomBelow 64) (get_or-map atom_of atoms i spare (row 0 0) h)
    (All-get_or (AtomBelow 64) (map atom_of atoms) i (row 0 0) (omega (arith, length-map atoms atom_of)) all)

pub is_live-requires : goal.is_live-requires
is_live-requires c = below c.args.atoms.now c.loop-atom.atom-index c.loop-atom-test.true c.requires

pub loop-atom-init : goal.loop-atom-init
loop-atom-init c = begun_none c.args.known.now (map atom_of c.args.atoms.now) c.new-seen.result c.new-seen.ensures

pub loop-atom-preserved-then-not-is_live : goal.loop-atom-preserved-then-not-is_live
loop-atom-preserved-then-not-is_live c =
    begun_skip c.args.known.now (map atom_of c.args.atoms.now) c.loop-atom.atom-index c.loop-atom.seen c.loop-atom.invariant
    (code_empty c.args.known.now c.args.atoms.now c.loop-atom.atom-index c.loop-atom-test.true c.if-not-is_live.ensures)

pub find-start-requires : goal.find-start-requires
find-start-requires c =
    let b = below c.args.atoms.now c.loop-atom.atom-index c.loop-atom-test.true c.requires in
    omega (arith, c.start.ensures, start_below (atom_of (get_or c.args.atoms.now c.loop-atom.atom-index spare)) b)

-- from here on the atom goes out from the name that was found
pub returns-then-start-eq0 : goal.returns-then-start-eq0
returns-then-start-eq0 c =
    let k = c.args.known.now in
    let cs = map atom_of c.args.atoms.now in
    let e = c.loop-atom.atom-index in
    let out =
    code_out k c.args.atoms.now e c.loop-atom-test.true c.start.result.0 c.find-start.result
    c.if-not-is_live.ensures c.start.ensures c.find-start.ensures.stands in
    record {
      exact = elim c.then-start-eq0.branch [
        | then-start-eq0-via-then-start-eq0 w ↦ fork_nowhere k cs e c.loop-atom.seen c.loop-atom.invariant c.find-start.result out w.if-start-eq0.true
        | then-start-eq0-via-else-start-eq0+then-has w ↦ fork_two k cs e c.loop-atom.seen c.loop-atom.invariant c.find-start.result out w.if-has.ensures
      ];
      settled = λ e. absurd (both_ways false refl e);
      generic = λ e. absurd (both_ways false refl e);
    }

pub loop-atom-preserved : goal.loop-atom-preserved
loop-atom-preserved c =
    let out =
    code_out c.args.known.now c.args.atoms.now c.loop-atom.atom-index c.loop-atom-test.true c.start.result.0 c.find-start.result
    c.if-not-is_live.ensures c.start.ensures c.find-start.ensures.stands in
    begun_more c.args.known.now (map atom_of c.args.atoms.now) c.loop-atom.atom-index c.loop-atom.seen c.loop-atom.invariant c.find-start.result out
    c.if-start-eq0.false c.if-has.ensures c.with-seen.result c.with-seen.ensures

pub returns : goal.returns
returns c =
    let none =
    begun_all c.args.known.now (map atom_of c.args.atoms.now) c.loop-atom.atom-index c.loop-atom.seen c.loop-atom.invariant
    (omega (arith, length-map c.args.atoms.now atom_of, c.loop-atom-test.false)) in
    record {
      exact = none;
      settled = λ e. generic_settled c.args.known.now (map atom_of c.args.atoms.now) c.requires none;
      generic = λ e. generic_holds c.args.known.now (map atom_of c.args.atoms.now) none;
    }
