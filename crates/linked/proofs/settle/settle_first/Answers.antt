use Rattle.std.proofs.Common.{Some, List, map, sym, refl, subst}
use Rattle.std.specs.List.{AllByRecursion}
use Rattle.claims.specs.Words.{AtomBelow}
use Rattle.claims.specs.Meaning.{atom_of, question_of}
use Rattle.claims.specs.declared.parts.Atom.{Atom}
use Rattle.linked.specs.Generics.{Fork, HoldsGeneric}
use Rattle.linked.proofs.Below.{atoms_weaker}
use Rattle.claims.specs.Claims.{Claim}
use Rattle.linked.specs.Propagating.{Learnt, Meets, LearntKnown}
use Rattle.linked.specs.declared.known.Known.{Known}
use Rattle.linked.proofs.settle.settle_first.Goals as goal

learnt_known : (c : Claim) (k : Known) → Learnt c.pures c.atoms (Some k) → Meets k c.pures → LearntKnown c.pures c.atoms k
learnt_known c k forth back = record { forth = forth; back = back }

pub is_forkless-requires : goal.is_forkless-requires
is_forkless-requires c =
    subst (λ u. AllByRecursion (AtomBelow 64) (map atom_of u)) (sym c.as_slice.ensures.value)
    (atoms_weaker c.args.question.now.names c.requires.few_names _ c.requires.first_fits.atoms_below)

pub returns-then-is_forkless : goal.returns-then-is_forkless
returns-then-is_forkless c =
    let learnt = learnt_known (question_of c.args.question.now).first c.in-Some.known c.in-Some.ensures.learnt c.in-Some.ensures.met in
    let f = c.requires.first_fits in
    let P : List Atom → Type 0 = λ u. HoldsGeneric c.in-Some.known (map atom_of u) in
    let generic = subst P c.as_slice.ensures.value (c.if-is_forkless.ensures.generic refl) in
    (learnt, generic c.args.question.now.names _ c.requires.few_names f.pures_below f.atoms_below learnt.back)

pub returns : goal.returns
returns c =
    let P : List Atom → Type 0 = λ u. Fork c.in-Some.known (map atom_of u) in
    (learnt_known (question_of c.args.question.now).first c.in-Some.known c.in-Some.ensures.learnt c.in-Some.ensures.met, subst P c.as_slice.ensures.value c.if-is_forkless.ensures.exact)
