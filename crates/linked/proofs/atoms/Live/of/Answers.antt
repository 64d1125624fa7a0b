use Rattle.std.proofs.Common.{map, take, sym, refl, ap, ◌∙◌, subst, subst₂, arith}
use lib.ListN.{length-map}
use Rattle.std.proofs.lemmas.List.{map_more, map_push, get_or-map, take_all}
use Rattle.std.proofs.ByRecursion.{All-get_or}
use Rattle.claims.specs.Claims.{row}
use Rattle.claims.specs.Meaning.{atom_of}
use Rattle.claims.specs.Words.{AtomBelow}
use Rattle.linked.specs.Living.{Lives}
use Rattle.linked.proofs.AtomLists.{lives_push, lives_skip}
use Rattle.linked.proofs.atoms.Live.of.Goals as goal

pub settled-settled-requires : goal.settled-settled-requires
settled-settled-requires c =
    subst (AtomBelow 64) (get_or-map atom_of c.args.atoms.now c.loop-atom.atom-index _ (row 0 0) c.loop-atom-test.true)
    (All-get_or (AtomBelow 64) (map atom_of c.args.atoms.now) c.loop-atom.atom-index (row 0 0) (omega (arith, length-map c.args.atoms.now atom_of)) c.requires.small)

pub loop-atom-preserved : goal.loop-atom-preserved
loop-atom-preserved c = (
  omega (arith, c.with-live.ensures.count),
  subst₂ (Lives c.args.known.now)
      (sym (map_more atom_of c.args.atoms.now c.loop-atom.atom-index _ c.loop-atom-test.true))
      (sym (ap (map atom_of) c.with-live.ensures.more ∙ map_push atom_of (take c.loop-atom.live.count c.loop-atom.live.atoms) c.settled-settled.result))
      (lives_push c.args.known.now _ _ _ _ c.loop-atom.invariant.1 c.settled-settled.ensures),
)

pub loop-atom-preserved-then-is_empty : goal.loop-atom-preserved-then-is_empty
loop-atom-preserved-then-is_empty c = (
  omega arith,
  subst (λ u. Lives c.args.known.now u (map atom_of (take c.loop-atom.live.count c.loop-atom.live.atoms)))
      (sym (map_more atom_of c.args.atoms.now c.loop-atom.atom-index _ c.loop-atom-test.true))
      (lives_skip c.args.known.now _ _ _ _ c.loop-atom.invariant.1 c.settled-settled.ensures (c.if-is_empty.ensures refl)),
)

pub returns : goal.returns
returns c =
    record {
      lives = subst (λ u. Lives c.args.known.now (map atom_of u) (map atom_of (take c.loop-atom.live.count c.loop-atom.live.atoms))) (take_all c.loop-atom.atom-index c.args.atoms.now c.loop-atom-test.false) c.loop-atom.invariant.1;
      no_more = omega (arith, c.loop-atom.invariant.0);
    }
