use Rattle.std.proofs.Common.{map, take, Some, sym, ◌∙◌, subst, arith}
use lib.ListN.{length-map}
use Rattle.std.proofs.lemmas.List.{map_more, get_or-map, take-map, take_all}
use Rattle.std.proofs.ByRecursion.{All-get_or}
use Rattle.claims.specs.Claims.{same}
use Rattle.claims.specs.Words.{PureBelow}
use Rattle.claims.specs.Meaning.{pure_of}
use Rattle.linked.specs.Propagating.{Assumed}
use Rattle.linked.proofs.Learning.{assumed_more, assumed_never}
use Rattle.linked.proofs.assume.assume.Goals as goal

pub assume_one-requires : goal.assume_one-requires
assume_one-requires c =
    subst (PureBelow 64) (get_or-map pure_of c.args.pures.now c.loop-pure.pure-index _ (same 0 0) c.loop-pure-test.true)
    (All-get_or (PureBelow 64) (map pure_of c.args.pures.now) c.loop-pure.pure-index (same 0 0) (omega (arith, length-map c.args.pures.now pure_of)) c.requires)

pub returns-in_err-known : goal.returns-in_err-known
returns-in_err-known c =
    subst (Assumed (map pure_of c.args.pures.now) c.args.known) (sym c.from_residual.ensures)
    (assumed_never c.args.known c.loop-pure.known (map pure_of (take c.loop-pure.pure-index c.args.pures.now)) _ c.loop-pure.invariant
    (map pure_of c.args.pures.now) c.loop-pure.pure-index (c.in_err-known.ensures)
    (take-map pure_of _ c.args.pures.now ∙ map_more pure_of c.args.pures.now c.loop-pure.pure-index _ c.loop-pure-test.true))

pub loop-pure-preserved : goal.loop-pure-preserved
loop-pure-preserved c =
    subst (λ u. Assumed u c.args.known (Some c.in_ok-known.known))
    (sym (map_more pure_of c.args.pures.now c.loop-pure.pure-index _ c.loop-pure-test.true))
    (assumed_more c.args.known c.loop-pure.known (map pure_of (take c.loop-pure.pure-index c.args.pures.now)) _ c.loop-pure.invariant c.in_ok-known.known c.in_ok-known.ensures)

pub returns : goal.returns
returns c =
    subst (λ u. Assumed (map pure_of u) c.args.known (Some c.loop-pure.known))
    (take_all c.loop-pure.pure-index c.args.pures.now c.loop-pure-test.false) c.loop-pure.invariant
