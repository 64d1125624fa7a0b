use Rattle.std.proofs.Common.{map, arith}
use Rattle.claims.specs.Meaning.{atom_of}
use Rattle.linked.specs.Living.{atoms_of}
use Rattle.linked.proofs.Learning.{learns_more}
use Rattle.linked.proofs.propagate.propagate.Goals as goal

pub again-preserved : goal.again-preserved
again-preserved c = (
  learns_more (map atom_of c.args.atoms.now) (atoms_of c.of-live.result) c.args.known c.again.known
      c.again.invariant.0 c.of-live.ensures.lives c.in_ok-known.known c.in_ok-known.ensures.propagated,
  omega (arith, c.again.invariant.1, c.in_ok-known.ensures.no_more),
)
