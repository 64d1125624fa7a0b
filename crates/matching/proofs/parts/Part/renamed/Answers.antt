use Rattle.std.proofs.Common.{arith}
use Rattle.linked.specs.Living.{atoms_of}
use Rattle.matching.proofs.Parting.{lives_append}
use Rattle.matching.proofs.parts.Part.renamed.Goals as goal

pub returns : goal.returns
returns c =
    let p = c.args.self.now in
    record {
      own = c.renamed-own.ensures.lives;
      wanted = c.renamed-wanted.ensures.lives;
      whole =
          lives_append c.args.known.now (atoms_of p.own) (atoms_of p.others) (atoms_of c.renamed-own.result) (atoms_of c.renamed-others.result)
          c.renamed-own.ensures.lives c.renamed-others.ensures.lives;
      no_more = omega (arith, c.renamed-own.ensures.no_more, c.renamed-wanted.ensures.no_more);
    }
