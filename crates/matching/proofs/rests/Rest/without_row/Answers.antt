use Rattle.std.proofs.Common.{sym, ap, ◌∙◌}
use Rattle.claims.specs.Claims.{row}
use Rattle.memory.specs.Owners.{end}
use Rattle.matching.specs.Rules.{arrived}
use Rattle.matching.proofs.Consuming.{left_trans, goes_over, fewer_left}
use Rattle.matching.proofs.rests.Rest.without_row.Goals as goal

pub loop-at-smaller : goal.loop-at-smaller
loop-at-smaller c =
    fewer_left c.args.self.now c.loop-at.rest c.without-rest.result c.loop-at.at c.args.t c.in-Over.e c.in-Over.ensures c.loop-at.invariant.0
    c.without-rest.ensures.of c.without-rest.ensures.used

pub loop-at-preserved : goal.loop-at-preserved
loop-at-preserved c =
    let p = c.args.self.now in
    let r = c.loop-at.rest in
    let q = c.without-rest.result in
    let (back, before) = c.loop-at.invariant in
    let at_end = ap end (c.get.ensures.is (row 0 0)) ∙ sym c.end-at.ensures in (
      left_trans p r q back c.without-rest.ensures.of,
      λ os more.
          before os
          (goes_over p r q c.loop-at.at c.args.t c.in-Over.e c.in-Over.ensures back c.without-rest.ensures.of c.without-rest.ensures.used
          c.end-at.result.0 at_end os more),
    )

pub returns : goal.returns
returns c = (c.loop-at.invariant.0, c.loop-at.invariant.1 _ (arrived c.loop-at-test.false))
