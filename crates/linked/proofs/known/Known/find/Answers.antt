use Rattle.std.proofs.Common.{sym, ◌∙◌, arith}
use Rattle.linked.proofs.Leading.{root-up}
use Rattle.linked.proofs.Clearness.{root_itself}
use Rattle.linked.proofs.known.Known.find.Goals as goal

pub loop-at-preserved : goal.loop-at-preserved
loop-at-preserved c =
    let k = c.args.self.now in
    let at = c.loop-at.at in
    (omega (arith, k.falls at c.loop-at.invariant.0, c.loop-at.invariant.0), root-up k.stands k.falls at c.loop-at.invariant.0 ∙ c.loop-at.invariant.1)

pub returns-clause-stands : goal.returns-clause-stands
returns-clause-stands c = sym (root_itself c.args.self.now.stands c.loop-at.at c.loop-at-test.false) ∙ c.loop-at.invariant.1
