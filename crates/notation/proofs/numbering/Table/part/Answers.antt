use Rattle.std.proofs.Common.{◌∙◌}
use Rattle.notation.proofs.Numbered.{in-order-append, in-order-as}
use Rattle.notation.proofs.numbering.Table.part.Goals as goal

pub returns : goal.returns
returns g c = record {
  same = c.number-2.ensures.same ∙ c.number.ensures.same;
  order = in-order-as c.numbered.ensures (in-order-append c.in_ok-x.ensures.order c.in_ok-y.ensures.order);
}
