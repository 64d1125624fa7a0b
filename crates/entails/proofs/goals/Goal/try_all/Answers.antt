use Rattle.std.proofs.Common.{arith}
use Rattle.entails.proofs.Trying.{all_tried, atoms_count}
use Rattle.entails.proofs.goals.Goal.try_all.Goals as goal

pub returns : goal.returns
returns c =
    all_tried c.args.self.now c.args.known.now c.places-names.result c.places-names.ensures c.in_ok-try_one.ensures.tried
    (λ i l. c.loop-row.invariant i (omega (arith, atoms_count c.args.self.now)))
