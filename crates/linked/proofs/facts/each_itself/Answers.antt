use Rattle.std.proofs.Common.{rules}
use Rattle.linked.proofs.facts.each_itself.Goals as goal

pub returns-clause-itself : goal.returns-clause-itself
returns-clause-itself c x h = let (p, q, called) = c.from_fn.ensures.items.at x 0 h in search rules
