use Rattle.std.proofs.Common.{rules}
use Rattle.naive.proofs.Rest.{rest_of_less}
use Rattle.naive.proofs.cells.Cells.take_back.Goals as goal

pub invariant_of-self : goal.invariant_of-self
invariant_of-self c = search (rules, rest_of_less)
