use Rattle.std.proofs.Common.{rules}
use Rattle.std.proofs.iter.runs.Made.{chains}
use Rattle.memory.proofs.Judgement.{PositionFalse, false_found}
use Rattle.memory.proofs.deals.first_false.Goals as goal

pub returns : goal.returns
returns c =
    let found : PositionFalse c.args.names.now c.args.pures.now c.position.result = search (rules, chains) in
    false_found c.args.names.now c.args.pures.now c.position.result found
