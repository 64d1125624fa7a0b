use Rattle.std.proofs.Common.{rules}
use Rattle.std.proofs.iter.runs.Made.{chains}
use Rattle.notation.proofs.Spelled.{SpanFound, spelling_found}
use Rattle.notation.proofs.numbering.find.Goals as goal

pub returns : goal.returns
returns c =
    let found : SpanFound c.args.text.now c.args.names.now c.args.spelled.now c.position.result = search (rules, chains) in
    record {
      within = search rules;
      found = spelling_found _ _ _ c.position.result found;
    }
