use Rattle.std.proofs.Common.{length, ap, ◌∙◌}
use Rattle.memory.specs.Marks.{memory_of, unmarked}
use Rattle.memory.proofs.Marking.{all_unmarked}
use Rattle.memory.proofs.dealings.Dealing.begin.Goals as goal

pub returns-clause-all : goal.returns-clause-all
returns-clause-all c =
    let m = memory_of c.args.memory.words.now in
    ap (λ w. unmarked w m) (c.fill.ensures.after (λ y e. e)) ∙ all_unmarked (length c.args.marks.now) m
