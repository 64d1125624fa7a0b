use Rattle.std.proofs.Common.{◌∙◌, ⊎_elim, arith}
use Rattle.claims.specs.Meaning.{question_of}
use Rattle.answers.proofs.Answered.{does_follow, refuting, shown, never_full, never_none, never_few, no_memory}
use Rattle.answers.proofs.asking.ask.Goals as goal

pub returns-in-Follows : goal.returns-in-Follows
returns-in-Follows c =
    does_follow (question_of c.args.question.now) c.requires _ _ _ _ _ (c.as_slice.ensures.value ∙ c.in_ok-words.ensures) c.decide.ensures c.in-Follows.is

pub returns-in_err-instance-in-Fails : goal.returns-in_err-instance-in-Fails
returns-in_err-instance-in-Fails c = no_memory _ _ c.from_residual-in_err-instance-in-Fails.ensures.0

pub returns-in-Fails : goal.returns-in-Fails
returns-in-Fails c =
    let q = question_of c.args.question.now in
    refuting q _ c.decide.new.out c.in-Fails.cells c.from-names.result c.in_ok-instance-in-Fails.instance
    (shown q c.requires _ _ _ _ _ (c.as_slice.ensures.value ∙ c.in_ok-words.ensures) c.decide.ensures c.in-Fails.cells c.in-Fails.is)
    c.from-names.ensures
    c.in_ok-instance-in-Fails.ensures.names
    c.in_ok-instance-in-Fails.ensures.memory

pub unreachable-requires : goal.unreachable-requires
unreachable-requires c =
    let q = question_of c.args.question.now in
    let is = c.as_slice.ensures.value ∙ c.in_ok-words.ensures in
    let lent = c.args.lent.now.enough in
    ⊎_elim
    (never_none q c.requires _ _ _ _ _ is c.decide.ensures)
    (⊎_elim
    (never_few q c.requires _ _ _ _ _ is c.decide.ensures (omega (arith, lent, c.as_mut_slice.ensures.len)))
    (never_full q c.requires _ _ _ _ _ is c.decide.ensures (omega arith)))
    c.in-NoClaims.is
