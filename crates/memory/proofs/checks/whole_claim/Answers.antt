use Rattle.std.proofs.Common.{sym, ◌∙◌, arith}
use Rattle.memory.proofs.Asking.{no_whole_claim, claim_and_more, claim_alone}
use Rattle.memory.proofs.checks.whole_claim.Goals as goal

pub returns-in_err-decoded : goal.returns-in_err-decoded
returns-in_err-decoded c =
    let x = c.in_ok-count.count.now in
    let u = c.in_ok-count.claim.now in
    let are = c.in_ok-count.ensures.cases.0 in
    rw c.from_residual-in_err-decoded.ensures (no_whole_claim c.args.words.now x u are c.in_err-decoded.ensures.decodes)

pub returns-then-claim-len : goal.returns-then-claim-len
returns-then-claim-len c =
    let x = c.in_ok-count.count.now in
    let u = c.in_ok-count.claim.now in
    let are = c.in_ok-count.ensures.cases.0 in
    claim_and_more c.args.words.now x u are c.in_ok-decoded.decoded c.in_ok-decoded.ensures.decodes (λ e. c.if-claim-len.true (e ∙ sym c.len.ensures))

pub returns : goal.returns
returns c =
    let x = c.in_ok-count.count.now in
    let u = c.in_ok-count.claim.now in
    let are = c.in_ok-count.ensures.cases.0 in
    claim_alone c.args.words.now x u are c.in_ok-decoded.decoded c.in_ok-decoded.ensures.decodes (omega arith) (omega arith) (c.if-claim-len.false ∙ c.len.ensures)
