use Rattle.std.proofs.Common.{◌≡◌, Ok, Err, Result, IfOk, sym, subst}
use Rattle.std.specs.Result.{MatchResult, IsErrAnd}
use Rattle.std.proofs.lemmas.Result.{IfOk-weaker}
use Rattle.claims.specs.Meaning.{question_of}
use Rattle.claims.specs.Words.{Limits}
use Rattle.notation.specs.Reading.{Asks}
use Rattle.memory_notation.proofs.cases.claim.Goals as goal

-- what is so of a value is so of it where only the error is told otherwise
kept :
    {T D E : Type 0} (Q : E → D → Type 0) (P : T → Type 0) (s : Result T E) (r : Result T D) →
    MatchResult s (λ x. r ≡ Ok x) (λ e. IsErrAnd r (Q e)) → IfOk s P → IfOk r P
kept Q P (Ok x) r is p = subst (λ u. IfOk u P) (sym is) p
kept Q P (Err e) (Ok x) is p = absurd is
kept Q P (Err e) (Err d) is p = tt

pub returns-clause-limits : goal.returns-clause-limits
returns-clause-limits c =
    kept _ (λ a. Limits (question_of a.question)) c.numbered.result c.map_err.result c.map_err.ensures.cases
    (IfOk-weaker c.numbered.result (Asks _) (λ a. Limits (question_of a.question)) (λ a asks. asks.accepted.limits) c.numbered.ensures)
