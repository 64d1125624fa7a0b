use Rattle.std.proofs.Common.{refl}
use Rattle.claims.specs.Decoding.{decoded_question}
use Rattle.claims.proofs.ClaimWords.{one_question}
use Rattle.claims.proofs.ShapesTold.{has_shape}
use Rattle.claims.proofs.layouts.read.Goals as goal

pub returns-in_err-question : goal.returns-in_err-question
returns-in_err-question c = rw c.from_residual.ensures record { answer = c.in_err-question.ensures; one_question = one_question }

pub returns : goal.returns
returns c =
    let q = c.in_ok-question.question in
    record {
      answer = (decoded_question q, c.in_ok-question.ensures, record { names = refl; first = has_shape q.first; second = has_shape q.second });
      one_question = one_question;
    }
