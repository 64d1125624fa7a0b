use Rattle.std.proofs.Common.{◌≤◌, [], ◌++◌, length, get_or, sym, refl, ap, ◌∙◌, subst, arith}
use Rattle.std.proofs.lemmas.List.{append-nil}
use Rattle.claims.specs.Words.{Fits, claim_words}
use Rattle.claims.specs.Decoding.{decoded_claim}
use Rattle.claims.proofs.ClaimWords.{claim_one, length_claim, from, rest_from, claim_whole, question_apart, question_made, second_is}
use Rattle.claims.proofs.decoding.decode_question.Goals as goal

-- the first claim is none
pub returns-in_err-first : goal.returns-in_err-first
returns-in_err-first c = rw c.from_residual.ensures λ q r.
    let p = question_apart c.args.words.now q r in
    c.in_err-first.ensures.decodes q.first (claim_words q.second) p.1 (subst (λ n. Fits n q.first) (sym p.0) r.limits.first_fits)

-- the second claim is none
pub returns-in_err-second : goal.returns-in_err-second
returns-in_err-second c = rw c.from_residual-in_err-second.ensures λ q r.
    let s = c.args.words.now in
    let d1 = c.in_ok-first.first in
    let f = c.in_ok-first.ensures.decodes in
    let k = length_claim (decoded_claim d1) d1.shape.pures d1.shape.atoms f.shape.pures f.shape.atoms in
    let d = rest_from (decoded_claim d1) c.len.result (from 1 s) f.rest f.words (k ∙ sym c.len.ensures) in
    let e = d ∙ second_is s q (decoded_claim d1) f.rest r f.words ∙ sym (append-nil (claim_words q.second)) in
    c.in_err-second.ensures.decodes q.second [] e (subst (λ n. Fits n q.second) (sym (question_apart s q r).0) r.limits.second_fits)

-- words are left over behind the second claim
pub returns-then-rest-len : goal.returns-then-rest-len
returns-then-rest-len c q r =
    let s = c.args.words.now in
    let d1 = c.in_ok-first.first in
    let d2 = c.in_ok-second.second in
    let f = c.in_ok-first.ensures.decodes in
    let g = c.in_ok-second.ensures.decodes in
    let k = length_claim (decoded_claim d1) d1.shape.pures d1.shape.atoms f.shape.pures f.shape.atoms in
    let l = length_claim (decoded_claim d2) d2.shape.pures d2.shape.atoms g.shape.pures g.shape.atoms in
    let d = rest_from (decoded_claim d1) c.len.result (from 1 s) f.rest f.words (k ∙ sym c.len.ensures) in
    let e = d ∙ second_is s q (decoded_claim d1) f.rest r f.words in
    let o = claim_one q.second (decoded_claim d2) [] g.rest (append-nil (claim_words q.second) ∙ sym e ∙ g.words) in
    omega (arith, ap length (e ∙ ap claim_words o.0) ∙ l ∙ sym c.len-2.ensures)

pub returns : goal.returns
returns c =
    let s = c.args.words.now in
    let d1 = c.in_ok-first.first in
    let d2 = c.in_ok-second.second in
    let f = c.in_ok-first.ensures.decodes in
    let g = c.in_ok-second.ensures.decodes in
    let k = length_claim (decoded_claim d1) d1.shape.pures d1.shape.atoms f.shape.pures f.shape.atoms in
    let l = length_claim (decoded_claim d2) d2.shape.pures d2.shape.atoms g.shape.pures g.shape.atoms in
    let d = rest_from (decoded_claim d1) c.len.result (from 1 s) f.rest f.words (k ∙ sym c.len.ensures) in
    let w = claim_whole (decoded_claim d2) (from c.len.result (from 1 s)) g.rest g.words (omega (arith, l, c.len-2.ensures)) in
    let e = f.words ∙ ap (λ u. claim_words (decoded_claim d1) ++ u) (sym d ∙ w) in
    let h : 1 ≤ length s = omega arith in
    record {
      is = question_made s (record { names = get_or s 0 0; first = decoded_claim d1; second = decoded_claim d2 }) h refl e;
      limits = record { some_names = omega arith; few_names = omega arith; first_fits = f.fits; second_fits = g.fits };
    }
