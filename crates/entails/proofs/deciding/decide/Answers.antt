use Rattle.std.proofs.Common.{◌≡◌, ℕ, length, refl, arith}
use Rattle.entails.specs.Telling.{question_of}
use Rattle.entails.specs.declared.deciding.Decided.TheVariants.{Follows, NoClaims}
use Rattle.entails.proofs.Settled.{theorems, post, answered}
use Rattle.entails.proofs.deciding.decide.Goals as goal

pub returns-then-work-lt-LENT : goal.returns-then-work-lt-LENT
returns-then-work-lt-LENT c = record { answer = refl; few = ((λ _. refl), (λ _. c.if-work-lt-LENT.true)); theorems = theorems }

pub returns-in_default : goal.returns-in_default
returns-in_default c =
    post c.args.words.now (length c.args.work.now) c.args.out.now c.args.out.now NoClaims c.if-work-lt-LENT.false
    (λ e. let z : ◌≡◌ {A = ℕ} 0 1 = cc in omega arith) (record { none = c.in_default.ensures; unchanged = refl })

pub returns-in-Ok : goal.returns-in-Ok
returns-in-Ok c =
    post c.args.words.now (length c.args.work.now) c.args.out.now c.args.out.now Follows c.if-work-lt-LENT.false
    (λ e. let z : ◌≡◌ {A = ℕ} 0 1 = cc in omega arith)
    (record { question = question_of c.in-Some.goal; reads = c.in-Some.ensures; so = record { follows = c.in-Ok.ensures; unchanged = refl } })

pub returns-in-Err : goal.returns-in-Err
returns-in-Err c =
    answered c.in-Some.goal c.args.words.now (length c.args.work.now) c.args.out.now c.tell.new.out c.tell.result
    c.if-work-lt-LENT.false c.in-Some.ensures c.tell.ensures
