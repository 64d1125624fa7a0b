use Rattle.claims.specs.Meaning.{atom_of}
use Rattle.claims.specs.Memory.{Memory}
use Rattle.memory.specs.Judging.{DealtOut}
use Rattle.memory.proofs.Judgement.{room_is, rest_is, fails_pure, deal_fails, fails_left, says_so}
use Rattle.memory.specs.Dealings.{rest}
use Rattle.std.proofs.Common.{◌≡◌, rules, map, Err, ◌∙◌, subst}
use Rattle.memory.proofs.deals.holds.Goals as goal

pub returns-in-Some : goal.returns-in-Some
returns-in-Some c =
    fails_pure c.args.names.now c.args.memory.words.now c.args.pures.now c.args.atoms.now c.args.memory.sound c.in-Some.i c.in-Some.ensures

pub returns-in_err-deal : goal.returns-in_err-deal
returns-in_err-deal c =
    let P = λ (m : Memory). DealtOut c.args.names.now m (map atom_of c.args.atoms.now) (rest c.deal.new.self) (Err c.in_err-deal.field-0.0) in
    let dealt = subst P c.begin-dealing.ensures.all c.in_err-deal.ensures.dealt in
    let passed : c.from_residual.result ≡ Err c.in_err-deal.field-0.0 = search rules in
    rw passed
    (deal_fails c.args.names.now c.args.memory.words.now c.args.pures.now c.args.atoms.now c.args.memory.sound c.in_default.ensures (rest c.deal.new.self) c.in_err-deal.field-0.0 dealt)

pub returns-in-Some-left_over : goal.returns-in-Some-left_over
returns-in-Some-left_over c =
    let d = c.deal.new.self in
    let same = c.deal.ensures.memory ∙ c.begin-dealing.ensures.memory in
    let dealt = rw (c.begin-dealing.ensures.all, rest_is c.args.memory d same) at c.in_ok-deal.ensures.dealt in
    let (within, unmarked) = c.in-Some-left_over.ensures in
    fails_left c.args.names.now c.args.memory.words.now c.args.pures.now c.args.atoms.now c.args.memory.sound c.in_default.ensures d.marks.now (room_is c.args.memory d same) dealt c.in-Some-left_over.j within unmarked

pub returns : goal.returns
returns c =
    let d = c.deal.new.self in
    let same = c.deal.ensures.memory ∙ c.begin-dealing.ensures.memory in
    let dealt = rw (c.begin-dealing.ensures.all, rest_is c.args.memory d same) at c.in_ok-deal.ensures.dealt in
    says_so c.args.names.now c.args.memory.words.now c.args.pures.now c.args.atoms.now c.args.memory.sound c.in_default.ensures d.marks.now (room_is c.args.memory d same) dealt c.in_default-left_over.ensures
