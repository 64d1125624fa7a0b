use Rattle.std.proofs.Common.{◌≡◌, true, sym, ◌∙◌, rules, tests}
use borrow.Author.Tests.{both_ways}
use Rattle.linked.specs.Bits.{bit}
use Rattle.linked.specs.Living.{atoms_of}
use Rattle.linked.proofs.Reach.{barred_other}
use Rattle.linked.proofs.reaching.Reach.are_other.Goals as goal
use Rattle.linked.proofs.reaching.Reach.are_other.Goals.{then-has, else-has}

pub returns-then-has-2 : goal.returns-then-has-2
returns-then-has-2 c t =
    let r = c.args.self.now in
    let first : c.has.result ≡ true = search (rules, tests) in
    let second : bit r.names.0 c.args.y ≡ true =
    elim c.if-has.branch [
      | then-has w ↦ sym (w.has-then-has.ensures c.requires.y_small) ∙ sym w.value-is ∙ c.if-has-2.true
      | else-has w ↦ absurd (both_ways c.if-has.value (w.value-is ∙ w.if-has.false) c.if-has-2.true)
    ] in
    barred_other c.args.known.now (atoms_of r.live.now) r.without r.from r.names.0 r.reached c.args.x c.args.y
    c.requires.x_small c.requires.y_small (sym (c.has.ensures c.requires.x_small) ∙ first) second
    (sym c.has-then-has-2.ensures ∙ t)
