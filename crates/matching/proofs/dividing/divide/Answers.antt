use Rattle.std.proofs.Common.{◌≡◌, ◌+◌, ◌<◌, ◌≤◌, false, List, map, get_or, length, sym, ap, ◌∙◌, subst, subst₂, arith}
use lib.ListN.{length-map}
use Rattle.std.proofs.lemmas.List.{get_or-map, take_all}
use Rattle.claims.specs.Claims.{Atom}
use Rattle.claims.specs.Memory.{Parts}
use Rattle.memory.specs.Marks.{unmarked}
use Rattle.linked.specs.Living.{atoms_of}
use Rattle.linked.specs.Spare.{spare}
use Rattle.linked.proofs.Reach.{live-length, slice_at}
use Rattle.matching.specs.Using.{mark}
use Rattle.matching.proofs.Lists.{DividedTo, divided_none, divided_free, divided_marked}
use Rattle.matching.proofs.dividing.divide.Goals as goal
use Rattle.matching.proofs.dividing.divide.Goals.{then-has, else-has}

pub loop-j-init : goal.loop-j-init
loop-j-init c =
    divided_none c.args.list.now (map mark c.args.marks.now.marks) c.new-free.result c.new-marked.result c.new-free.ensures c.new-marked.ensures

pub loop-j-preserved : goal.loop-j-preserved
loop-j-preserved c =
    let l = c.args.list.now in
    let marks = c.args.marks.now in
    let w = map mark marks.marks in
    let j = c.loop-j.j in
    let before = c.loop-j.invariant in
    let xs = c.as_slice-atom-items in
    let h : j < length xs.result.now = c.loop-j-test.true in
    let within : j < l.count = omega (arith, h, xs.ensures.count) in
    let atom = get_or xs.result.now j spare in
    let is = slice_at l xs.result.now xs.ensures.value j spare h in
    let in_marks : j < length marks.marks = omega (arith, within, l.few, marks.all) in
    let room : 64 ≤ length w = omega (arith, length-map marks.marks mark, marks.all) in
    let mark_is : get_or w j 0 ≡ mark c.has.result = get_or-map mark marks.marks j false 0 in_marks ∙ ap mark (sym c.has.ensures) in
    elim c.if-has.branch [
      | then-has b ↦
          subst₂ (λ f m. DividedTo l w f m (j + 1)) (sym b.free-is) (sym b.marked-is)
          (divided_marked l w c.loop-j.free c.loop-j.marked b.with-marked.result j atom within room is
          before b.with-marked.ensures.more b.with-marked.ensures.count (λ e. absurd (omega (arith, e, mark_is ∙ ap mark b.if-has.true))))
      | else-has b ↦
          subst₂ (λ f m. DividedTo l w f m (j + 1)) (sym b.free-is) (sym b.marked-is)
          (divided_free l w c.loop-j.free c.loop-j.marked b.with-free.result j atom within room is
          before b.with-free.ensures.more b.with-free.ensures.count (mark_is ∙ ap mark b.if-has.false))
    ]

pub returns : goal.returns
returns c =
    let l = c.args.list.now in
    let xs = c.as_slice-atom-items in
    let end = c.loop-j-test.false in
    let all = take_all c.loop-j.j (atoms_of l) (omega (arith, live-length l, xs.ensures.count, end)) in
    record {
      parts = subst (λ (u : List Atom). Parts (atoms_of c.loop-j.free) (atoms_of c.loop-j.marked) u) all c.loop-j.invariant.1;
      free = c.loop-j.invariant.2 ∙ ap (unmarked (map mark c.args.marks.now.marks)) all;
      count = omega (arith, c.loop-j.invariant.0, xs.ensures.count, end, c.loop-j.auto.j-end);
    }
