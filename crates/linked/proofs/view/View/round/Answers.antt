use Rattle.std.proofs.Common.{◌≡◌, ◌≤◌, Some, Ok, Err, Result, sym, ap, ◌∙◌, subst, arith}
use Rattle.std.specs.Result.{result_ok}
use Rattle.linked.specs.Knowing.{open_pairs}
use Rattle.linked.specs.Living.{atoms_of}
use Rattle.linked.specs.Propagating.{Learns}
use Rattle.linked.specs.Reaching.{FoundOut}
use Rattle.linked.specs.declared.known.Known.{Known}
use Rattle.linked.proofs.Learning.{learns_same}
use Rattle.linked.proofs.view.View.round.Goals as goal
use Rattle.linked.proofs.view.View.round.Goals.{in-Some+in_ok-more, in_default}

ok_of : {A E : Type 0} (r : Result A E) (a : A) → result_ok r ≡ Some a → r ≡ Ok a
ok_of (Ok b) a e = cc
ok_of (Err n) a e = cc

pub loop-e-preserved : goal.loop-e-preserved
loop-e-preserved c =
    let v = c.args.self.now in
    let P : Known → Type 0 = λ u. Learns (atoms_of v.live.now) v.known.now u × (open_pairs u ≤ open_pairs v.known.now) in
    elim c.match-branch-2.branch [
      | in-Some+in_ok-more w ↦
          let pair : c.in_ok-x.field-0 ≡ Some (w.in-Some.x, w.in-Some.y) = cc in
          let is = ok_of c.look.result (Some (w.in-Some.x, w.in-Some.y)) (sym c.ok.ensures.value ∙ c.in_ok-x.was ∙ ap Some pair) in
          let fact = subst (FoundOut v.known.now (atoms_of v.live.now)) is c.look.ensures in
          subst P (sym w.more-is) (
            learns_same (atoms_of v.live.now) v.known.now c.loop-e.more w.in-Some.x w.in-Some.y
                c.loop-e.invariant.0 fact.2 w.in_ok-more.more w.in_ok-more.ensures.joined,
            omega (arith, c.loop-e.invariant.1, w.in_ok-more.ensures.no_more),
          )
      | in_default w ↦ subst P (sym w.more-is) c.loop-e.invariant
    ]
