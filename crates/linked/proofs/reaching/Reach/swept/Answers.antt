use Rattle.std.proofs.Common.{◌<◌, length, sym, ap, ◌∙◌, subst, arith}
use Rattle.claims.specs.Meaning.{atom_of}
use Rattle.memory.specs.Owners.{start, end}
use Rattle.linked.specs.Living.{atoms_of}
use Rattle.linked.proofs.Reach.{live-length, slice_at, reach_more}
use Rattle.linked.proofs.reaching.Reach.swept.Goals as goal

pub loop-j-preserved : goal.loop-j-preserved
loop-j-preserved c =
    let r = c.args.self.now in
    let xs = c.as_slice-atom-items in
    let h : c.loop-j.j < length xs.result.now = c.loop-j-test.true in
    let x = subst (λ a. start (atom_of a) < 64) c.in-Row.is (xs.ensures.starts c.loop-j.j h) in
    let y = subst (λ a. end (atom_of a) < 64) c.in-Row.is (xs.ensures.ends c.loop-j.j h) in (
      reach_more (atoms_of r.live.now) r.without r.from c.loop-j.names.0 c.with-names.result.0 c.loop-j.j c.in-Row.x.0 c.in-Row.y.0
          c.loop-j.invariant.0 c.if-j-self.false (omega (arith, live-length r.live.now, xs.ensures.count))
          (slice_at r.live.now xs.result.now xs.ensures.value c.loop-j.j _ h ∙ ap atom_of c.in-Row.is)
          (sym (c.if-not-has.ensures x)) (c.with-names.ensures.bits y),
      omega (arith, c.with-names.ensures.grows, c.loop-j.invariant.1),
    )
