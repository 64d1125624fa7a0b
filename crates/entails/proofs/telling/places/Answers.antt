use Rattle.std.proofs.Common.{◌<◌, ◌≢◌, length, arith, length-set, get_or-set_other, get_or-set_same, below_more, ◌∙◌}
use Rattle.entails.proofs.Writing.{all_stand}
use Rattle.entails.proofs.telling.places.Goals as goal

pub loop-x-preserved : goal.loop-x-preserved
loop-x-preserved c =
    let before = c.loop-x.invariant in (
      length-set _ _ _ ∙ before.0,
      below_more _ _
          (λ k h. let ne : k ≢ c.loop-x.x = omega arith in rw get_or-set_other (before.1 k h))
          (let lt : c.loop-x.x < length c.loop-x.places = omega (arith, before.0) in rw get_or-set_same (c.place_of.ensures.root, c.place_of.ensures.below)),
    )

pub returns : goal.returns
returns c =
    all_stand c.args.names c.args.known.now c.loop-x.places c.requires.few c.loop-x.invariant.0
    (λ y h. c.loop-x.invariant.1 y (omega arith))
