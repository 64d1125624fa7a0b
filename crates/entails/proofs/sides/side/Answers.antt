use Rattle.std.proofs.Common.{Some, sym, subst₂}
use Rattle.claims.specs.Meaning.{pure_of}
use Rattle.claims.specs.declared.parts.Pure.{Pure}
use Rattle.linked.specs.Propagating.{AssumedOne}
use Rattle.linked.specs.declared.known.Known.{Known}
use Rattle.entails.proofs.sides.side.Goals as goal
use Rattle.entails.proofs.sides.side.Goals.{in-Same+in_ok-more-in-Same, in-Other+in_ok-more-in-Other}

pub returns-clause-side : goal.returns-clause-side
returns-clause-side c =
    let P : Pure → Known → Type 0 = λ p j. AssumedOne (pure_of p) c.args.known.now (Some j) in
    record {
      assumed = Some c.match-pure.more;
      is_assumed =
          elim c.match-pure.branch [
            | in-Same+in_ok-more-in-Same w ↦ subst₂ P (sym w.in-Same.is) (sym w.more-is) w.in_ok-more-in-Same.ensures.joined
            | in-Other+in_ok-more-in-Other w ↦ subst₂ P (sym w.in-Other.is) (sym w.more-is) w.in_ok-more-in-Other.ensures.parted
          ];
      then-drawn = c.draw.ensures.propagated;
    }
