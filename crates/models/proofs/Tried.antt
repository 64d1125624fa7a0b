-- What holds of all trials follows, for all names of the pattern.
use Rattle.std.proofs.Common.{T, ⊎_elim}
use Rattle.std.specs.List.{AllByRecursion}
use Rattle.claims.specs.Memory.{sound, PureHolds}
use Rattle.models.specs.Generic.{generic, plain}
use Rattle.models.specs.Follows.{Tried}
use Rattle.models.specs.Matching.{Matches}
use Rattle.models.proofs.Like.{at_below}
use Rattle.models.proofs.Matched.{generic_says, matched, can_have_or_stretches, Unmatched, unmatched}

-- The second claim holds of the generic memory. If one of its atoms could not have a part that it should, then a
-- stretched memory would be against it; but it holds of that too.
pub tried : Tried
tried k g c d some_names g-below c-fits d-fits trials n m like s says =
    let (whole-sound, c-says) = generic_says k g c some_names c-fits n m like s says in
    let d-says = trials (generic g c.atoms) plain whole-sound c-says in
    matched k g c d some_names c-fits d-fits d-says (matches whole-sound c-says.pures) n m like s says
  where
    -- no trial is against it
    none_against : AllByRecursion (PureHolds g) c.pures → Unmatched k g c.atoms d.atoms → ⊥
    none_against pures u = u.not (trials u.m u.trial u.sound_m (record { pures = pures; atoms = u.says })).atoms

    matches : T (sound (generic g c.atoms)) → AllByRecursion (PureHolds g) c.pures → Matches g c d
    matches whole-sound pures x y a others placed put full h =
        let either = can_have_or_stretches k g c.atoms (at_below k g some_names g-below) x y in
        ⊎_elim (λ can. can) (λ stretch. absurd (none_against pures (unmatched whole-sound placed put full h stretch))) either
