use Rattle.std.proofs.Common.{map, ap, ◌∙◌}
use Rattle.claims.specs.Meaning.{atom_of}
use Rattle.entails.specs.Telling.{tried}
use Rattle.entails.proofs.Against.{told_trial}
use Rattle.entails.proofs.goals.Goal.told.Goals as goal

pub returns : goal.returns
returns c =
    let r = c.args.trial.now in
    told_trial c.args.self.now r c.write.result c.write.ensures.names
    (c.write.ensures.cells ∙ ap (λ u. tried r.names (map atom_of u) r.stretch) c.atoms.ensures) c.requires
