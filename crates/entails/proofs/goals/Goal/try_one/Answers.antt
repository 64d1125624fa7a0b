use Rattle.std.proofs.Common.{map, take, ap, ◌∙◌, subst₂}
use Rattle.claims.specs.Meaning.{atom_of}
use Rattle.models.specs.Follows.{Against}
use Rattle.entails.specs.Telling.{told_memory, first_of, second_of, tried, NotAgainst}
use Rattle.entails.proofs.Against.{front_against}
use Rattle.entails.proofs.goals.Goal.try_one.Goals as goal

pub returns-then-is_against-clause-tried : goal.returns-then-is_against-clause-tried
returns-then-is_against-clause-tried c =
    let g = c.args.self.now in
    let t = c.write-told.result in
    subst₂ (λ n m. Against g.names (first_of g) (second_of g) (take g.names n) m) c.write-told.ensures.names
    (c.write-told.ensures.cells ∙ ap (λ u. tried c.args.trial.names (map atom_of u) c.args.trial.stretch) c.atoms.ensures)
    (front_against g t.names (told_memory t) t.all c.if-is_against.ensures)

pub returns-clause-tried : goal.returns-clause-tried
returns-clause-tried c =
    subst₂ (NotAgainst c.args.self.now) c.write-told.ensures.names
    (c.write-told.ensures.cells ∙ ap (λ u. tried c.args.trial.names (map atom_of u) c.args.trial.stretch) c.atoms.ensures) c.if-is_against.ensures
