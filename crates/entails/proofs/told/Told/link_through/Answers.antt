use Rattle.std.proofs.Common.{◌≡◌, ◌++◌, sym, ◌∙◌, subst, arith}
use Rattle.claims.specs.Meaning.{atom_of}
use Rattle.claims.specs.declared.parts.Atom.{Atom}
use Rattle.models.specs.Generic.{linked_through}
use Rattle.entails.specs.Telling.{told_memory}
use Rattle.entails.proofs.Writing.{through_written}
use Rattle.entails.proofs.told.Told.link_through.Goals as goal

pub returns-then-from-to : goal.returns-then-from-to
returns-then-from-to c =
    let s = c.args.self.now in
    let last = told_memory c.push-then-from-to.new.self in
    let P : Atom → Type 0 = λ a. last ≡ told_memory s ++ linked_through s.names (atom_of a) c.args.through in
    record {
      names = c.push-then-from-to.ensures.names ∙ c.push.ensures.names;
      cells =
          subst P (sym c.in-Row.is)
          (through_written s.names c.in-Row.x.0 c.in-Row.y.0 c.args.through c.at-from.result.0 c.at-to.result.0 (told_memory s) (told_memory c.push.new.self) last
          c.at-from.ensures c.at-to.ensures c.if-from-to.true c.push.ensures.cell c.push-then-from-to.ensures.cell);
      count = omega (arith, c.push.ensures.count, c.push-then-from-to.ensures.count);
    }
