use Rattle.std.proofs.Common.{sym, ◌∙◌}
use Rattle.linked.proofs.Knowledge.{same_known, part_roots, part_made}
use Rattle.linked.proofs.Undecided.{part_fewer}
use Rattle.linked.proofs.known.Known.part.Goals as goal

pub returns-then-a-b : goal.returns-then-a-b
returns-then-a-b c =
    record {
      parted =
          λ n g d.
          d (same_known c.args.self.now c.args.x c.args.y c.requires.x_small c.requires.y_small n g (sym c.find-a.ensures.stands ∙ c.if-a-b.true ∙ c.find-b.ensures.stands));
      fewer = tt;
    }

pub returns : goal.returns
returns c =
    let k = c.args.self.now in
    let j = c.set_apart.result in
    let p = c.set_apart.ensures in
    let a = c.find-a.result in
    let b = c.find-b.result in
    record {
      parted =
          part_roots k c.args.x c.args.y c.requires.x_small c.requires.y_small j a b c.find-a.ensures.stands c.find-b.ensures.stands
          (part_made k j a b p.stands p.added);
      fewer = part_fewer k j c.args.x c.args.y a b c.requires.x_small c.requires.y_small c.find-a.ensures.stands c.find-b.ensures.stands p.stands p.added;
    }
