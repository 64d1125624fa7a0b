use Rattle.std.proofs.Common.{◌≡◌, sym, ◌∙◌, arith}
use borrow.Author.Tests.{both_ways}
use Rattle.linked.proofs.Knowledge.{same_known, other_known, join_roots, join_swapped}
use Rattle.linked.proofs.Undecided.{fewer_pairs, none_more_pairs, decided_same}
use Rattle.linked.specs.Knowing.{undecided}
use Rattle.linked.proofs.known.Known.join.Goals as goal

pub returns-then-other : goal.returns-then-other
returns-then-other c =
    record {
      joined = λ n g e. other_known c.args.self.now c.args.x c.args.y c.requires.x_small c.requires.y_small n g (sym c.if-other.ensures) e;
      fewer = tt;
      no_more = tt;
    }

pub returns-then-a-b : goal.returns-then-a-b
returns-then-a-b c =
    let k = c.args.self.now in
    let j = c.put_below.result in
    let p = c.put_below.ensures in
    record {
      joined =
          join_roots k c.args.x c.args.y c.requires.x_small c.requires.y_small j c.find-a.result c.find-b.result c.find-a.ensures.stands c.find-b.ensures.stands p.joined;
      fewer =
          λ u.
          fewer_pairs k j p.closer c.args.x c.args.y c.requires.x_small c.requires.y_small u
          (decided_same j c.args.x c.args.y (p.still_a c.args.x c.requires.x_small (sym c.find-a.ensures.stands) ∙ sym (p.now_a c.args.y c.requires.y_small (sym c.find-b.ensures.stands))));
      no_more = none_more_pairs k j p.closer;
    }

pub returns-then-b-a : goal.returns-then-b-a
returns-then-b-a c =
    let k = c.args.self.now in
    let j = c.put_below-then-b-a.result in
    let p = c.put_below-then-b-a.ensures in
    record {
      joined =
          join_roots k c.args.x c.args.y c.requires.x_small c.requires.y_small j c.find-a.result c.find-b.result c.find-a.ensures.stands c.find-b.ensures.stands
          (join_swapped k j c.find-b.result c.find-a.result p.joined);
      fewer =
          λ u.
          fewer_pairs k j p.closer c.args.x c.args.y c.requires.x_small c.requires.y_small u
          (decided_same j c.args.x c.args.y (p.now_a c.args.x c.requires.x_small (sym c.find-a.ensures.stands) ∙ sym (p.still_a c.args.y c.requires.y_small (sym c.find-b.ensures.stands))));
      no_more = none_more_pairs k j p.closer;
    }

pub returns-else-b-a : goal.returns-else-b-a
returns-else-b-a c =
    let k = c.args.self.now in
    let e : c.find-a.result ≡ c.find-b.result = omega arith in
    let r = sym c.find-a.ensures.stands ∙ e ∙ c.find-b.ensures.stands in
    record {
      joined = λ n. ((λ g. (g, same_known k c.args.x c.args.y c.requires.x_small c.requires.y_small n g r)), (λ g. g.0));
      fewer = λ u. absurd (both_ways (undecided k c.args.x c.args.y) (decided_same k c.args.x c.args.y r) u);
      no_more = omega arith;
    }
