use Rattle.std.proofs.Common.{set, sym, refl, ◌∙◌, length-set}
use Rattle.linked.specs.declared.known.Known.{Known}
use Rattle.linked.proofs.Roots.{join_falls, join_same, same_join}
use Rattle.linked.proofs.Undecided.{join_closer, now_a, still_a}
use Rattle.linked.proofs.Clearness.{closed_of, clear_of, carried_closed, carried_clear, not_loose, not_mixed}
use Rattle.linked.proofs.known.Known.put_below.Goals as goal

pub invariant_of-result : goal.invariant_of-result
invariant_of-result c =
    let k = c.args.self.now in
    let a = c.args.a in
    let b = c.args.b in
    let p = c.carry-others.result in
    let s = set k.stands b a in
    record {
      all = length-set k.stands b a ∙ k.all;
      rows = c.carry-others.ensures.full;
      falls = join_falls k.stands a b k.all k.falls c.requires.lower c.requires.small;
      closed = not_loose s p (carried_closed k.stands k.others p a b k.all k.falls c.requires.lower c.requires.small c.requires.a_itself c.requires.b_itself c.requires.a_b c.requires.b_a (closed_of k) (clear_of k) c.carry-others.ensures);
      clear = not_mixed s p (carried_clear k.stands k.others p a b k.all k.falls c.requires.lower c.requires.small c.requires.a_itself c.requires.b_itself c.requires.a_b c.requires.b_a (closed_of k) (clear_of k) c.carry-others.ensures);
    }

pub returns : goal.returns
returns c =
    let k = c.args.self.now in
    let a = c.args.a in
    let b = c.args.b in
    let p = c.carry-others.result in
    let s = set k.stands b a in
    let j : Known =
    record {
      stands = s;
      others = p;
      all = length-set k.stands b a ∙ k.all;
      rows = c.carry-others.ensures.full;
      falls = join_falls k.stands a b k.all k.falls c.requires.lower c.requires.small;
      closed = not_loose s p (carried_closed k.stands k.others p a b k.all k.falls c.requires.lower c.requires.small c.requires.a_itself c.requires.b_itself c.requires.a_b c.requires.b_a (closed_of k) (clear_of k) c.carry-others.ensures);
      clear = not_mixed s p (carried_clear k.stands k.others p a b k.all k.falls c.requires.lower c.requires.small c.requires.a_itself c.requires.b_itself c.requires.a_b c.requires.b_a (closed_of k) (clear_of k) c.carry-others.ensures);
    } in
    record {
      joined =
          λ n. (
            (λ g.
                let q = join_same k.stands a b k.all k.falls c.requires.lower c.requires.small n c.requires.b_itself g.same in
                (record { same = q.0; other = λ x y hx hy m. g.other x y hx hy (c.carry-others.ensures.kept x y hx m) }, sym q.1)),
            (λ g.
                record {
                  same = same_join k.stands a b k.all k.falls c.requires.lower c.requires.small n g.0.same (sym g.1);
                  other = c.carry-others.ensures.only n g.1 g.0.other;
                }),
          );
      closer = join_closer k j a b c.requires.lower c.requires.small c.requires.a_itself c.requires.b_itself refl c.carry-others.ensures;
      still_a = still_a k j a b c.requires.lower c.requires.small c.requires.a_itself c.requires.b_itself refl c.carry-others.ensures;
      now_a = now_a k j a b c.requires.lower c.requires.small c.requires.a_itself c.requires.b_itself refl c.carry-others.ensures;
    }
