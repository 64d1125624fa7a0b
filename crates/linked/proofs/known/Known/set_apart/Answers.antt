use Rattle.linked.proofs.Clearness.{root_itself, closed_of, clear_of, added_closed, added_clear, not_loose, not_mixed}
use Rattle.linked.proofs.known.Known.set_apart.Goals as goal

pub invariant_of-result : goal.invariant_of-result
invariant_of-result c =
    let k = c.args.self.now in
    let a = c.args.a in
    let b = c.args.b in
    let ra = root_itself k.stands a c.requires.a_itself in
    let rb = root_itself k.stands b c.requires.b_itself in
    record {
      all = k.all;
      rows = c.add-others.ensures.full;
      falls = k.falls;
      closed = not_loose k.stands c.add-others.result (added_closed k.stands k.others c.add-others.result a b ra rb c.requires.apart (closed_of k) (clear_of k) c.add-others.ensures);
      clear = not_mixed k.stands c.add-others.result (added_clear k.stands k.others c.add-others.result a b ra rb c.requires.apart (closed_of k) (clear_of k) c.add-others.ensures);
    }
