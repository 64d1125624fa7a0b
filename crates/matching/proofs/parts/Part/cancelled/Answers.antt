use Rattle.std.proofs.Common.{get_or, ◌+◌, ◌<◌, ◌≤◌, List, ◌++◌, length, drop, sym, ap, ◌∙◌, subst, subst₂, arith}
use Rattle.claims.specs.Claims.{Atom}
use Rattle.claims.specs.Meaning.{atom_of}
use Rattle.linked.specs.Living.{atoms_of}
use Rattle.linked.specs.Spare.{spare}
use Rattle.linked.proofs.Reach.{live-length, slice_at}
use Rattle.matching.specs.Parting.{wanted_of, Regrouped}
use Rattle.matching.proofs.Lists.{empty_list, live_push}
use Rattle.linked.specs.declared.atoms.Live.{Live}
use Rattle.matching.specs.declared.rests.Rest.{Rest}
use Rattle.matching.proofs.Parting.{LeftTo, regrouped, cancel_none, cancel_found, cancel_kept, cancel_all}
use Rattle.matching.proofs.parts.Part.cancelled.Goals as goal
use Rattle.matching.proofs.parts.Part.cancelled.Goals.{in-Some, in-None}

pub loop-atom-init : goal.loop-atom-init
loop-atom-init c =
    let p = c.args.self.now in
    let n = c.new-rest.ensures in (
      omega (arith, c.new-wanted.ensures),
      cancel_none c.args.known.now p.own (atoms_of p.others) (wanted_of p) c.new-rest.result (atoms_of c.new-wanted.result)
          (record { known = n.known; all = ap atoms_of n.live ∙ c.whole-whole.ensures.all; front = n.own })
          n.free (empty_list c.new-wanted.result c.new-wanted.ensures),
    )

pub loop-atom-preserved : goal.loop-atom-preserved
loop-atom-preserved c =
    let k = c.args.known.now in
    let p = c.args.self.now in
    let es = atoms_of p.others in
    let ws = wanted_of p in
    let r = c.loop-atom.rest in
    let left = atoms_of c.loop-atom.wanted in
    let i = c.loop-atom.atom-index in
    let xs = c.as_slice-atom-items in
    let h : i < length xs.result.now = c.loop-atom-test.true in
    let atom = get_or xs.result.now i spare in
    let a = atom_of atom in
    let is = slice_at p.wanted xs.result.now xs.ensures.value i spare h in
    let within : i < length ws = omega (arith, live-length p.wanted, h, xs.ensures.count) in
    let (few, before) = c.loop-atom.invariant in
    elim c.match-without_atom.branch [
      | in-Some b ↦
          subst₂ (λ (q : Rest) (w : Live). (w.count ≤ i + 1) × LeftTo k p.own es ws q (atoms_of w ++ drop (i + 1) ws)) (sym b.rest-is) (sym b.wanted-is)
          (omega (arith, few), cancel_found k p.own es ws r left i a within is before b.in-Some.less b.in-Some.ensures)
      | in-None b ↦
          let w = b.with-wanted.result in
          subst₂ (λ (q : Rest) (w : Live). (w.count ≤ i + 1) × LeftTo k p.own es ws q (atoms_of w ++ drop (i + 1) ws)) (sym b.rest-is) (sym b.wanted-is) (
            omega (arith, few, b.with-wanted.ensures.count),
            cancel_kept k p.own es ws r left i a within is before (atoms_of w) (live_push c.loop-atom.wanted w atom b.with-wanted.ensures.more),
          )
    ]

pub returns : goal.returns
returns c =
    let k = c.args.known.now in
    let p = c.args.self.now in
    let own = c.divide.result.0 in
    let others = atoms_of p.others in
    let parts = c.divide.ensures in
    let xs = c.as_slice-atom-items in
    let behind = c.append-others.ensures.all in
    record {
      comes_to =
          cancel_all k p.own others (wanted_of p) c.loop-atom.rest (atoms_of c.loop-atom.wanted) (atoms_of own) c.loop-atom.atom-index (omega (arith, live-length p.wanted, c.loop-atom-test.false, xs.ensures.count)) parts.free c.loop-atom.invariant.1;
      whole = subst (λ (l : List Atom). Regrouped (atoms_of p.own ++ others) (atoms_of own ++ l)) (sym behind) (regrouped others parts.parts);
      no_more = omega (arith, parts.count, c.loop-atom.invariant.0, c.loop-atom.auto.atom-index-end, xs.ensures.count);
    }
