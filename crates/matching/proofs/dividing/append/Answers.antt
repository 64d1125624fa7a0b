use Rattle.std.proofs.Common.{◌<◌, [], ◌∷◌, ◌++◌, length, get_or, take, sym, ap, ◌∙◌, arith}
use Rattle.std.proofs.lemmas.List.{append-nil, append_assoc, take_all}
use Rattle.claims.specs.Meaning.{atom_of}
use Rattle.linked.specs.Living.{atoms_of}
use Rattle.linked.specs.Spare.{spare}
use Rattle.linked.proofs.Reach.{live-length, slice_at}
use Rattle.claims.specs.Claims.{row}
use Rattle.matching.proofs.Lists.{live_push, list_on}
use Rattle.matching.proofs.dividing.append.Goals as goal

pub loop-atom-init : goal.loop-atom-init
loop-atom-init c = (omega arith, sym (append-nil (atoms_of c.args.front.now)))

pub loop-atom-preserved : goal.loop-atom-preserved
loop-atom-preserved c =
    let back = c.args.back.now in
    let xs = c.as_slice-atom-items in
    let j = c.loop-atom.atom-index in
    let within : j < length xs.result.now = c.loop-atom-test.true in
    let atom = get_or xs.result.now j spare in
    let a = atom_of atom in
    let front = atoms_of c.args.front.now in
    let is = slice_at back xs.result.now xs.ensures.value j spare within in
    let more = list_on (atoms_of back) j a (row 0 0) (omega (arith, live-length back, xs.ensures.count, within)) is in (
      omega (arith, c.with-all.ensures.count, c.loop-atom.invariant.0),
      live_push c.loop-atom.all c.with-all.result atom c.with-all.ensures.more ∙ ap (λ u. u ++ a ∷ []) c.loop-atom.invariant.1 ∙
          append_assoc front (take j (atoms_of back)) (a ∷ []) ∙ ap (λ u. front ++ u) (sym more),
    )

pub returns : goal.returns
returns c =
    let back = c.args.back.now in
    let xs = c.as_slice-atom-items in
    let i = c.loop-atom.atom-index in
    let end = c.loop-atom-test.false in
    record {
      all = c.loop-atom.invariant.1 ∙ ap (λ u. atoms_of c.args.front.now ++ u) (take_all i (atoms_of back) (omega (arith, live-length back, xs.ensures.count, end)));
      count = omega (arith, c.loop-atom.invariant.0, xs.ensures.count, end, c.loop-atom.auto.atom-index-end);
    }
