use Rattle.std.proofs.Common.{ℕ, sym, ◌∙◌, subst, subst₂}
use Rattle.claims.specs.Claims.{row}
use Rattle.linked.specs.Living.{atoms_of}
use Rattle.linked.specs.Reaching.{Reached}
use Rattle.linked.specs.declared.atoms.Live.{Live}
use Rattle.matching.specs.Using.{OtherThan, all_of}
use Rattle.matching.proofs.Outside.{cell_outside, row_outside}
use Rattle.matching.proofs.rests.Rest.outside.Goals as goal

pub returns-in-Cell : goal.returns-in-Cell
returns-in-Cell c r =
    let k = c.args.self.now.known.now in
    let u = c.in-Cell.u.0 in
    let reach = c.reach-reach in
    let apart =
    subst (λ (l : Live). OtherThan k (atoms_of l) c.args.e c.args.t u) reach.ensures.live
    (subst₂ (λ (e t : ℕ). OtherThan k (atoms_of reach.result.live.now) e t u) reach.ensures.without reach.ensures.from (c.apart_from.ensures r)) in
    cell_outside k (all_of c.args.self.now) c.args.e c.args.t u c.in-Cell.field-1.0 (c.in-Cell.ensures.is (row 0 0)) apart

pub returns-in-Row : goal.returns-in-Row
returns-in-Row c r =
    let set = c.reach-reach.result.names.0 in
    let reach = c.reach-reach in
    let reached =
    subst (λ (l : Live). Reached (atoms_of l) c.args.e c.args.t set) reach.ensures.live
    (subst₂ (λ (e t : ℕ). Reached (atoms_of reach.result.live.now) e t set) reach.ensures.without reach.ensures.from reach.result.reached) in
    row_outside c.args.self.now.known.now (all_of c.args.self.now) c.args.e c.args.t set c.in-Row.field-0.0 c.in-Row.w.0
    reached (c.in-Row.ensures.is (row 0 0)) (sym (c.has.ensures c.in-Row.ensures.end) ∙ r)
