use Rattle.std.proofs.Common.{ℕ, Some, None, Ok, Err, Option, Result, arith}
use Rattle.claims.specs.Claims.{same, other}
use Rattle.linked.specs.declared.known.Known.{Known}
use Rattle.matching.specs.Rules.{Closed, Total, no_names, pattern}
use Rattle.matching.specs.Parting.{own_of, wanted_of, whole_of}
use Rattle.matching.specs.declared.parts.Part.{Part}
use Rattle.entails.specs.Reducing.{PartSettled}
use Rattle.entails.specs.Searching.{OnSide, Searched}
use Rattle.entails.specs.Telling.{first_of, second_of}
use Rattle.entails.specs.Trying.{Exactly}
use Rattle.entails.specs.declared.goals.Goal.{Goal}
use Rattle.entails.specs.declared.stretches.Trial.{Trial}
use Rattle.entails.proofs.Reductions.{part_later, both_sides, side_back}
use Rattle.entails.proofs.goals.Goal.+search.Goals as goal
use Rattle.entails.proofs.goals.Goal.+search.Goals.{in-Some-side+in_ok-search-in-Some-side, in-None}

-- the case in which the two are the same is settled
abbrev OneSide : Goal → Known → Part → ℕ → ℕ → Type 0
OneSide g k p x y = (r : Option Known) × OnSide k (same x y) (whole_of p) r × Closed g.names (first_of g) (second_of g) r (own_of p) (wanted_of p)

-- all is known
exact_searched :
    (g : Goal) (k j : Known) (p q : Part) (r : Result Unit Trial) → (PartSettled g j q → PartSettled g k p) → Total g.names j → Exactly g j r →
    Searched g k p r
exact_searched g k j p q (Ok u) settles total exact = settles (pattern total exact.stand exact.follows)
exact_searched g k j p q (Err t) settles total exact = exact

pub returns-in_default : goal.returns-in_default
returns-in_default t c =
    exact_searched c.args.self.now c.args.known c.others.known c.args.part c.in-Left.left c.try_all.result
    (λ closed. c.others.invariant.0 (c.in-Left.ensures.settles closed)) c.in_default.ensures c.try_all.ensures

pub search-requires-in-Some-side : goal.search-requires-in-Some-side
search-requires-in-Some-side t c = (
  omega (arith, c.decreases, c.others.invariant.2, c.in-Left.ensures.no_more, c.in-Some-side.ensures.fewer c.in-Some.ensures.unknown),
  (
    omega (arith, c.show.auto.marks, c.others.auto.marks, c.requires.room),
    part_later c.args.self.now c.others.known c.in-Some-side.same c.in-Left.left
        (side_back c.others.known c.in-Some-side.same (same c.in-Some.x c.in-Some.y) (whole_of c.in-Left.left) c.in-Some-side.ensures.side) c.in-Left.ensures.part_of,
  ),
)

pub returns-in_default-side : goal.returns-in_default-side
returns-in_default-side t c =
    let g = c.args.self.now in
    let k = c.others.known in
    let p = c.in-Left.left in
    let x = c.in-Some.x in
    let y = c.in-Some.y in
    let one : OneSide g k p x y =
    elim c.match-side.branch [
      | in-Some-side+in_ok-search-in-Some-side w ↦ (Some w.in-Some-side.same, w.in-Some-side.ensures.side, w.in_ok-search-in-Some-side.ensures)
      | in-None w ↦ (None, w.in-None.ensures.side, no_names)
    ] in
    c.others.invariant.0
    (c.in-Left.ensures.settles
    (both_sides g k p c.in-Left.ensures.part_of (own_of p) (wanted_of p) x y one.0 None one.1 c.in_default-side.ensures.side one.2 no_names))

pub others-preserved : goal.others-preserved
others-preserved t c =
    let g = c.args.self.now in
    let k = c.others.known in
    let p = c.in-Left.left in
    let of = c.in-Left.ensures.part_of in
    let x = c.in-Some.x in
    let y = c.in-Some.y in
    let j = c.in-Some-side-2.other in
    let side = c.in-Some-side-2.ensures.side in
    let one : OneSide g k p x y =
    elim c.match-side.branch [
      | in-Some-side+in_ok-search-in-Some-side w ↦ (Some w.in-Some-side.same, w.in-Some-side.ensures.side, w.in_ok-search-in-Some-side.ensures)
      | in-None w ↦ (None, w.in-None.ensures.side, no_names)
    ] in (
      (λ settled. c.others.invariant.0 (c.in-Left.ensures.settles (both_sides g k p of (own_of p) (wanted_of p) x y one.0 (Some j) one.1 side one.2 settled))),
      part_later g k j p (side_back k j (other x y) (whole_of p) side) of,
      omega (arith, c.others.invariant.2, c.in-Left.ensures.no_more, c.in-Some-side-2.ensures.fewer c.in-Some.ensures.unknown),
    )
