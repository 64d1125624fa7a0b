use Rattle.std.proofs.Common.{◌≡◌, Some, None, Option, refl, sym, subst, rules}
use Rattle.std.specs.Option.{MatchOption}
use Rattle.linked.specs.declared.known.Known.{Known}
use Rattle.matching.specs.Parting.{CutSo}
use Rattle.matching.specs.declared.parts.Part.{Part}
use Rattle.entails.specs.Reducing.{OneLeft, Reduces}
use Rattle.entails.specs.declared.goals.Goal.{Goal}
use Rattle.entails.specs.declared.reducing.Reduced.{Reduced}
use Rattle.entails.specs.declared.reducing.Reduced.TheVariants.{Left, Split}
use Rattle.entails.proofs.Reductions.{renamed_left, cancelled_left, none_left, two_left}
use Rattle.entails.proofs.reducing.reduce.Goals as goal
use Rattle.entails.proofs.reducing.reduce.Goals.{After-renamed-renamed, After-cancelled-left}

first : (c : After-renamed-renamed) → OneLeft c.args.goal.now c.args.known.now c.args.part.now c.renamed-renamed.result
first c = renamed_left c.args.goal.now c.args.known.now c.args.part.now c.renamed-renamed.result c.requires c.renamed-renamed.ensures

second : (c : After-cancelled-left) → OneLeft c.args.goal.now c.args.known.now c.args.part.now c.cancelled-left.result
second c =
    let start = renamed_left c.args.goal.now c.args.known.now c.args.part.now c.renamed-renamed.result c.requires c.renamed-renamed.ensures in
    cancelled_left c.args.goal.now c.args.known.now c.args.part.now c.renamed-renamed.result start c.cancelled-left.result c.cancelled-left.ensures

-- what is left is cut in two, or it is left
cut_or_left :
    {Q : Part × Part → Type 0} (g : Goal) (k : Known) (p q : Part) → OneLeft g k p q → (o : Option (Part × Part)) (r : Reduced) → CutSo q o →
    MatchOption o (r ≡ Left q) Q → ((x : Part × Part) → Q x → r ≡ Split x.0 x.1) → Reduces g k p r
cut_or_left g k p q left (Some x) r cut is split = subst (Reduces g k p) (sym (split x is)) (two_left g k p q left x.0 x.1 cut)
cut_or_left g k p q left None r cut is split = subst (Reduces g k p) (sym is) left

pub returns-then-not-pures_match : goal.returns-then-not-pures_match
returns-then-not-pures_match c = first (goal.at.returns-then-not-pures_match c).After-renamed-renamed

pub returns-then-left-eq0-2 : goal.returns-then-left-eq0-2
returns-then-left-eq0-2 c =
    none_left c.args.goal.now c.args.known.now c.args.part.now c.cancelled-left.result (second (goal.at.returns-then-left-eq0-2 c).After-cancelled-left)
    c.if-left-eq0.true c.if-left-eq0-2.true (c.if-not-pures_match.ensures refl)

pub returns : goal.returns
returns c =
    cut_or_left c.args.goal.now c.args.known.now c.args.part.now c.cancelled-left.result (second (goal.at.returns c).After-cancelled-left) c.cut.result
    c.map_or.result c.cut.ensures c.map_or.ensures (λ x q. search rules)
