use Rattle.std.proofs.Common.{◌↔◌, Some, None, Option, List, map, sym, subst}
use Rattle.std.specs.List.{AllByRecursion}
use Rattle.claims.specs.Claims.{Pure, Atom}
use Rattle.claims.specs.Meaning.{pure_of, atom_of}
use Rattle.claims.specs.Memory.{Names, PureHolds}
use Rattle.linked.specs.Knowing.{Agrees}
use Rattle.linked.specs.Propagating.{Propagated, Learnt, AllMet}
use Rattle.linked.specs.declared.known.Known.{Known}
use Rattle.linked.proofs.learn.learn.Goals as goal

-- what is learnt from the atoms after the same and other
module _ (ps : List Pure) (cs : List Atom) (k : Known) (assumed : (n : Names) → Agrees k n ↔ AllByRecursion (PureHolds n) ps) where
  then_learnt : (r : Option Known) → Propagated cs k r → Learnt ps cs r × AllMet ps r
  then_learnt (Some j) p = ((λ n m s h d. p.forth n m s d ((assumed n).1 h)), (λ n g. (assumed n).0 (p.back n g)))
  then_learnt None p = ((λ n m s h d. p n m s d ((assumed n).1 h)), tt)

pub returns-in_err-known-clause-learnt : goal.returns-in_err-known-clause-learnt
returns-in_err-known-clause-learnt c =
    subst (Learnt (map pure_of c.args.pures.now) (map atom_of c.args.atoms.now)) (sym c.from_residual.ensures)
    (λ n m sm p d. c.in_err-known.ensures n (c.new.ensures n) p)

pub returns : goal.returns
returns c =
    let a = c.in_ok-known.ensures in
    let both =
    then_learnt (map pure_of c.args.pures.now) (map atom_of c.args.atoms.now) c.in_ok-known.known
    (λ n. ((λ g. ((a n).0 g).1), (λ p. (a n).1 (c.new.ensures n, p)))) c.propagate.result c.propagate.ensures.propagated in
    record { learnt = both.0; met = both.1 }
