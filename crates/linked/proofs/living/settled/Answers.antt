use Rattle.std.proofs.Common.{◌≡◌, ℕ, ◌<◌, sym, ap, ◌∙◌, subst}
use Rattle.claims.specs.Claims.{cell, row}
use Rattle.claims.specs.Memory.{Names, at}
use Rattle.claims.specs.Words.{AtomBelow}
use Rattle.claims.specs.Meaning.{atom_of}
use Rattle.claims.specs.declared.parts.Atom.{Atom}
use Rattle.linked.specs.Stands.{root}
use Rattle.linked.specs.Knowing.{Agrees}
use Rattle.linked.specs.Living.{Settled}
use Rattle.linked.specs.declared.known.Known.{Known}
use Rattle.linked.proofs.Knowledge.{to_root}
use Rattle.linked.proofs.AtomLists.{cell_alike, row_alike}
use Rattle.linked.proofs.living.settled.Goals as goal

found : (k : Known) (x r : ℕ) → x < 64 → r ≡ root k.stands x → (n : Names) → Agrees k n → at n x ≡ at n r
found k x r h e n g = to_root k x x h h n g ∙ ap (at n) (sym e)

pub returns-in-Cell : goal.returns-in-Cell
returns-in-Cell c =
    let k = c.args.known.now in
    let a = c.find.result in
    let b = c.find-in-Cell.result in
    let P : Atom → Type 0 = λ t. AtomBelow 64 (atom_of t) → Settled k (atom_of t) (cell a b) in
    subst P (sym c.in-Cell.is)
    (λ h.
    record {
      start_small = c.find.ensures.below;
      end_small = c.find-in-Cell.ensures.below;
      alike =
          λ n g.
          cell_alike n c.in-Cell.x.0 c.in-Cell.y.0 a b (found k c.in-Cell.x.0 a h.0 c.find.ensures.stands n g) (found k c.in-Cell.y.0 b h.1 c.find-in-Cell.ensures.stands n g);
    })
    c.requires

pub returns-in-Row : goal.returns-in-Row
returns-in-Row c =
    let k = c.args.known.now in
    let a = c.find-in-Row.result in
    let b = c.find-in-Row-2.result in
    let P : Atom → Type 0 = λ t. AtomBelow 64 (atom_of t) → Settled k (atom_of t) (row a b) in
    subst P (sym c.in-Row.is)
    (λ h.
    record {
      start_small = c.find-in-Row.ensures.below;
      end_small = c.find-in-Row-2.ensures.below;
      alike =
          λ n g.
          row_alike n c.in-Row.x.0 c.in-Row.y.0 a b (found k c.in-Row.x.0 a h.0 c.find-in-Row.ensures.stands n g) (found k c.in-Row.y.0 b h.1 c.find-in-Row-2.ensures.stands n g);
    })
    c.requires
