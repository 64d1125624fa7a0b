use Rattle.std.proofs.Common.{◌≡◌, ℕ, ◌+◌, ◌*◌, ◌<◌, ◌≤◌, List, [], ◌∷◌, ◌++◌, map, length, get_or, take, Some, Option, sym, ap, ◌∙◌, subst, rules, tests, arith}
use lib.ListN.{length-map}
use Rattle.std.proofs.lemmas.List.{map_more, take_all, length-take-le}
use Rattle.claims.specs.Memory.{Names}
use Rattle.claims.specs.Meaning.{atom_of}
use Rattle.claims.specs.declared.parts.Atom.{Atom}
use Rattle.models.specs.Generic.{linked, linked_through}
use Rattle.entails.specs.Telling.{told_memory, tried}
use Rattle.entails.specs.declared.stretches.Stretch.{Stretch}
use Rattle.entails.specs.declared.told.Told.{Told}
use Rattle.entails.proofs.Stretching.{stretched_through, tried_on}
use Rattle.entails.proofs.trials.write.Goals as goal
use Rattle.entails.proofs.trials.write.Goals.{in-Some, in-None}

-- the first i atoms are written
abbrev Written : Names → List Atom → Option Stretch → ℕ → Told → Type 0
Written g xs s i t = (t.names ≡ g) × (t.count ≤ 2 * i) × (told_memory t ≡ tried g (map atom_of (take i xs)) s)

-- and one more
module _ (g : Names) (xs : List Atom) (i : ℕ) (d : Atom) (s : Option Stretch) (old new : Told) (h : i < length xs) (inv : Written g xs s i old)
    (names : new.names ≡ old.names) (few : new.count ≤ old.count + 2) where
  count : length (map atom_of (take i xs)) ≡ i
  count = length-map (take i xs) atom_of ∙ length-take-le i xs (omega arith)

  more : map atom_of (take (i + 1) xs) ≡ map atom_of (take i xs) ++ atom_of (get_or xs i d) ∷ []
  more = map_more atom_of xs i d h

  through : (t : Stretch) → s ≡ Some t → t.row ≡ i → told_memory new ≡ told_memory old ++ linked_through old.names (atom_of (get_or xs i d)) t.through → Written g xs s (i + 1) new
  through t is e w = (
    names ∙ inv.0,
    omega arith,
    w ∙ ap (λ u. told_memory old ++ linked_through u (atom_of (get_or xs i d)) t.through) inv.0 ∙
        ap (λ u. u ++ linked_through g (atom_of (get_or xs i d)) t.through) (inv.2 ∙ ap (tried g (map atom_of (take i xs))) is) ∙
        sym (stretched_through g (atom_of (get_or xs i d)) (map atom_of (take i xs)) t.row t.through (e ∙ sym count)) ∙
        ap (λ u. tried g u (Some t)) (sym more) ∙ ap (tried g (map atom_of (take (i + 1) xs))) (sym is),
  )

  on : ((t : Stretch) → s ≡ Some t → t.row ≡ i → ⊥) → told_memory new ≡ told_memory old ++ linked old.names (atom_of (get_or xs i d)) → Written g xs s (i + 1) new
  on other w = (
    names ∙ inv.0,
    omega arith,
    w ∙ ap (λ u. told_memory old ++ linked u (atom_of (get_or xs i d))) inv.0 ∙
        ap (λ u. u ++ linked g (atom_of (get_or xs i d))) inv.2 ∙
        sym (tried_on g (atom_of (get_or xs i d)) (map atom_of (take i xs)) s (λ t is e. other t is (e ∙ count))) ∙ ap (λ u. tried g u s) (sym more),
  )

pub loop-i-preserved : goal.loop-i-preserved
loop-i-preserved c =
    let g = c.args.trial.now.names in
    let xs = c.args.atoms.now in
    let i = c.loop-i.i-counter in
    let old = c.loop-i.told in
    let lt = c.loop-i-test.true in
    let P : Told → Type 0 = Written g xs c.args.trial.now.stretch (i + 1) in
    elim c.match-filter.branch [
      | in-Some w ↦
          let is : c.args.trial.now.stretch ≡ Some w.in-Some.stretch = search (rules, tests) in
          let at : w.in-Some.stretch.row ≡ i = search (rules, tests) in
          subst P (sym w.told-is) (through g xs i _ c.args.trial.now.stretch old w.link_through.new.self lt c.loop-i.invariant w.link_through.ensures.names w.link_through.ensures.count w.in-Some.stretch is at w.link_through.ensures.cells)
      | in-None w ↦ subst P (sym w.told-is) (on g xs i _ c.args.trial.now.stretch old w.link.new.self lt c.loop-i.invariant w.link.ensures.names w.link.ensures.count (λ t is e. search (rules, tests)) w.link.ensures.cells)
    ]

pub returns-clause-cells : goal.returns-clause-cells
returns-clause-cells c =
    c.loop-i.invariant.2 ∙ ap (λ u. tried c.args.trial.now.names (map atom_of u) c.args.trial.now.stretch) (take_all c.loop-i.i-counter c.args.atoms.now (omega arith))
