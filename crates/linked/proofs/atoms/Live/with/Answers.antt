use Rattle.std.proofs.Common.{ℕ, ◌+◌, ◌<◌, List, length, get_or, set, sym, refl, ◌∙◌, subst, arith, length-set, below_more}
use Rattle.std.proofs.lemmas.List.{take_more_set, get_or-set_same, get_or-set_other}
use Rattle.claims.specs.Meaning.{atom_of}
use Rattle.memory.specs.Owners.{start, end}
use Rattle.linked.specs.Spare.{spare}
use Rattle.linked.proofs.atoms.Live.with.Goals as goal

-- what holds of the first i and of the new one holds of all
each_more :
    {A : Type 0} (P : A → Type 0) (xs : List A) (i : ℕ) (a d : A) → i < length xs → ((j : ℕ) → j < i → P (get_or xs j d)) → P a →
    (j : ℕ) → j < i + 1 → P (get_or (set xs i a) j d)
each_more P xs i a d h all one =
    below_more (λ j. P (get_or (set xs i a) j d)) i
    (λ j l. subst P (sym (get_or-set_other xs i j a d (λ e. omega arith))) (all j l))
    (subst P (sym (get_or-set_same xs i a d h)) one)

pub invariant_of-result : goal.invariant_of-result
invariant_of-result c =
    let l = c.args.self in
    let h : l.count < length l.atoms = omega (arith, l.full) in
    record {
      full = length-set l.atoms l.count c.args.atom ∙ l.full;
      few = omega arith;
      starts = each_more (λ x. start (atom_of x) < 64) l.atoms l.count c.args.atom spare h l.starts c.requires.start;
      ends = each_more (λ x. end (atom_of x) < 64) l.atoms l.count c.args.atom spare h l.ends c.requires.end;
    }

pub returns : goal.returns
returns c =
    record { more = take_more_set c.args.self.atoms c.args.self.count c.args.atom (omega (arith, c.args.self.full)); count = refl }
