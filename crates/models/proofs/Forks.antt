-- The generic memory is sound if the atoms start at different places, none nowhere.
use Rattle.std.proofs.Common.{◌≡◌, ℕ, suc, ◌<◌, true, T, List, [], ◌∷◌, length, get_or, sym, refl, ap, arith}
use Rattle.claims.specs.Claims.{Atom}
use Rattle.claims.specs.Memory.{Names, at, here, sound}
use Rattle.memory.specs.Owners.{start, Empty}
use Rattle.memory.specs.Taking.{Put, put_here, put_later}
use Rattle.memory.proofs.Parts.{not_true_false, first_sound}
use Rattle.models.specs.Generic.{link, generic, ForkFree}
use Rattle.models.proofs.Parts.{cell_at}
use Rattle.models.proofs.Generic.{Linked, is_empty, is_full, linked_cases, link_more, none_more, generic_first}

-- where the element is that can be taken out
pub put_index :
    {A : Type 0} {a : A} {cs ds : List A} → Put a cs ds → (i : ℕ) × (i < length ds) × ((d : A) → get_or ds i d ≡ a)
put_index put_here = (0, omega arith, λ d. refl)
put_index (put_later u) = let (i, l, e) = put_index u in (suc i, omega arith, e)

fork_free_later : {g : Names} {a : Atom} {cs : List Atom} → ForkFree g (a ∷ cs) → ForkFree g cs
fork_free_later f =
    record {
      somewhere = λ i d l. f.somewhere (suc i) d (omega arith);
      apart = λ i j d l lj. f.apart (suc i) (suc j) d (omega arith) (omega arith);
    }

pub fork_free_sound : (g : Names) (cs : List Atom) → ForkFree g cs → T (sound (generic g cs))
fork_free_sound g [] f = tt
fork_free_sound g (a ∷ cs) f = go (fork_free_sound g cs (fork_free_later f)) (linked_cases g a)
  where
    alone : (Empty g a → ⊥) → here (at g (start a)) (generic g cs) ≡ true → ⊥
    alone full h =
        let first = generic_first g cs (cell_at (at g (start a)) (generic g cs) h).out in
        let (i, l, e) = put_index first.put in
        let same_place = ap (λ c. c.place) (sym first.is_link) in
        f.apart 0 (suc i) a (omega arith) (omega arith) full (rw (e a) first.full) (rw (e a) same_place)

    go : T (sound (generic g cs)) → Linked g a → T (sound (generic g (a ∷ cs)))
    go others (is_empty no_cell e) = rw (none_more g a (generic g cs) e) others
    go others (is_full full e) =
        let absent = not_true_false (here (at g (start a)) (generic g cs)) (alone full) in
        let somewhere = f.somewhere 0 a (omega arith) full in
        let first = first_sound (link g a) (generic g cs) (record { somewhere = somewhere; alone = absent; others = others }) in
        rw (link_more g a (generic g cs) e) first
