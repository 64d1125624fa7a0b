-- Dealing a memory's cells out to atoms, one after the other, and why a claim fails.
--
-- deals_none, deals_more, deals_stuck: the ways of a loop that deals.
-- dealt_rest: if the first atoms are dealt out and all can be, then the others can be dealt what is left.
-- false_fails, stuck_fails and left_fails: the claim does not hold, for each of the three reasons.
use Rattle.std.proofs.Common.{◌≡◌, ℕ, ◌+◌, ◌<◌, T, List, [], ◌∷◌, ◌++◌, length, get_or, take, drop, sym, ap, ◌∙◌, subst, arith}
use Rattle.std.specs.List.{AllByRecursion}
use Rattle.std.proofs.lemmas.List.{take-append-drop, take_more, drop_more}
use Rattle.std.proofs.ByRecursion.{All-get_or}
use Rattle.claims.specs.Claims.{Pure, same, Atom, row}
use Rattle.claims.specs.Memory.{Names, Memory, sound, Parts, PureHolds, AtomHolds, Dealt, no_more, one_more}
use Rattle.memory.specs.Taking.{Takes}
use Rattle.memory.specs.Walks.{AtomStuck}
use Rattle.memory.specs.Judging.{FirstFalse, AtomsStuck, AtomsLeave, Deals}
use Rattle.memory.proofs.Parts.{parts_assoc, parts_regroup, parts_none, parts_length, none_parts, all_parts, sound_right, rest_same}
use Rattle.memory.proofs.Atoms.{atom_rest}
use Rattle.memory.proofs.Dealt.{dealt_same}
use Rattle.memory.proofs.Marking.{nowhere}

-- one more atom, at the end
pub dealt_push :
    {n : Names} {xs : List Atom} {used part m : Memory} (a : Atom) → Dealt n xs used → Parts used part m → AtomHolds n a part →
    Dealt n (xs ++ a ∷ []) m
dealt_push {n} a no_more t h =
    one_more (all_parts _) (subst (λ x. AtomHolds n a x) (parts_none t) h) no_more
dealt_push a (one_more u k d) t h = let (g, v, w) = parts_assoc t u in one_more v k (dealt_push a d w h)

pub deals_none : (n : Names) (m : Memory) (xs : List Atom) → Deals n m xs 0 m
deals_none n m xs = record { used = []; parts = none_parts m; dealt = no_more }

module _ (n : Names) (m : Memory) (xs : List Atom) (i : ℕ) (a : Atom) (e : Memory) (within : i < length xs) (this : (d : Atom) → get_or xs i d ≡ a) (before : Deals n m xs i e) where
  pub deals_more : (f : Memory) → Takes (AtomHolds n a) e f → Deals n m xs (i + 1) f
  deals_more f t =
      let (used, u, v) = parts_regroup before.parts t.parts in
      let front : take (i + 1) xs ≡ take i xs ++ a ∷ [] = take_more xs i a within ∙ ap (λ y. take i xs ++ y ∷ []) (this a) in
      record { used = used; parts = v; dealt = rw front (dealt_push a before.dealt u t.is) }

  pub deals_stuck : (b : ℕ) → AtomStuck n a e b → AtomsStuck n m xs i b
  deals_stuck b s =
      record {
        within = within;
        used = before.used;
        rest = e;
        parts = before.parts;
        dealt = before.dealt;
        stuck = λ d. rw (this d) s;
      }

pub dealt_rest :
    {n : Names} {xs ys : List Atom} {m used rest : Memory} → T (sound m) → Parts used rest m → Dealt n xs used → Dealt n (xs ++ ys) m →
    Dealt n ys rest
dealt_rest {n} {ys = ys} s t no_more d = subst (λ x. Dealt n ys x) (sym (parts_none t)) d
dealt_rest {n} {ys = ys} s t (one_more {a = a} {more = more} u h c) (one_more v k d) =
    let (g, w, x) = parts_assoc t u in
    let same = atom_rest n a s (record { part = _; parts = v; is = k }) (record { part = _; parts = w; is = h }) in
    dealt_rest (sound_right w s) x c (subst (λ y. Dealt n (more ++ ys) y) same d)

pub false_fails : (n : Names) (fs : List Pure) (i : ℕ) → FirstFalse n fs i → AllByRecursion (PureHolds n) fs → ⊥
false_fails n fs i f h = f.fails (same 0 0) (All-get_or (PureHolds n) fs i (same 0 0) f.within h)

pub stuck_fails : (n : Names) (m : Memory) (xs : List Atom) (i b : ℕ) → T (sound m) → AtomsStuck n m xs i b → Dealt n xs m → ⊥
stuck_fails n m xs i b s k d =
    let a = get_or xs i (row 0 0) in
    let split : xs ≡ take i xs ++ a ∷ drop (i + 1) xs =
    sym (take-append-drop i xs) ∙ ap (λ l. take i xs ++ l) (drop_more xs i (row 0 0) k.within) in
    untaken (k.stuck (row 0 0)) (dealt_rest s k.parts k.dealt (subst (λ l. Dealt n l m) split d))
  where
    untaken : {a : Atom} {more : List Atom} {rest : Memory} → AtomStuck n a rest b → Dealt n (a ∷ more) rest → ⊥
    untaken stuck (one_more {part = part} {rest = rest} t h d) = stuck.none rest (record { part = part; parts = t; is = h })

pub left_fails : (n : Names) (m : Memory) (xs : List Atom) (j : ℕ) → T (sound m) → AtomsLeave n m xs j → Dealt n xs m → ⊥
left_fails n m xs j s k d =
    let all-used = dealt_same k.parts (all_parts m) s k.dealt d in
    let nothing = rest_same k.parts (all_parts m) s all-used in
    omega (arith, ap length nothing, parts_length (k.there nowhere))
