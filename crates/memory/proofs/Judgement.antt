-- From what the code has found to what it answers: `first_false`, and each way of `deal` and `holds`.
use Rattle.std.proofs.Common.{◌≡◌, ℕ, zero, suc, ◌+◌, ◌/◌, ◌<◌, T, true, List, [], ◌∷◌, map, length, get_or, take, set, Some, None, Ok, Err, Option, Result, sym, ap, ◌∙◌, subst, arith}
use Rattle.std.specs.List.{AllByRecursion}
use Rattle.std.proofs.lemmas.List.{get_or-map, length-map, take_all}
use Rattle.claims.specs.Memory.{Names, Memory, sound, PureHolds, AtomHolds, Dealt, Parts, Says}
use Rattle.claims.specs.Meaning.{pure_of, atom_of}
use Rattle.claims.specs.declared.parts.Pure.{Pure}
use Rattle.claims.specs.declared.parts.Pure.TheVariants.{Same}
use Rattle.claims.specs.declared.parts.Atom.{Atom}
use Rattle.claims.specs.declared.parts.Atom.TheVariants.{Cell}
use Rattle.claims.specs.declared.names.Place.{Place}
use Rattle.memory.specs.Marks.{memory_of, rest_of}
use Rattle.memory.specs.Dealings.{rest}
use Rattle.memory.specs.declared.cells.SoundMemory.{SoundMemory}
use Rattle.memory.specs.declared.dealings.Dealing.{Dealing}
use Rattle.memory.specs.Taking.{Takes}
use Rattle.std.specs.Result.{is_ok}
use Rattle.memory.specs.Walks.{AtomStuck, AtomTaken}
use Rattle.memory.specs.Judging.{FirstFalse, FalseFound, AtomsStuck, AtomsLeave, Deals, DealtOut, FailsFor, claim_from}
use Rattle.memory.specs.declared.deals.Why.{Why}
use Rattle.memory.specs.declared.deals.Why.TheVariants as why
use Rattle.memory.proofs.Parts.{parts_comm, parts_none}
use Rattle.memory.proofs.Marking.{length_memory, mark_out, none-unmarked}
use Rattle.memory.proofs.Dealing.{deals_more, deals_stuck, false_fails, stuck_fails, left_fails}

-- what the checker reads past the end of an array
abbrev pub no_pure : Pure
no_pure = Same (record { 0 = 0 }) (record { 0 = 0 })

abbrev pub no_atom : Atom
no_atom = Cell (record { 0 = 0 }) (record { 0 = 0 })

module _ (n : Names) where
  abbrev Holds : List Pure → ℕ → Type 0
  Holds ps k = PureHolds n (pure_of (get_or ps k no_pure))

  -- what `position` finds
  abbrev pub PositionFalse : List Pure → Option ℕ → Type 0
  PositionFalse ps (Some i) = (i < length ps) × (Holds ps i → ⊥) × ((k : ℕ) → k < i → Holds ps k)
  PositionFalse ps None = (k : ℕ) → k < length ps → Holds ps k

  first_hold : (ps : List Pure) (i : ℕ) → ((k : ℕ) → k < i → k < length ps → Holds ps k) → AllByRecursion (PureHolds n) (take i (map pure_of ps))
  first_hold ps zero h = tt
  first_hold [] (suc i) h = tt
  first_hold (p ∷ ps) (suc i) h = (h 0 (omega arith) (omega arith), first_hold ps i (λ k l m. h (suc k) (omega arith) (omega arith)))

  pub false_found : (ps : List Pure) (r : Option ℕ) → PositionFalse ps r → FalseFound n (map pure_of ps) r
  false_found ps (Some i) (within, fails, before) =
      record {
        within = omega (arith, length-map ps pure_of);
        before = first_hold ps i (λ k l m. before k l);
        fails = λ d h. fails (subst (PureHolds n) (get_or-map pure_of ps i no_pure d within) h);
      }
  false_found ps None all =
      rw (take_all (length ps) (map pure_of ps) (omega (arith, length-map ps pure_of))) at (first_hold ps (length ps) (λ k l m. all k m))

module _ (n : Names) (m : Memory) (xs : List Atom) (i : ℕ) (e : Memory) (before : Deals n m (map atom_of xs) i e) where
  pub atom_taken :
      (f : Memory) → i < length xs → Takes (AtomHolds n (atom_of (get_or xs i no_atom))) e f → Deals n m (map atom_of xs) (i + 1) f
  atom_taken f within t =
      deals_more n m (map atom_of xs) i (atom_of (get_or xs i no_atom)) e (omega (arith, length-map xs atom_of)) (λ d. get_or-map atom_of xs i no_atom d within) before f t

  pub atom_stuck :
      (b : ℕ) → i < length xs → AtomStuck n (atom_of (get_or xs i no_atom)) e b → AtomsStuck n m (map atom_of xs) i b
  atom_stuck b within s =
      deals_stuck n m (map atom_of xs) i (atom_of (get_or xs i no_atom)) e (omega (arith, length-map xs atom_of)) (λ d. get_or-map atom_of xs i no_atom d within) before b s

  pub atoms_taken : i ≡ length xs → Deals n m (map atom_of xs) (length (map atom_of xs)) e
  atoms_taken h =
      let same : i ≡ length (map atom_of xs) = h ∙ sym (length-map xs atom_of) in
      subst (λ k. Deals n m (map atom_of xs) k e) same before

  pub atom_done :
      (r : Result Unit Place) (f : Memory) → is_ok r ≡ true → i < length xs → AtomTaken n (atom_of (get_or xs i no_atom)) e f r →
      Deals n m (map atom_of xs) (i + 1) f
  atom_done (Ok u) f ok within t = atom_taken f within t
  atom_done (Err b) f ok within t = absurd (cc)

-- what a dealing of the memory m has left
module _ (m : SoundMemory) (d : Dealing) (same : d.memory ≡ m) where
  pub room_is : length d.marks.now ≡ length m.words.now / 2
  room_is = d.room ∙ ap (λ x. length x.words.now / 2) same

  pub rest_is : rest d ≡ rest_of m.words.now d.marks.now
  rest_is = ap (λ x. rest_of x.words.now d.marks.now) same

module _ (n : Names) (s : List ℕ) (ps : List Pure) (xs : List Atom) (is_sound : T (sound (memory_of s))) where
  pub fails_pure : (i : ℕ) → FirstFalse n (map pure_of ps) i → FailsFor n (memory_of s) (claim_from ps xs) (why.Pure i)
  fails_pure i f = record { fails = λ h. false_fails n (map pure_of ps) i f h.pures; why_true = f }

  module _ (true-pures : AllByRecursion (PureHolds n) (map pure_of ps)) where
    pub fails_stuck :
        (i : ℕ) (b : Place) → AtomsStuck n (memory_of s) (map atom_of xs) i b.0 →
        FailsFor n (memory_of s) (claim_from ps xs) (why.Stuck i b)
    fails_stuck i b k =
        record {
          fails = λ h. stuck_fails n (memory_of s) (map atom_of xs) i b.0 is_sound k h.atoms;
          why_true = (true-pures, k);
        }

    pub deal_fails :
        (e : Memory) (r : Why) → DealtOut n (memory_of s) (map atom_of xs) e (Err r) → FailsFor n (memory_of s) (claim_from ps xs) r
    deal_fails e (why.Stuck i b) k = fails_stuck i b k
    deal_fails e (why.Pure i) k = absurd k
    deal_fails e (why.LeftOver j) k = absurd k

    module _ (w : List ℕ) (room : length w ≡ length s / 2) (d : Deals n (memory_of s) (map atom_of xs) (length (map atom_of xs)) (rest_of s w)) where
      all_dealt : Dealt n (map atom_of xs) d.used
      all_dealt = rw (take_all (length (map atom_of xs)) (map atom_of xs) (omega arith)) at d.dealt

      pub fails_left : (j : ℕ) → j < length w → get_or w j 0 ≡ 0 → FailsFor n (memory_of s) (claim_from ps xs) (why.LeftOver j)
      fails_left j h unmarked =
          let within : j < length (memory_of s) = omega (arith, length_memory s) in
          let left : AtomsLeave n (memory_of s) (map atom_of xs) j =
          record {
            within = within;
            used = d.used;
            rest = rest_of s w;
            others = rest_of s (set w j 1);
            parts = d.parts;
            dealt = all_dealt;
            there = λ c. mark_out w (memory_of s) j c within h unmarked;
          } in
          record {
            fails = λ h. left_fails n (memory_of s) (map atom_of xs) j is_sound left h.atoms;
            why_true = (true-pures, left);
          }

      pub says_so : ((k : ℕ) → k < length w → get_or w k 0 ≡ 0 → ⊥) → Says n (memory_of s) (claim_from ps xs)
      says_so h =
          let nothing = none-unmarked w (memory_of s) (room ∙ sym (length_memory s)) h in
          let whole : d.used ≡ memory_of s = parts_none (parts_comm (subst (λ e. Parts d.used e (memory_of s)) nothing d.parts)) in
          record { pures = true-pures; atoms = subst (λ u. Dealt n (map atom_of xs) u) whole all_dealt }
