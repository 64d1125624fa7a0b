-- What the call that decides answers, told of the question itself.
--
-- does_follow; shown and refuting: the two answers. never_full, never_none, never_few: the others do not come.
-- no_memory: where no memory was to be had, nothing is promised.
use Rattle.std.proofs.Common.{◌≡◌, ℕ, ◌+◌, ◌*◌, ◌≤◌, true, List, ◌++◌, length, take, drop, is_err, IfOk, Ok, Err, vec_items, Result, sym, ap, ◌∙◌, subst, arith}
use Rattle.std.specs.List.{between}
use Rattle.std.proofs.lemmas.List.{take-take, take_at, drop_at}
use Rattle.std.proofs.lemmas.Slice.{between_is}
use Rattle.std.proofs.lemmas.Bool.{true≢false}
use Rattle.claims.specs.Claims.{Question}
use Rattle.claims.specs.Words.{words, Limits, Reads, OneQuestion}
use Rattle.memory.specs.Marks.{memory_words}
use Rattle.models.specs.Follows.{DoesFollow, Against}
use Rattle.entails.specs.Deciding.{Asked, Does, Shown, NotShown, Answer, DecidedPost}
use Rattle.entails.specs.declared.deciding.Decided.{Decided}
use Rattle.entails.specs.declared.deciding.Decided.TheVariants.{Follows, Fails, OutFull, NoClaims, Few}
use Rattle.answers.specs.Answering.{Refutes}
use Rattle.answers.specs.declared.instances.Instance.{Instance}

-- what is so of the question that the words are, is so of q, if they are its words
asked_is : (q : Question) (s : List ℕ) (P : Question → Type 0) → Reads s q → OneQuestion → Asked s P → P q
asked_is q s P reads one a = subst P (one s a.question q a.reads reads) a.so

-- the names and the memory of an instance stand in p, one behind the other
pub refuting :
    (q : Question) (o p : List ℕ) (k j : ℕ) (i : Instance) → Shown q o p k → j ≡ q.names → vec_items i.names ≡ between 0 j p →
    vec_items i.memory ≡ between j (j + 2 * k) p → Refutes q i
refuting q o p k j i h is names memory =
    let far = j + 2 * k in
    let n = h.names in
    let t = memory_words h.memory in
    let long : length n ≡ j = h.against.names ∙ sym is in
    let told : take far p ≡ n ++ t = ap (λ a. take (a + 2 * k) p) is ∙ h.told in
    let front : between 0 j p ≡ n = between_is p 0 j ∙ sym (take-take j far p (omega arith)) ∙ ap (take j) told ∙ take_at n t j long in
    let back : between j far p ≡ t = between_is p j far ∙ ap (drop j) told ∙ drop_at n t j long in
    record {
      memory = h.memory;
      words = memory ∙ back;
      against = subst (λ u. Against q.names q.first q.second u h.memory) (sym (names ∙ front)) h.against;
      few = rw h.count h.few;
    }

pub no_memory : {X Y : Type 0} (r : Result X Y) (P : X → Type 0) → is_err r ≡ true → IfOk r P
no_memory (Ok x) P e = absurd (true≢false (sym e))
no_memory (Err y) P e = tt

module _ (q : Question) (limits : Limits q) (s o p : List ℕ) (w : ℕ) (r : Decided) (is : s ≡ words q) (post : DecidedPost s w o p r) where
  reads : Reads s q
  reads = record { is = sym is; limits = limits }

  so : (P : Question → Type 0) → Asked s P → P q
  so P a = asked_is q s P reads post.theorems.one_question a

  answers : (a : Decided) → r ≡ a → Answer s o p a
  answers a e = subst (Answer s o p) e post.answer

  pub does_follow : r ≡ Follows → DoesFollow q.first q.second
  does_follow e = (so (Does o p) (answers Follows e)).follows

  pub shown : (k : ℕ) → r ≡ Fails k → Shown q o p k
  shown k e = so (λ u. Shown u o p k) (answers (Fails k) e)

  pub never_full : 320 ≤ length o → r ≡ OutFull → ⊥
  never_full room e =
      let h = so (λ u. NotShown u o p) (answers OutFull e) in
      omega (arith, h.short, room, limits.few_names, limits.first_fits.few_atoms)

  pub never_none : r ≡ NoClaims → ⊥
  never_none e = (answers NoClaims e).none q reads

  pub never_few : 65536 ≤ w → r ≡ Few → ⊥
  never_few enough e = let h = post.few.1 e in omega (arith, h, enough)
