-- The theorems that the checking call's contract names: a claim is precise, rows join, and words ask one thing.
use Rattle.std.proofs.Common.{◌≡◌, [], ◌++◌, sym, ap, ◌∙◌, ⊎_elim}
use Rattle.claims.specs.Words.{claim_words}
use Rattle.claims.proofs.ClaimWords.{claim_one}
use Rattle.memory.specs.Marks.{memory_of}
use Rattle.memory.specs.Laws.{Precise, RowsJoin}
use Rattle.memory.specs.Checking.{OneAsked}
use Rattle.memory.proofs.Rows.{row_nowhere, row_join}
use Rattle.memory.proofs.Dealt.{says_same}
use Rattle.memory.proofs.Marking.{memory_words_of}

pub precise : Precise
precise n claim m a b e f s t u v w = says_same t u s v w

pub rows_join : RowsJoin
rows_join p q r m a b s t v w end = row_join t v w (⊎_elim (λ z. rw z (row_nowhere v)) (λ h. h) end)

pub one_asked : OneAsked
one_asked s n t k j c d m o x y =
    let same = sym x.claim_is.words ∙ y.claim_is.words in
    let same_names : k ≡ j = cc in
    let same-words : claim_words c ≡ claim_words d = cc in
    let same_memory = sym (memory_words_of m) ∙ ap memory_of (x.memory_is ∙ sym y.memory_is) ∙ memory_words_of o in
    (same_names, (claim_one c d [] [] (ap (λ l. l ++ []) same-words)).0, same_memory)
