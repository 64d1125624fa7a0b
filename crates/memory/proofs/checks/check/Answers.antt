use Rattle.std.proofs.Common.{◌≡◌, rules, ◌-◌, ◌/◌, length, Ok, Err, T, sym, refl, ◌∙◌, subst, arith}
use Rattle.std.proofs.lemmas.Bool.{false≢true}
use Rattle.claims.specs.Decoding.{decoded_claim}
use Rattle.claims.specs.Memory.{sound}
use Rattle.memory.specs.Checking.{Room}
use Rattle.memory.specs.Judging.{Judged}
use Rattle.memory.specs.Marks.{memory_of}
use Rattle.memory.specs.declared.checks.Refusal.TheVariants.{NoClaim, NoMemory, TooLarge, Few}
use Rattle.memory.proofs.Asking.{NotAsked, other_names, odd_words, unsound, not_asked, asked_judged, put_back, post}
use Rattle.memory.proofs.checks.check.Goals as goal
use Rattle.memory.proofs.checks.check.Goals.{then-names-from-via-then-names-from, then-names-from-via-else-names-from+then-memory-ne0}

pub returns-then-work-cells : goal.returns-then-work-cells
returns-then-work-cells c =
    post c.args.claim.now c.args.names.now c.args.memory.now c.args.work.now c.args.work.now (Err Few) (omega arith) refl

pub returns-then-cells-gt-MOST_CELLS : goal.returns-then-cells-gt-MOST_CELLS
returns-then-cells-gt-MOST_CELLS c =
    post c.args.claim.now c.args.names.now c.args.memory.now c.args.work.now c.args.work.now (Err TooLarge) (record { enough = omega arith; many = omega arith }) refl

pub returns-in_err-count : goal.returns-in_err-count
returns-in_err-count c =
    let room : Room c.args.memory.now c.args.work.now = record { enough = omega arith; small = omega arith } in
    let none = c.in_err-count.ensures.ok_part in
    let value = rw none at c.in_err-count.ensures.value in
    let same : NoClaim ≡ c.in_err-count.field-0.0 = cc value in
    let answer = post c.args.claim.now c.args.names.now c.args.memory.now c.args.work.now c.args.work.now (Err NoClaim) (record { room = room; none = rw none at c.whole_claim.ensures }) refl in
    let passed : c.from_residual.result ≡ Err c.in_err-count.field-0.0 = search rules in
    rw passed (rw (← same) answer)

pub returns-then-names-from : goal.returns-then-names-from
returns-then-names-from c =
    let s = c.args.claim.now in
    let n = c.args.names.now in
    let t = c.args.memory.now in
    let room : Room t c.args.work.now = record { enough = omega arith; small = omega arith } in
    let is = rw c.in_ok-count.ensures.ok_part at c.whole_claim.ensures in
    let k = c.in_ok-count.count in
    let d = decoded_claim c.in_ok-count.claim in
    let why : NotAsked k n t =
    elim c.then-names-from.branch [
      | then-names-from-via-then-names-from w ↦ other_names (λ e. w.if-names-from.true (e ∙ sym c.from.ensures))
      | then-names-from-via-else-names-from+then-memory-ne0 w ↦ odd_words w.if-memory-ne0.true
    ] in
    post s n t c.args.work.now c.args.work.now (Err NoMemory) (record { room = room; names = k; claim = d; claim_is = is; none = λ j e m h. not_asked s n t k j d e m is why h }) refl

pub returns-in_err-memory : goal.returns-in_err-memory
returns-in_err-memory c =
    let s = c.args.claim.now in
    let n = c.args.names.now in
    let t = c.args.memory.now in
    let room : Room t c.args.work.now = record { enough = omega arith; small = omega arith } in
    let is = rw c.in_ok-count.ensures.ok_part at c.whole_claim.ensures in
    let k = c.in_ok-count.count in
    let d = decoded_claim c.in_ok-count.claim in
    let none = c.in_err-memory.ensures.ok_part in
    let value = rw none at c.in_err-memory.ensures.value in
    let same : NoMemory ≡ c.in_err-memory.field-0.0 = cc value in
    let why : NotAsked k n t = unsound (λ h. false≢true ((rw none at c.of.ensures.sound).1 h)) in
    let answer = post s n t c.args.work.now c.args.work.now (Err NoMemory) (record { room = room; names = k; claim = d; claim_is = is; none = λ j e m h. not_asked s n t k j d e m is why h }) refl in
    let passed : c.from_residual-in_err-memory.result ≡ Err c.in_err-memory.field-0.0 = search rules in
    rw passed (rw (← same) answer)

pub returns : goal.returns
returns c =
    let s = c.args.claim.now in
    let n = c.args.names.now in
    let t = c.args.memory.now in
    let w = c.args.work.now in
    let mid = length w - length t / 2 in
    let m = c.in_ok-memory.memory in
    let room : Room t w = record { enough = omega arith; small = omega arith } in
    let is = rw c.in_ok-count.ensures.ok_part at c.whole_claim.ensures in
    let k = c.in_ok-count.count in
    let d = decoded_claim c.in_ok-count.claim in
    let same : m.words.now ≡ t = rw c.in_ok-memory.ensures.ok_part at c.of.ensures.same in
    let is_sound = subst (λ u. T (sound (memory_of u))) same m.sound in
    let judged = subst (λ u. Judged n (memory_of u) d c.judge.result) same c.judge.ensures.judged in
    post s n t w _ (Ok c.judge.result)
    (asked_judged s n t w k d c.judge.result room is (c.if-names-from.false ∙ c.from.ensures) c.if-memory-ne0.false is_sound judged)
    (put_back w mid (length w - mid) c.judge.new.marks c.judge.ensures.unchanged)
