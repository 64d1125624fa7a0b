use Rattle.std.proofs.Common.{◌≡◌, refl, rules}
use Rattle.std.proofs.lemmas.Fn.{serves_by}
use Rattle.naive.proofs.dealing.+deal+fn-deal-any.Goals as goal

pub any-requires-clause-callable : goal.any-requires-clause-callable
any-requires-clause-callable t c = serves_by _ (λ _ q. q.4 ≡ c.in-Some.rest) (λ xs q x v e r. search rules) _ _ _ _ refl (λ xs u q x w ys e. search rules)
