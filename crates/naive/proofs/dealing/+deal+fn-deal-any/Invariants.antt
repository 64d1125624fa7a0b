use Rattle.std.proofs.Common.{◌+◌, ◌*◌, length}
use Rattle.naive.proofs.dealing.+deal+fn-deal-any.Given as goal

abbrev pub decreases-deal : goal.decreases-deal
decreases-deal l = 2 * length l.atoms.now

abbrev pub decreases-any : goal.decreases-any
decreases-any l = 2 * length l.rest.now + 1
