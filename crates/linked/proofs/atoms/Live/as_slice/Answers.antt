use Rattle.linked.proofs.Reach.{live_below}
use Rattle.linked.proofs.atoms.Live.as_slice.Goals as goal

pub returns-clause-below : goal.returns-clause-below
returns-clause-below c = live_below c.args.self.now
