use Rattle.memory.proofs.Placing.{at_none, at_some}
use Rattle.memory.proofs.cells.SoundMemory.find.Goals as goal

pub returns-in_err-i-clause-at : goal.returns-in_err-i-clause-at
returns-in_err-i-clause-at c =
    rw c.from_residual.ensures (at_none c.args.self.words.now c.args.place.0 c.as_chunks.result.0.now c.as_chunks.ensures.front c.in_err-i.ensures)

pub returns-clause-at : goal.returns-clause-at
returns-clause-at c =
    at_some c.args.self.words.now c.args.place.0 c.as_chunks.result.0.now c.as_chunks.ensures.front c.in_ok-i.i c.in_ok-i.ensures
