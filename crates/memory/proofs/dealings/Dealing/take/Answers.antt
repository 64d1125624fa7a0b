use Rattle.std.proofs.Common.{ap}
use Rattle.claims.specs.Meaning.{atom_of}
use Rattle.memory.specs.Dealings.{rest}
use Rattle.memory.proofs.Walking.{cell_taken, row_taken}
use Rattle.memory.proofs.dealings.Dealing.take.Goals as goal

pub returns-in-Cell-clause-taken : goal.returns-in-Cell-clause-taken
returns-in-Cell-clause-taken c =
    cell_taken c.args.names.now (atom_of c.args.atom) c.in-Cell.x.0 c.in-Cell.y.0 c.at.result.0 c.at-in-Cell.result.0 (rest c.args.self.now) (rest c.take_cell.new.self) c.at.ensures c.at-in-Cell.ensures (ap atom_of c.in-Cell.is) c.take_cell.result c.take_cell.ensures.taken

pub returns-in-Row-clause-taken : goal.returns-in-Row-clause-taken
returns-in-Row-clause-taken c =
    row_taken c.args.names.now (atom_of c.args.atom) c.in-Row.x.0 c.in-Row.y.0 c.at-in-Row.result.0 c.at-in-Row-2.result.0 (rest c.args.self.now) (rest c.take_row.new.self) c.at-in-Row.ensures c.at-in-Row-2.ensures (ap atom_of c.in-Row.is) c.take_row.result c.take_row.ensures.taken
