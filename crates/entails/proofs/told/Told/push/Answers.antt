use Rattle.std.proofs.Common.{arith}
use Rattle.entails.proofs.Writing.{told_push}
use Rattle.entails.proofs.told.Told.push.Goals as goal

pub returns-clause-cell : goal.returns-clause-cell
returns-clause-cell c =
    let t = c.args.self.now in
    told_push t.cells t.count c.args.place c.args.leads (omega (arith, t.room))
