use Rattle.std.proofs.Common.{arith}
use Rattle.claims.proofs.Threes.{threes_stop, threes_rest}
use Rattle.claims.proofs.Putting.{put_more}
use Rattle.claims.proofs.decoding.read_parts.Goals as goal

pub returns-then-words-ne0 : goal.returns-then-words-ne0
returns-then-words-ne0 g c xs e a =
    threes_rest g.P.Part.words_of (g.P.Part.Below c.args.names) g.met.P.Part.three c.args.words.now c.if-words-ne0.true xs e

pub returns-in_err-parts : goal.returns-in_err-parts
returns-in_err-parts g c =
    rw c.from_residual.ensures
    (threes_stop g.P.Part.words_of (g.P.Part.Below c.args.names) g.met.P.Part.three c.args.words.now c.loop-i.i c.loop-i-test.true c.in_err-parts.ensures)

pub loop-i-preserved : goal.loop-i-preserved
loop-i-preserved g c =
    let r = c.in_ok-parts.ensures in
    put_more g.P.Part.words_of (g.P.Part.Below c.args.names) g.P.Part.meaning g.row.N c.args.words.now c.loop-i.i c.loop-i.parts c.in_ok-parts.field-0 (omega arith) r.1 r.0 c.loop-i.invariant
