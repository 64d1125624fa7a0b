use Rattle.std.proofs.Common.{map, sym, refl, ◌∙◌}
use Rattle.claims.specs.Meaning.{atom_of}
use Rattle.memory.specs.Dealings.{rest}
use Rattle.memory.proofs.Dealing.{deals_none}
use Rattle.memory.proofs.Judgement.{atom_done}
use Rattle.memory.proofs.dealings.Dealing.deal.Goals as goal

pub loop-i-init : goal.loop-i-init
loop-i-init c = record { memory = refl; deals = deals_none c.args.names.now (rest c.args.self.now) (map atom_of c.args.atoms.now) }

pub loop-i-preserved : goal.loop-i-preserved
loop-i-preserved c =
    record {
      memory = c.take.ensures.memory ∙ c.loop-i.invariant.memory;
      deals =
          atom_done c.args.names.now (rest c.args.self.now) c.args.atoms.now c.loop-i.i-counter (rest c.loop-i.self) c.loop-i.invariant.deals c.take.result (rest c.take.new.self)
          (sym c.in_ok-map_err.ensures.variant) c.loop-i-test.true c.take.ensures.taken;
    }
