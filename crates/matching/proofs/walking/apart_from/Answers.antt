use Rattle.std.proofs.Common.{◌≡◌, ℕ, ◌<◌, true, rules}
use Rattle.std.proofs.iter.runs.Sources.{ranges}
use Rattle.linked.specs.Bits.{bit}
use Rattle.linked.specs.Knowing.{known_other}
use Rattle.linked.specs.Living.{atoms_of}
use Rattle.matching.proofs.Outside.{other_reached}
use Rattle.matching.proofs.walking.apart_from.Goals as goal

pub returns : goal.returns
returns c t =
    let r = c.args.reach.now in
    let k = c.args.known.now in
    let found : (x : ℕ) × (x < 64) × (bit r.names.0 x ≡ true) × (known_other k x c.args.u ≡ true) = search (rules, ranges) in
    other_reached k (atoms_of r.live.now) r.without r.from r.names.0 found.0 c.args.u r.reached found.1 c.requires found.2 found.3
