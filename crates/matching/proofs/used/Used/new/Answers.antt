use lib.ListN.{get_or-replicate}
use Rattle.std.proofs.Common.{false}
use Rattle.matching.proofs.used.Used.new.Goals as goal

pub returns : goal.returns
returns c i h = get_or-replicate 64 i false false h
