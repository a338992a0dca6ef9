-- `Wide`'s `count` meets its contract: the shortest of the three lengths.
use Rattle.std.proofs.Common.{arith}
use Rattle.bulk.proofs.CodeWide.{count_is}
use Rattle.bulk.proofs.entries.WideEntries.count.Goals as goal

pub returns : goal.returns
returns c = let w = c.args.self.now in omega (arith, count_is w.keys0.now w.keys1.now w.values.now)
