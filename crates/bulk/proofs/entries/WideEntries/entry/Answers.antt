-- `Wide`'s `entry` meets its contract: each of the three slices is at least as long as the list of entries.
use Rattle.std.proofs.Common.{rules, arith}
use Rattle.bulk.proofs.CodeWide.{zipped_within, zipped_at}
use Rattle.bulk.proofs.entries.WideEntries.entry.Goals as goal

pub bounds-self-i : goal.bounds-self-i
bounds-self-i c = let w = c.args.self.now in let l = zipped_within w.keys0.now w.keys1.now w.values.now in omega arith

pub bounds-self-i-2 : goal.bounds-self-i-2
bounds-self-i-2 c = let w = c.args.self.now in let l = zipped_within w.keys0.now w.keys1.now w.values.now in omega arith

pub bounds-self-i-3 : goal.bounds-self-i-3
bounds-self-i-3 c = let w = c.args.self.now in let l = zipped_within w.keys0.now w.keys1.now w.values.now in omega arith

pub returns : goal.returns
returns c = zipped_at _ _ _ _ c.requires

pub offset_bounds-self-i : goal.offset_bounds-self-i
offset_bounds-self-i c = let w = c.args.self.now in let l = zipped_within w.keys0.now w.keys1.now w.values.now in search rules

pub offset_bounds-self-i-2 : goal.offset_bounds-self-i-2
offset_bounds-self-i-2 c = let w = c.args.self.now in let l = zipped_within w.keys0.now w.keys1.now w.values.now in search rules

pub offset_bounds-self-i-3 : goal.offset_bounds-self-i-3
offset_bounds-self-i-3 c = let w = c.args.self.now in let l = zipped_within w.keys0.now w.keys1.now w.values.now in search rules
