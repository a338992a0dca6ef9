-- What the loop of `pool::first_busy` keeps: the lowest bit of all words is the lowest from word `j` on, and a bit is set exactly if one is set from there on.
use Rattle.std.proofs.Common.{◌≡◌, ◌-◌}
use Rattle.pool.specs.Marks.{lowest_from, lowest, any_set_from, any_set}
use Rattle.pool.proofs.summary.first_busy.Given as goal

abbrev pub invariant-loop-j : goal.invariant-loop-j
invariant-loop-j l = (lowest l.busy ≡ lowest_from (3 - l.j) l.busy l.j) × (any_set l.busy ≡ any_set_from (3 - l.j) l.busy l.j)
