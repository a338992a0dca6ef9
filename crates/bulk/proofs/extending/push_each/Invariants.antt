-- `bulk::extending::push_each` meets its contract. The loop's invariant: the pool is sound, and the pushes of all entries are those of the entries from here on.
use Rattle.std.proofs.Common.{◌≡◌, drop}
use Rattle.pool.specs.Lent.{SamePool, world_in}
use Rattle.pool.specs.Sound.{Whole}
use Rattle.bulk.specs.Core.{push_all}
use Rattle.bulk.proofs.extending.push_each.Given as goal

abbrev pub invariant-loop-place : goal.invariant-loop-place
invariant-loop-place g l =
    let es = g.E.Entries.entries l.entries in
    record {
      whole : Whole (world_in l.engine.state l.pool);
      lent : SamePool l.pool l.initial.pool;
      same : push_all (world_in l.initial.engine.state l.initial.pool) es ≡ push_all (world_in l.engine.state l.pool) (drop l.place es);
    }
