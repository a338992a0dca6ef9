-- `bulk::extending::test_each` meets its contract. The loop's invariant: the test of all entries is that of those from here on.
use Rattle.std.proofs.Common.{◌≡◌, drop}
use Rattle.bulk.specs.Core.{tested}
use Rattle.bulk.proofs.extending.test_each.Given as goal

abbrev pub invariant-loop-place : goal.invariant-loop-place
invariant-loop-place g l =
    let es = g.E.Entries.entries l.entries in
    tested l.engine.state.head l.free 0 es ≡ tested l.engine.state.head l.left l.place (drop l.place es)
