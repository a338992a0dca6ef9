-- `bulk::extending::push_each` meets its contract. The loop's invariant: the pool is sound, and the pushes of all entries are those of the entries from here on.
use Rattle.std.proofs.Common.{rules, arith}
use Rattle.pool.proofs.Fine.{whole_ready}
use Rattle.bulk.proofs.CodeSteps.{push_turn, push_end, push_stays}
use Rattle.bulk.proofs.extending.push_each.Goals as goal

pub push-requires : goal.push-requires
push-requires g c = whole_ready c.loop-place.invariant.whole

pub loop-place-preserved : goal.loop-place-preserved
loop-place-preserved g c =
    let l = c.loop-place in
    record {
      whole = push_stays l.invariant.whole _ _ _ _ c.push.ensures.gives;
      lent = search rules;
      same = push_turn _ l.place _ l.invariant.same c.entry-entry.ensures (omega arith) _ c.push.ensures.gives;
    }

pub returns-clause-gives : goal.returns-clause-gives
returns-clause-gives g c = let l = c.loop-place in push_end _ l.place _ l.invariant.same (omega arith)
