-- `bulk::extending::test_each` meets its contract. The loop's invariant: the test of all entries is that of those from here on.
use Rattle.std.proofs.Common.{arith}
use Rattle.std.proofs.lemmas.Result.{err_from_is_err_and}
use Rattle.engine.proofs.CodePush.{code_free}
use Rattle.bulk.proofs.CodeSteps.{at_place_told, found_none, test_end, test_passed, test_refused}
use Rattle.bulk.proofs.extending.test_each.Goals as goal

pub returns-in_err-at_place : goal.returns-in_err-at_place
returns-in_err-at_place g c =
    let l = c.loop-place in
    let p = err_from_is_err_and c.from_residual.result c.from_residual.ensures.1 in
    let told = at_place_told l.place _ _ _ c.in_err-at_place.ensures c.test_push.ensures in
    rw (p.1, p.2) (test_refused _ l.place _ _ l.invariant c.entry-entry.ensures (omega arith) _ _ told)

pub overflow_sub-left : goal.overflow_sub-left
overflow_sub-left g c =
    let told = at_place_told c.loop-place.place _ _ _ c.in_ok-at_place.ensures c.test_push.ensures in
    code_free _ _ _ _ (found_none _ _ _ told)

pub loop-place-preserved : goal.loop-place-preserved
loop-place-preserved g c =
    let l = c.loop-place in
    let told = at_place_told l.place _ _ _ c.in_ok-at_place.ensures c.test_push.ensures in
    test_passed _ l.place _ _ l.invariant c.entry-entry.ensures (omega arith) (found_none _ _ _ told)

pub returns : goal.returns
returns g c = let l = c.loop-place in test_end _ l.place _ _ l.invariant _ (omega arith)
