-- `bulk::extending::take_all` meets its contract: it is stopped by the examination or by the first entry that the test refuses, or every entry is pushed.
use Rattle.std.proofs.Common.{arith, refl, ◌≡◌}
use Rattle.std.proofs.lemmas.Result.{err_from_is_err_and}
use Rattle.pool.specs.Codes.{told}
use Rattle.pool.specs.Examine.{examined}
use Rattle.pool.specs.Lent.{world_in}
use Rattle.pool.proofs.Fine.{whole_ready}
use Rattle.bulk.proofs.CodeSteps.{at_place_told, pool_refused, pool_sound, entry_refused, all_pushed}
use Rattle.bulk.proofs.extending.take_all.Goals as goal

pub returns-in_err-at_place-clause-gives : goal.returns-in_err-at_place-clause-gives
returns-in_err-at_place-clause-gives g c =
    let p = err_from_is_err_and c.from_residual.result c.from_residual.ensures.1 in
    let x : told c.examine.result ≡ examined (world_in c.args.engine.now.state c.args.pool.now) = cc in
    rw (p.1, p.2) (pool_refused _ _ _ _ (at_place_told 0 _ _ _ c.in_err-at_place.ensures x))

pub overflow_cast-free : goal.overflow_cast-free
overflow_cast-free g c =
    let x : told c.examine.result ≡ examined (world_in c.args.engine.now.state c.args.pool.now) = cc in
    let h = pool_sound (world_in c.args.engine.now.state c.args.pool.now) _ _ c.in_ok-at_place.ensures x c.requires in
    omega (arith, (whole_ready h).fine.small)

pub overflow_sub-free : goal.overflow_sub-free
overflow_sub-free g c =
    let x : told c.examine.result ≡ examined (world_in c.args.engine.now.state c.args.pool.now) = cc in
    let h = pool_sound (world_in c.args.engine.now.state c.args.pool.now) _ _ c.in_ok-at_place.ensures x c.requires in
    omega (arith, (whole_ready h).counted)

pub returns-in_err-test_each-clause-gives : goal.returns-in_err-test_each-clause-gives
returns-in_err-test_each-clause-gives g c =
    let x : told c.examine.result ≡ examined (world_in c.args.engine.now.state c.args.pool.now) = cc in
    let h = pool_sound (world_in c.args.engine.now.state c.args.pool.now) _ _ c.in_ok-at_place.ensures x c.requires in
    let r = c.from_residual-in_err-test_each in
    let p = err_from_is_err_and r.result r.ensures.1 in
    rw (p.1, p.2) (entry_refused _ _ h refl _ _ c.in_err-test_each.ensures)

pub push_each-requires : goal.push_each-requires
push_each-requires g c =
    let x : told c.examine.result ≡ examined (world_in c.args.engine.now.state c.args.pool.now) = cc in
    pool_sound _ _ _ c.in_ok-at_place.ensures x c.requires

pub returns-clause-gives : goal.returns-clause-gives
returns-clause-gives g c =
    let x : told c.examine.result ≡ examined (world_in c.args.engine.now.state c.args.pool.now) = cc in
    let h = pool_sound (world_in c.args.engine.now.state c.args.pool.now) _ _ c.in_ok-at_place.ensures x c.requires in
    all_pushed _ _ h refl _ c.in_ok-test_each.ensures c.push_each.ensures.gives
