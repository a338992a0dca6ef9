-- `heap::fresh::new` meets its contract: what it gives where the kind and the slices do not fit, and where they do. Assumes nothing.
use Rattle.pool.specs.Codes.{told}
use Rattle.heap.proofs.CodeFresh.{tested_seen, tested_small, tested_pooled, made_unfit, made_fresh}
use Rattle.heap.proofs.fresh.new.Goals as goal

pub returns-then-not-fits-clause-gives : goal.returns-then-not-fits-clause-gives
returns-then-not-fits-clause-gives c =
    let v = c.view.ensures in
    made_unfit _ _ _ _ _ _ _ (tested_seen c.args.kind c.args.pool.now c.view.result v.keys v.values v.next v.back c.fits.ensures c.if-not-fits.true) c.refused.ensures.told c.refused.ensures.state

pub lay_fresh-requires : goal.lay_fresh-requires
lay_fresh-requires c =
    let v = c.view.ensures in
    tested_small c.args.kind c.args.pool.now.keys.now c.args.pool.now.values.now _ c.args.pool.now.back.now (tested_seen c.args.kind c.args.pool.now c.view.result v.keys v.values v.next v.back c.fits.ensures c.if-not-fits.false)

pub returns-clause-gives : goal.returns-clause-gives
unfolding told
returns-clause-gives c =
    let v = c.view.ensures in
    made_fresh _ _ _ _ _ _ (tested_seen c.args.kind c.args.pool.now c.view.result v.keys v.values v.next v.back c.fits.ensures c.if-not-fits.false) (c.lay_fresh.ensures.fresh (tested_pooled _ _ _ _ _ (tested_seen c.args.kind c.args.pool.now c.view.result v.keys v.values v.next v.back c.fits.ensures c.if-not-fits.false)))
