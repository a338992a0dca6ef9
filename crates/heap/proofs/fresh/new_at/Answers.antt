-- `heap::fresh::new_at` meets its contract: what it gives where the kind and the slices do not fit, where the key is refused, and else. Assumes nothing.
use mathlib.Core.Path.{ap, ◌∙◌}
use Rattle.keys.specs.declared.kind.Kind.{Kind}
use Rattle.pool.specs.Codes.{told}
use Rattle.engine.specs.Outcome.{key_code}
use Rattle.heap.proofs.CodeFresh.{tested_seen, tested_small, tested_pooled, made_at_unfit, made_at_malformed, made_at_fresh}
use Rattle.heap.proofs.fresh.new_at.Goals as goal

pub returns-then-not-fits-clause-gives : goal.returns-then-not-fits-clause-gives
returns-then-not-fits-clause-gives c =
    let v = c.view.ensures in
    made_at_unfit _ _ _ _ _ _ _ _ _ (tested_seen c.args.kind c.args.pool.now c.view.result v.keys v.values v.next v.back c.fits.ensures c.if-not-fits.true) c.refused.ensures.told c.refused.ensures.state

pub returns-in-Err-clause-gives : goal.returns-in-Err-clause-gives
returns-in-Err-clause-gives c =
    let v = c.view.ensures in
    made_at_malformed _ _ _ _ _ _ _ _ c.in-Err.refusal _ (tested_seen c.args.kind c.args.pool.now c.view.result v.keys v.values v.next v.back c.fits.ensures c.if-not-fits.false)
    (c.in-Err.ensures ∙ ap (λ (k : Kind). key_code k c.args.key.first c.args.key.second) c.of.ensures) c.refused-in-Err.ensures.told c.refused-in-Err.ensures.state

pub lay_fresh-requires : goal.lay_fresh-requires
lay_fresh-requires c =
    let v = c.view.ensures in
    tested_small c.args.kind c.args.pool.now.keys.now c.args.pool.now.values.now _ c.args.pool.now.back.now (tested_seen c.args.kind c.args.pool.now c.view.result v.keys v.values v.next v.back c.fits.ensures c.if-not-fits.false)

pub returns-clause-gives : goal.returns-clause-gives
unfolding told
returns-clause-gives c =
    let v = c.view.ensures in
    made_at_fresh _ _ _ _ _ c.args.key _ (tested_seen c.args.kind c.args.pool.now c.view.result v.keys v.values v.next v.back c.fits.ensures c.if-not-fits.false)
    (c.in_default.ensures ∙ ap (λ (k : Kind). key_code k c.args.key.first c.args.key.second) c.of.ensures) (c.lay_fresh.ensures.fresh (tested_pooled _ _ _ _ _ (tested_seen c.args.kind c.args.pool.now c.view.result v.keys v.values v.next v.back c.fits.ensures c.if-not-fits.false)))
