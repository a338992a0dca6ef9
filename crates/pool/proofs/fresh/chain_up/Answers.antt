-- `fresh::chain_up` meets its contract. At the loop's head the links before `at` are those of the fresh free chain.
use native.Mathlib.Omega.{arith}
use Rattle.pool.proofs.CodeFresh.{chained_start, chained_on, chained_last, filled_end}
use Rattle.pool.proofs.fresh.chain_up.Goals as goal
use Rattle.pool.proofs.fresh.chain_up.Goals.{then-at-n, else-at-n}

pub loop-at-init : goal.loop-at-init
loop-at-init c = chained_start c.args.next.now

pub loop-at-preserved : goal.loop-at-preserved
loop-at-preserved c =
    let f = c.loop-at.invariant in
    elim c.if-at-n.branch [ then-at-n w ↦ chained_on _ f (omega arith) (omega (arith, w.next-is)) | else-at-n w ↦ chained_last _ f (omega arith) w.next-is ]

pub returns : goal.returns
returns c = filled_end c.loop-at.invariant (omega arith)
