-- `pool::summary::first_busy` meets its contract: each way out of the loop, and each turn of it.
use Rattle.std.proofs.Common.{sym, ◌∙◌}
use Rattle.pool.proofs.CodeMarks.{low_start, low_on, low_stop, low_end, set_start, set_on, set_stop, set_end}
use Rattle.pool.proofs.summary.first_busy.Goals as goal

pub loop-j-init : goal.loop-j-init
loop-j-init c = (low_start _, set_start _)

pub returns-then-word-ne0-clause-number : goal.returns-then-word-ne0-clause-number
returns-then-word-ne0-clause-number c = sym (c.loop-j.invariant.0 ∙ low_stop _ _ c.loop-j-test.true c.if-word-ne0.true)

pub returns-then-word-ne0-clause-found : goal.returns-then-word-ne0-clause-found
returns-then-word-ne0-clause-found c = sym (c.loop-j.invariant.1 ∙ set_stop _ _ c.loop-j-test.true c.if-word-ne0.true)

pub loop-j-preserved : goal.loop-j-preserved
loop-j-preserved c =
    let l = c.loop-j-test.true in
    let z = c.if-word-ne0.false in
    (c.loop-j.invariant.0 ∙ low_on _ _ l z, c.loop-j.invariant.1 ∙ set_on _ _ l z)

pub returns-clause-number : goal.returns-clause-number
returns-clause-number c = sym (c.loop-j.invariant.0 ∙ low_end _ _ c.loop-j-test.false)

pub returns-clause-found : goal.returns-clause-found
returns-clause-found c = sym (c.loop-j.invariant.1 ∙ set_end _ _ c.loop-j-test.false)
