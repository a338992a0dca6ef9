-- What the loop of `pool::walking::walk` keeps: what is left of the walk gives what the whole walk gives. The measure is what is left of
-- the budget.
use Rattle.std.proofs.Common.{◌&&◌, ltb, length}
use Rattle.pool.proofs.CodeExam.{Turn}
use Rattle.pool.proofs.walking.walk.Given as goal

abbrev pub invariant-loop-at : goal.invariant-loop-at
invariant-loop-at g l = Turn (λ p s. ltb s (length l.next) && g.T.Standing.stands l.chain p s) l.next l.end l.budget l.start l.left l.before l.at

abbrev pub decreases-loop-at : goal.decreases-loop-at
decreases-loop-at g l = l.left
