-- What the loop of `pool::examination::FitPool::walk_all` keeps: what is left of the scan gives what the whole scan gives, and the words seen are
-- those of the chains walked.
use Rattle.pool.specs.World.{free_chain}
use Rattle.pool.specs.Lent.{links_at}
use Rattle.pool.proofs.CodeExam.{Scan}
use Rattle.pool.proofs.examination.FitPool.walk_all.Given as goal

abbrev pub invariant-loop-c : goal.invariant-loop-c
invariant-loop-c l = let p = l.self in Scan p.state.now.head (links_at p.state.now p.view.next.now p.view.back.now) p.view.keys.now free_chain l.left l.c l.seen
