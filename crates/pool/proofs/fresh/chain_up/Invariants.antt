-- `fresh::chain_up` meets its contract. At the loop's head the links before `at` are those of the fresh free chain.
use lib.ListN.{length}
use Rattle.pool.proofs.CodeFresh.{Chained}
use Rattle.pool.proofs.fresh.chain_up.Given as goal

abbrev pub invariant-loop-at : goal.invariant-loop-at
invariant-loop-at l = Chained (length l.initial.next) l.next l.at
