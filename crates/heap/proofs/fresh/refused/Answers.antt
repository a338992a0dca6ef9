-- `heap::fresh::refused` meets its contract: the state of a fresh heap with no slots and no kind is all zero. Assumes nothing.
use Rattle.heap.proofs.CodeFresh.{no_slots}
use Rattle.heap.proofs.fresh.refused.Goals as goal

pub returns-clause-state : goal.returns-clause-state
returns-clause-state c = rw (c.fresh_state.ensures, c.bare.ensures) no_slots
