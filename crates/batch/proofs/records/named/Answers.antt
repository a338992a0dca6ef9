-- `batch::records::named` meets its contract: each arm by its operation. Assumes nothing.
use native.Mathlib.Omega.{arith}
use Rattle.batch.proofs.CodeBytes.{named_push, named_pop, named_constrain, named_clear, named_clear_to, named_top, named_length}
use Rattle.batch.proofs.records.named.Goals as goal

pub returns-in-1 : goal.returns-in-1
returns-in-1 c = named_push _ c.in-1.is

pub returns-in-2 : goal.returns-in-2
returns-in-2 c = named_pop _ c.in-2.is

pub returns-in-3 : goal.returns-in-3
returns-in-3 c = named_constrain _ c.in-3.is

pub returns-in-4 : goal.returns-in-4
returns-in-4 c = named_clear _ c.in-4.is

pub returns-in-5 : goal.returns-in-5
returns-in-5 c = named_clear_to _ c.in-5.is

pub returns-in-6 : goal.returns-in-6
returns-in-6 c = named_top _ c.in-6.is

pub returns-in_default : goal.returns-in_default
returns-in_default c = named_length _ (λ k a b e. omega arith)
