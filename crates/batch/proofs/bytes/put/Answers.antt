-- `batch::bytes::put` meets its contract: the part is all written. Assumes nothing.
use native.Mathlib.Omega.{arith}
use borrow.Author.Rules.{rules}
use Rattle.batch.proofs.CodeBytes.{put_is}
use Rattle.batch.proofs.bytes.put.Goals as goal

pub returns : goal.returns
returns g c = put_is _ _ _ _ _ c.copy_from_slice.ensures.after (search rules) (omega arith)
