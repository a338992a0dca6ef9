-- `heap::reading::len` meets its contract: it is stopped by the examination, or it reads the length. Assumes nothing.
use Rattle.std.proofs.lemmas.Result.{err_from_is_err_and}
use Rattle.engine.specs.Answers.{len_answered}
use Rattle.heap.specs.Calls.{len, len_read}
use Rattle.heap.proofs.CodeChecked.{stops, acts}
use Rattle.heap.proofs.reading.len.Goals as goal

pub returns-in_err-examine : goal.returns-in_err-examine
unfolding len_read len_answered
returns-in_err-examine c =
    let p = err_from_is_err_and c.from_residual.result c.from_residual.ensures.1 in
    rw (p.1, p.2) (stops _ _ c.in_err-examine.ensures _)

pub returns : goal.returns
unfolding len len_read len_answered
returns c = acts _ _ c.in_ok-examine.ensures _
