-- `batch::records::read` meets its contract: byte 0 and the seven after it are the first word's. Assumes nothing.
use Rattle.batch.proofs.CodeBytes.{record_is}
use Rattle.batch.proofs.records.read.Goals as goal

pub returns : goal.returns
returns c =
    let x = c.args in
    record_is x.bytes.now x.at (c.type_inv.bytes x.at).fits c.read_word-head.ensures c.read_word.ensures c.read_word-2.ensures c.read_word-3.ensures
