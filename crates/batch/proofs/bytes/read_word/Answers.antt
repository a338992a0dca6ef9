-- `batch::bytes::read_word` meets its contract: eight bytes, each weighed, are `number 8`. Assumes nothing.
use Rattle.batch.proofs.CodeBytes.{word_is}
use Rattle.batch.proofs.bytes.read_word.Goals as goal

pub returns : goal.returns
returns c = word_is _ _ c.from_le_bytes.ensures c.copy_from_slice.ensures.after
