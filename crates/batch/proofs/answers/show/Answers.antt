-- `batch::answers::show` meets its contract: each field is written at its place. Assumes nothing.
use Rattle.batch.proofs.CodeBytes.{show_is}
use Rattle.batch.proofs.answers.show.Goals as goal

pub returns : goal.returns
returns c =
    show_is _ _ _ _ c.requires c.unwrap_or-key.ensures c.is_some.ensures c.from.ensures
    c.to_le_bytes.ensures c.to_le_bytes-2.ensures c.to_le_bytes-3.ensures c.to_le_bytes-4.ensures c.to_le_bytes-5.ensures
    c.put.ensures c.put-2.ensures c.put-3.ensures c.put-4.ensures c.put-5.ensures c.put-6.ensures c.put-7.ensures
