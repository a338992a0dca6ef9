-- `keys::mask::whole_words` meets its contract.
use Rattle.keys.proofs.Ordered.{masked_words}
use Rattle.keys.proofs.mask.whole_words.Goals as goal

pub returns : goal.returns
returns c = masked_words
