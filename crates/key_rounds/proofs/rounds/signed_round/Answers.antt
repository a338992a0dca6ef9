-- `key_rounds::rounds::signed_round` meets its contract, at every word: a number has one word.
use borrow.Author.Rules.{rules}
use Rattle.keys.proofs.Ordered.{one_word_lem}
use Rattle.key_rounds.proofs.rounds.signed_round.Goals as goal

pub returns : goal.returns
returns c = one_word_lem c.from.result.0 (search rules) (search rules) c.from-2.ensures c.from.ensures
