-- `pool::examination::top_is_plain` meets its contract: each way out, by the tests that led there.
use Rattle.std.proofs.Common.{refl, ◌∙◌}
use Rattle.pool.proofs.CodeExam.{proper_read, headed_order}
use Rattle.pool.proofs.examination.top_is_plain.Goals as goal

pub returns-then-head : goal.returns-then-head
returns-then-head c =
    let t = c.top_words-top.ensures in
    simp (headed_order, proper_read refl t.first t.second c.is_proper.ensures ∙ c.if-is_proper.true, c.if-head.true)

pub returns-else-head : goal.returns-else-head
returns-else-head c =
    let t = c.top_words-top.ensures in
    simp (headed_order, proper_read refl t.first t.second c.is_proper.ensures ∙ c.if-is_proper.true, c.if-head.false, c.eq.ensures, t.first, t.second, c.from.ensures.0, c.from.ensures.1)

pub returns-else-is_proper : goal.returns-else-is_proper
returns-else-is_proper c =
    let t = c.top_words-top.ensures in
    simp (headed_order, proper_read refl t.first t.second c.is_proper.ensures ∙ c.if-is_proper.false, c.if-is_proper.false)
