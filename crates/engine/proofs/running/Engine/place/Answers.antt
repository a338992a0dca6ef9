-- `engine::running::Engine::place` meets its contract: `place_in`, by the test of the top.
use Rattle.engine.proofs.CodePush.{place_top, place_none}
use Rattle.engine.proofs.running.Engine.place.Goals as goal

pub returns-then-head : goal.returns-then-head
returns-then-head c = place_top _ _ _ _ c.if-head.true (rw (c.distance.ensures, c.args.self.now.kinds, c.top_words.ensures.first, c.top_words.ensures.second))

pub returns : goal.returns
returns c = place_none _ _ _ c.if-head.false
