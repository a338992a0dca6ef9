-- `engine::running::Engine::test_push` meets its contract: each way out gives the code of `push_code` under the tests so far.
use mathlib.Core.Path.{◌≡◌, sym, ap, ◌∙◌}
use mathlib.Core.Bool.{Bool}
use Prim.Native.Nat.{ℕ}
use lib.Dec.{ltb}
use Rattle.std.proofs.lemmas.Result.{err_from_is_err_and}
use Rattle.keys.specs.Ordered.{ordered}
use Rattle.keys.specs.declared.kind.Kind.{Kind}
use Rattle.pool.specs.declared.state.Head.{Head}
use Rattle.pool.specs.World.{top_of}
use Rattle.pool.specs.Codes.{told, refusal_code}
use Rattle.engine.specs.Outcome.{key_code}
use Rattle.pool.proofs.Refusals.{refusal_some}
use Rattle.engine.proofs.CodePush.{within_top, within_none, code_key, code_above, code_full, code_done}
use Rattle.engine.proofs.running.Engine.test_push.Goals.{else-head-via-then-head+else-above, else-head-via-else-head}
use Rattle.engine.proofs.running.Engine.test_push.Goals as goal

-- the code of the key is that in the head's kind
as_head : {n : ℕ} {k : Kind} (h : Head) (a b : ℕ) → n ≡ key_code k a b → k ≡ h.kind → n ≡ key_code h.kind a b
as_head h a b e s = e ∙ ap (λ (k : Kind). key_code k a b) s

-- the test against the top is that in the head's kind, with its words
as_top : {r : Bool} {k : Kind} {t u : ℕ} (h : Head) (a b : ℕ) → r ≡ ltb (ordered k t u) (ordered k a b) → k ≡ h.kind → t ≡ h.top0 → u ≡ h.top1 → ltb (top_of h) (ordered h.kind a b) ≡ r
as_top h a b e s p q = rw (e, s, p, q)

pub returns-in_err-test_key : goal.returns-in_err-test_key
unfolding told
returns-in_err-test_key c =
    let p = err_from_is_err_and c.from_residual.result c.from_residual.ensures.1 in
    rw (p.1, p.2) (code_key _ _ _ _ _ (as_head c.args.self.now.state.head _ _ c.in_err-test_key.ensures c.args.self.now.kinds) (refusal_some _))

pub returns-then-above : goal.returns-then-above
unfolding told refusal_code
returns-then-above c =
    let k = c.args.self.now.kinds in
    let h = c.args.self.now.state.head in
    code_above _ _ _ _ (sym (as_head h _ _ c.in_ok-test_key.ensures k)) c.if-head.true
    (as_top h _ _ c.above.ensures k c.top_words.ensures.first c.top_words.ensures.second ∙ c.if-above.true)

pub returns-then-free-eq0 : goal.returns-then-free-eq0
unfolding told refusal_code
returns-then-free-eq0 c =
    let k = c.args.self.now.kinds in
    let h = c.args.self.now.state.head in
    code_full _ _ _ _ (sym (as_head h _ _ c.in_ok-test_key.ensures k))
    (elim c.else-head.branch [
      | else-head-via-then-head+else-above w ↦ within_top _ _ _ w.if-head.true (as_top h _ _ w.above.ensures k w.top_words.ensures.first w.top_words.ensures.second ∙ w.if-above.false)
      | else-head-via-else-head w ↦ within_none _ _ _ w.if-head.false
    ])
    c.if-free-eq0.true

pub returns : goal.returns
unfolding told
returns c =
    let k = c.args.self.now.kinds in
    let h = c.args.self.now.state.head in
    code_done _ _ _ _ (sym (as_head h _ _ c.in_ok-test_key.ensures k))
    (elim c.else-head.branch [
      | else-head-via-then-head+else-above w ↦ within_top _ _ _ w.if-head.true (as_top h _ _ w.above.ensures k w.top_words.ensures.first w.top_words.ensures.second ∙ w.if-above.false)
      | else-head-via-else-head w ↦ within_none _ _ _ w.if-head.false
    ])
    c.if-free-eq0.false
