-- `pool::walking::walk` meets its contract, whatever the test of the chain: each way out of the loop, and each turn of it.
use Rattle.std.proofs.Common.{sym, ◌∙◌, ◌-◌, arith, rules, length}
use Rattle.pool.specs.Walk.{left_over}
use Rattle.pool.proofs.CodeExam.{step_out, step_in, turn_again, turn_refused, turn_spent, turn_astray, turn_ends}
use Rattle.pool.proofs.walking.walk.Goals.{then-left-eq0-via-then-left-eq0, then-left-eq0-via-else-left-eq0+then-next-slot, then-left-eq0-via-else-left-eq0+else-next-slot+then-not-may_stand}
use Rattle.pool.proofs.walking.walk.Goals as goal

pub returns-then-left-eq0 : goal.returns-then-left-eq0
unfolding left_over
returns-then-left-eq0 g c =
    let l = c.loop-at in
    let stands = g.T.Standing.stands c.args.chain.now in
    let n = length c.args.next.now in
    elim c.then-left-eq0.branch [
      | then-left-eq0-via-then-left-eq0 w ↦ sym (turn_spent l.invariant w.if-left-eq0.true c.loop-at-test.true)
      | then-left-eq0-via-else-left-eq0+then-next-slot w ↦
          sym (turn_refused l.invariant (omega (arith, w.if-left-eq0.false)) c.loop-at-test.true (step_out stands n l.before (l.at - 1) w.if-next-slot.true))
      | then-left-eq0-via-else-left-eq0+else-next-slot+then-not-may_stand w ↦
          sym
          (turn_refused l.invariant (omega (arith, w.if-left-eq0.false)) c.loop-at-test.true
          (step_in stands n l.before (l.at - 1) w.if-next-slot.false w.may_stand.ensures ∙ w.if-not-may_stand.true))
    ]

pub loop-at-preserved : goal.loop-at-preserved
loop-at-preserved g c =
    let l = c.loop-at in
    turn_again l.invariant (omega (arith, c.if-left-eq0.false)) c.loop-at-test.true
    (step_in (g.T.Standing.stands c.args.chain.now) (length c.args.next.now) l.before (l.at - 1) c.if-next-slot.false c.may_stand.ensures ∙ c.if-not-may_stand.false)
    (search rules)

pub returns-then-before-end : goal.returns-then-before-end
unfolding left_over
returns-then-before-end g c = sym (turn_ends c.loop-at.invariant c.loop-at-test.false c.if-before-end.true)

pub returns-else-before-end : goal.returns-else-before-end
unfolding left_over
returns-else-before-end g c = sym (turn_astray c.loop-at.invariant c.loop-at-test.false c.if-before-end.false)
