-- `pool::examination::FitPool::walk_all` meets its contract: each way out of the loop, and each turn of it.
use borrow.Author.Rules.{rules}
use Rattle.std.proofs.Common.{◌≡◌, ◌≢◌, ◌⊎◌, inl, inr, Bool, true, suc, get_or, sym, ap, ◌∙◌}
use Rattle.pool.specs.Lent.{links_at}
use Rattle.pool.specs.World.{Links}
use Rattle.pool.specs.Marks.{marked}
use Rattle.pool.specs.Walk.{left_over}
use Rattle.pool.specs.Examine.{gate, apart}
use Rattle.pool.proofs.CodeExam.{apart_none, apart_other, scan_start, scan_refused, scan_shared, scan_again, scanned_refused, scanned_over}
use Rattle.pool.proofs.examination.FitPool.walk_all.Goals.{then-end-ne0+else-end-self, else-end-ne0}
use Rattle.pool.proofs.examination.FitPool.walk_all.Goals as goal

pub loop-c-init : goal.loop-c-init
loop-c-init c = scan_start _ _ _ _ (search rules)

pub returns-then-end-self : goal.returns-then-end-self
unfolding left_over
returns-then-end-self c = sym (scanned_refused _ _ _ (scan_shared c.loop-c.invariant c.loop-c-test.true c.if-end-ne0.true c.if-end-self.true))

pub returns-in_err-left : goal.returns-in_err-left
unfolding left_over
returns-in_err-left c =
    ap left_over c.from_residual.ensures ∙ sym (scanned_refused _ _ _ (scan_refused c.loop-c.invariant c.loop-c-test.true c.in_err-left.ensures))

-- where the branch's arms meet: the chain does not end where the free chain ends, and its bit was set, if it has an end
pub loop-c-preserved : goal.loop-c-preserved
unfolding left_over
loop-c-preserved c =
    let x = c.args in
    let l = c.loop-c in
    let k : Links = links_at x.self.now.state.now x.self.now.view.next.now x.self.now.view.back.now in
    let b = c.if-end-ne0 in
    let meets : apart k l.c ≡ true = elim b.branch [ then-end-ne0+else-end-self w ↦ apart_other _ _ w.if-end-self.false | else-end-ne0 w ↦ apart_none _ _ w.if-end-ne0.false ] in
    let noted : ((get_or k.last l.c 0 ≢ 0) × (b.seen ≡ marked l.seen l.c)) ⊎ ((get_or k.last l.c 0 ≡ 0) × (b.seen ≡ l.seen)) =
    elim b.branch [ then-end-ne0+else-end-self w ↦ inl (w.if-end-ne0.true, w.seen-is ∙ w.mark.ensures) | else-end-ne0 w ↦ inr (w.if-end-ne0.false, w.seen-is) ] in
    scan_again l.invariant c.loop-c-test.true c.in_ok-left.ensures meets noted

pub returns-then-has_busy : goal.returns-then-has_busy
unfolding left_over
returns-then-has_busy c =
    sym (scanned_over _ _ _ c.loop-c.invariant c.loop-c-test.false c.has_busy.ensures ∙ ap (λ (b : Bool). gate b (suc c.loop-c.left)) c.if-has_busy.true)

pub returns-else-has_busy : goal.returns-else-has_busy
unfolding left_over
returns-else-has_busy c =
    sym (scanned_over _ _ _ c.loop-c.invariant c.loop-c-test.false c.has_busy.ensures ∙ ap (λ (b : Bool). gate b (suc c.loop-c.left)) c.if-has_busy.false)
