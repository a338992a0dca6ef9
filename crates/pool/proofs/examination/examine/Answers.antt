-- `pool::examination::examine` meets its contract: each way out, by the tests that led there.
use Rattle.std.proofs.Common.{◌≡◌, Bool, true, cond, length, sym, ap, ◌∙◌}
use Rattle.pool.specs.Sound.{Fit}
use Rattle.pool.specs.World.{World}
use Rattle.pool.specs.Lent.{world_seen}
use Rattle.pool.specs.Codes.{told}
use Rattle.pool.specs.Examine.{fits}
use Rattle.pool.proofs.Exam.{fitting_fit}
use Rattle.pool.proofs.CodeExam.{fitting_is, unfit_code, unheaded_code, headed_code}
use Rattle.pool.proofs.examination.examine.Goals.{else-top_is_plain-via-then-top_is_plain+else-stands, else-top_is_plain-via-else-top_is_plain}
use Rattle.pool.proofs.examination.examine.Goals as goal

-- the test, passed, is that of the world handed in
fit : (w : World) → {b : Bool} → b ≡ fits w.head.kind (length w.keys) (length w.values) (length w.links.next) (length w.links.back) → b ≡ true → Fit w
fit w e t = fitting_fit w (fitting_is w ∙ sym e ∙ t)

pub returns-then-not-fits : goal.returns-then-not-fits
unfolding told
returns-then-not-fits c = let w = world_seen c.args.state.now c.args.view in sym (unfit_code w (fitting_is w ∙ sym c.fits.ensures ∙ c.if-not-fits.true))

pub invariant_of-pool-clause-fit : goal.invariant_of-pool-clause-fit
invariant_of-pool-clause-fit c = fit (world_seen c.args.state.now c.args.view) c.fits.ensures c.if-not-fits.false

pub returns-then-stands : goal.returns-then-stands
unfolding told
returns-then-stands c =
    let w = world_seen c.args.state.now c.args.view in
    let f = fitting_is w ∙ sym c.fits.ensures ∙ c.if-not-fits.false in
    sym (headed_code w f (sym c.top_is_plain.ensures ∙ c.if-top_is_plain.true) ∙ sym c.stands.ensures ∙ ap (λ (b : Bool). cond b 0 2) c.if-stands.true)

pub returns : goal.returns
unfolding told
returns c =
    let w = world_seen c.args.state.now c.args.view in
    let f = fitting_is w ∙ sym c.fits.ensures ∙ c.if-not-fits.false in
    elim c.else-top_is_plain.branch [
      | else-top_is_plain-via-then-top_is_plain+else-stands d ↦
          sym (headed_code w f (sym c.top_is_plain.ensures ∙ d.if-top_is_plain.true) ∙ sym d.stands.ensures ∙ ap (λ (b : Bool). cond b 0 2) d.if-stands.false)
      | else-top_is_plain-via-else-top_is_plain d ↦ sym (unheaded_code w f (sym c.top_is_plain.ensures ∙ d.if-top_is_plain.false))
    ]
