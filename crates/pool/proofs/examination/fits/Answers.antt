-- `pool::examination::fits` meets its contract: each way out, by the tests that led there.
use Rattle.std.proofs.Common.{sym, ◌∙◌}
use native.Mathlib.Nat.{one-mul}
use borrow.Author.Tests.{eq-eqb, ne_eqb, le-leb, lt-leb}
use Rattle.keys.proofs.Ordered.{words_wide, words_word}
use Rattle.pool.specs.Sound.{limit}
use Rattle.pool.proofs.CodeExam.{fits_order}
use Rattle.pool.proofs.examination.fits.Goals.{then-not-kind_fits-via-then-not-kind_fits, then-not-kind_fits-via-else-not-kind_fits+then-n-gt-LIMIT, then-not-kind_fits-via-else-not-kind_fits+else-n-gt-LIMIT+then-view-n, then-not-kind_fits-via-else-not-kind_fits+else-n-gt-LIMIT+else-view-n+then-view-n-2, then-is_wide, else-is_wide}
use Rattle.pool.proofs.examination.fits.Goals as goal

pub returns-then-not-kind_fits : goal.returns-then-not-kind_fits
unfolding limit
returns-then-not-kind_fits c =
    let k = sym c.kind_fits.ensures in
    elim c.then-not-kind_fits.branch [
      | then-not-kind_fits-via-then-not-kind_fits w ↦ simp (fits_order, k ∙ w.if-not-kind_fits.true)
      | then-not-kind_fits-via-else-not-kind_fits+then-n-gt-LIMIT w ↦ simp (fits_order, k ∙ w.if-not-kind_fits.false, lt-leb _ _ w.if-n-gt-LIMIT.true)
      | then-not-kind_fits-via-else-not-kind_fits+else-n-gt-LIMIT+then-view-n w ↦
          simp (fits_order, k ∙ w.if-not-kind_fits.false, le-leb _ _ w.if-n-gt-LIMIT.false, ne_eqb _ _ w.if-view-n.true)
      | then-not-kind_fits-via-else-not-kind_fits+else-n-gt-LIMIT+else-view-n+then-view-n-2 w ↦
          simp (fits_order, k ∙ w.if-not-kind_fits.false, le-leb _ _ w.if-n-gt-LIMIT.false, eq-eqb _ _ w.if-view-n.false, ne_eqb _ _ w.if-view-n-2.true)
    ]

pub returns : goal.returns
unfolding limit
returns c =
    let k = sym c.kind_fits.ensures ∙ c.if-not-kind_fits.false in
    let l = le-leb _ _ c.if-n-gt-LIMIT.false in
    let v = eq-eqb _ _ c.if-view-n.false in
    let b = eq-eqb _ _ c.if-view-n-2.false in
    elim c.if-is_wide.branch [
      | then-is_wide w ↦ simp (fits_order, k, l, v, b, w.words-is, words_wide c.args.kind (sym c.is_wide.ensures ∙ w.if-is_wide.true))
      | else-is_wide w ↦ simp (fits_order, k, l, v, b, w.words-is, words_word c.args.kind (sym c.is_wide.ensures ∙ w.if-is_wide.false), one-mul)
    ]
