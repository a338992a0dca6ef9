-- `pool::standing::FreeSlots` meets the contract of `Standing`: each way out, by the tests that led there.
use Rattle.std.proofs.Common.{sym, ◌∙◌}
use borrow.Author.Tests.{eq-eqb, ne_eqb}
use Rattle.pool.specs.Examine.{empty_at}
use Rattle.pool.proofs.CodeExam.{empty_rest}
use Rattle.pool.proofs.standing.FreeSlotsStanding.may_stand.Goals.{then-self-slot-ne0-via-then-self-slot-ne0, then-self-slot-ne0-via-else-self-slot-ne0+then-key-ne0, then-self-slot-ne0-via-else-self-slot-ne0+else-key-ne0+then-key-ne0-2}
use Rattle.pool.proofs.standing.FreeSlotsStanding.may_stand.Goals as goal

pub returns-then-self-slot-ne0 : goal.returns-then-self-slot-ne0
unfolding empty_at
returns-then-self-slot-ne0 c =
    let k = c.key_at-key.ensures in
    elim c.then-self-slot-ne0.branch [
      | then-self-slot-ne0-via-then-self-slot-ne0 w ↦ simp (ne_eqb _ _ w.if-self-slot-ne0.true)
      | then-self-slot-ne0-via-else-self-slot-ne0+then-key-ne0 w ↦ simp (eq-eqb _ _ w.if-self-slot-ne0.false, ← k.first, ne_eqb _ _ w.if-key-ne0.true)
      | then-self-slot-ne0-via-else-self-slot-ne0+else-key-ne0+then-key-ne0-2 w ↦
          simp (eq-eqb _ _ w.if-self-slot-ne0.false, sym k.first ∙ w.if-key-ne0.false, ← k.second, ne_eqb _ _ w.if-key-ne0-2.true)
    ]

pub returns : goal.returns
returns c =
    let k = c.key_at-key.ensures in
    sym (empty_rest _ _ _ _ _ c.if-self-slot-ne0.false (sym k.first ∙ c.if-key-ne0.false) (sym k.second ∙ c.if-key-ne0-2.false))
