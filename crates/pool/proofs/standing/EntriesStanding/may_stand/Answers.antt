-- `pool::standing::Entries` meets the contract of `Standing`: each way out, by the tests that led there.
use Rattle.std.proofs.Common.{not, sym, ap, ◌∙◌}
use Rattle.pool.proofs.CodeExam.{proper_read, above_read, far_read, stands_astray, stands_unfit, stands_waiting, stands_above, stands_home}
use Rattle.pool.proofs.standing.EntriesStanding.may_stand.Goals.{then-self-slot-via-then-self-slot, then-self-slot-via-else-self-slot+then-not-is_proper}
use Rattle.pool.proofs.standing.EntriesStanding.may_stand.Goals as goal

pub returns-then-self-slot : goal.returns-then-self-slot
returns-then-self-slot c =
    let k = c.key_at-key.ensures in
    elim c.then-self-slot.branch [
      | then-self-slot-via-then-self-slot w ↦ sym (stands_astray _ _ _ _ _ _ w.if-self-slot.true)
      | then-self-slot-via-else-self-slot+then-not-is_proper w ↦
          sym (stands_unfit _ _ _ _ _ _ w.if-self-slot.false (proper_read c.args.self.now.kinds k.first k.second w.is_proper.ensures ∙ w.if-not-is_proper.true))
    ]

pub returns-then-not-self : goal.returns-then-not-self
returns-then-not-self c =
    let k = c.key_at-key.ensures in
    sym
    (stands_waiting _ _ _ _ _ _ c.if-self-slot.false
    (proper_read c.args.self.now.kinds k.first k.second c.is_proper.ensures ∙ c.if-not-is_proper.false) c.if-not-self.true)

pub returns-then-not-above : goal.returns-then-not-above
returns-then-not-above c =
    let k = c.key_at-key.ensures in
    let t = c.top_words-top.ensures in
    let same = c.args.self.now.kinds in
    sym
    (stands_home _ _ _ _ _ _ c.if-self-slot.false
    (proper_read same k.first k.second c.is_proper.ensures ∙ c.if-not-is_proper.false) c.if-not-self.false
    (above_read same k.first k.second t.first t.second c.above.ensures ∙ c.if-not-above.true)
    (far_read same k.first k.second t.first t.second c.distance.ensures))

pub returns-else-not-above : goal.returns-else-not-above
returns-else-not-above c =
    let k = c.key_at-key.ensures in
    let t = c.top_words-top.ensures in
    let same = c.args.self.now.kinds in
    ap not c.if-not-above.false
    ∙ sym
    (stands_above _ _ _ _ _ _ c.if-self-slot.false
    (proper_read same k.first k.second c.is_proper.ensures ∙ c.if-not-is_proper.false) c.if-not-self.false
    (above_read same k.first k.second t.first t.second c.above.ensures ∙ c.if-not-above.false))
