-- `pool::standing::BareEntries` meets the contract of `Standing`: each way out, by the tests that led there. Whatever words stand in a
-- slot are a key of the kind.
use Rattle.std.proofs.Common.{not, refl, sym, ap, ◌∙◌}
use Rattle.pool.proofs.CodeAgainst.{bare_proper}
use Rattle.pool.proofs.CodeAlong.{KeyOf, far_as, above_as}
use Rattle.pool.proofs.CodeExam.{above_read, far_read, stands_astray, stands_waiting, stands_above, stands_home}
use Rattle.pool.proofs.standing.BareEntriesStanding.may_stand.Goals as goal

pub returns-then-self-slot : goal.returns-then-self-slot
returns-then-self-slot c = sym (stands_astray _ _ _ _ _ _ c.if-self-slot.true)

pub returns-then-not-self : goal.returns-then-not-self
returns-then-not-self c =
    sym (stands_waiting _ _ _ _ _ _ c.if-self-slot.false (bare_proper _ _ _ c.args.self.now.unmixed c.args.self.now.no_float) c.if-not-self.true)

pub returns-then-not-bare_above : goal.returns-then-not-bare_above
returns-then-not-bare_above c =
    let t = c.top_words-top.ensures in
    let x = c.args in
    let key : KeyOf x.self.now.head.kind x.self.now.keys.now x.slot c.of-key.result = record { kind' = c.of-key.ensures.kind; key' = c.of-key.ensures.key } in
    sym
    (stands_home _ _ _ _ _ _ c.if-self-slot.false (bare_proper _ _ _ c.args.self.now.unmixed c.args.self.now.no_float) c.if-not-self.false
    (above_read refl refl refl t.first t.second (above_as _ _ _ _ key c.bare_above.ensures) ∙ c.if-not-bare_above.true)
    (far_read refl refl refl t.first t.second (far_as _ _ _ _ key c.bare_distance.ensures)))

pub returns-else-not-bare_above : goal.returns-else-not-bare_above
returns-else-not-bare_above c =
    let t = c.top_words-top.ensures in
    let x = c.args in
    let key : KeyOf x.self.now.head.kind x.self.now.keys.now x.slot c.of-key.result = record { kind' = c.of-key.ensures.kind; key' = c.of-key.ensures.key } in
    ap not c.if-not-bare_above.false
    ∙ sym
    (stands_above _ _ _ _ _ _ c.if-self-slot.false (bare_proper _ _ _ c.args.self.now.unmixed c.args.self.now.no_float) c.if-not-self.false
    (above_read refl refl refl t.first t.second (above_as _ _ _ _ key c.bare_above.ensures) ∙ c.if-not-bare_above.false))
