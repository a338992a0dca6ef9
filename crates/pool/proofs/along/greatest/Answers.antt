-- `pool::greatest` meets its contract. The loop's invariant: the greatest from the start is the greatest from here, with `best_key` the key of `best`.
use Prim.Native.Nat.{◌-◌}
use mathlib.Core.Path.{◌≡◌, sym, ◌∙◌}
use mathlib.Core.Bool.{true, false}
use native.Mathlib.Omega.{arith}
use lib.ListN.{length}
use Rattle.pool.specs.Core.{better, greatest_of}
use Rattle.pool.proofs.Fine.{greatest_turn, greatest_stop, greatest_end}
use Rattle.pool.proofs.CodeAlong.{KeyOf, key_as, better_by}
use Rattle.pool.proofs.along.greatest.Goals.{then-above_slot, else-above_slot}
use Rattle.pool.proofs.along.greatest.Goals as goal

-- where the branch's arms meet: `best` is the better of the two, and `best_key` its key
pub loop-preserved : goal.loop-preserved
loop-preserved c =
    let l = c.loop in
    let x = c.args in
    let z = c.if-at-eq0.false in
    let told = c.above_slot.ensures in
    let b = c.if-above_slot in
    let own : KeyOf x.reader.kind x.keys.now (l.at - 1) c.of-key.result = record { kind' = c.of-key.ensures.kind; key' = c.of-key.ensures.key } in
    let better_is : b.best ≡ better x.reader.kind x.keys.now l.at l.best = elim b.branch [ then-above_slot w ↦ w.best-is ∙ better_by _ _ true l.at l.best own l.invariant.key told w.if-above_slot.true | else-above_slot w ↦ w.best-is ∙ better_by _ _ false l.at l.best own l.invariant.key told w.if-above_slot.false ] in
    let key : KeyOf x.reader.kind x.keys.now (b.best - 1) b.best_key = elim b.branch [ then-above_slot w ↦ key_as _ _ w.best-is w.best_key-is own | else-above_slot w ↦ key_as _ _ w.best-is w.best_key-is l.invariant.key ] in
    record {
      link = c.requires.under.at (l.at - 1);
      low = elim b.branch [ then-above_slot w ↦ omega (arith, w.best-is, z) | else-above_slot w ↦ omega (arith, w.best-is, l.invariant.low) ];
      high = elim b.branch [ then-above_slot w ↦ omega (arith, w.best-is, l.invariant.link) | else-above_slot w ↦ omega (arith, w.best-is, l.invariant.high) ];
      key = key;
      same = l.invariant.same ∙ greatest_turn x.reader.kind x.keys.now x.next.now l.at l.best (length x.next.now) l.counter _ (omega arith) z better_is;
    }

pub returns-after-loop : goal.returns-after-loop
unfolding greatest_of
returns-after-loop c =
    let l = c.loop in
    let x = c.args in
    sym (l.invariant.same ∙ greatest_end x.reader.kind x.keys.now x.next.now l.at l.best (length x.next.now - l.counter) (omega arith))

pub returns-then-at-eq0 : goal.returns-then-at-eq0
unfolding greatest_of
returns-then-at-eq0 c =
    let l = c.loop in
    let x = c.args in
    sym (l.invariant.same ∙ greatest_stop x.reader.kind x.keys.now x.next.now l.at l.best (length x.next.now - l.counter) c.if-at-eq0.true)
