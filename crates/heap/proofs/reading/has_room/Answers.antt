-- `heap::reading::has_room` meets its contract: each way out, by the tests that led there. Assumes nothing.
use mathlib.Core.Path.{sym, ◌∙◌}
use Rattle.heap.proofs.CodeCalls.{room_pairs, room_words, both_then, both_else}
use Rattle.heap.proofs.reading.has_room.Goals.{then-is_wide, else-is_wide}
use Rattle.heap.proofs.reading.has_room.Goals as goal

pub returns-then-len-places : goal.returns-then-len-places
returns-then-len-places c =
    both_then _ _ _ _ (elim c.if-is_wide.branch [
      | then-is_wide w ↦ room_pairs c.args.kind c.args.len c.args.words c.args.values c.if-is_wide.places (sym c.is_wide.ensures ∙ w.if-is_wide.true) w.places-is
      | else-is_wide w ↦ room_words c.args.kind c.args.len c.args.words c.args.values c.if-is_wide.places (sym c.is_wide.ensures ∙ w.if-is_wide.false) w.places-is
    ]) c.if-len-places.true

pub returns-else-len-places : goal.returns-else-len-places
returns-else-len-places c =
    both_else _ _ _ _ (elim c.if-is_wide.branch [
      | then-is_wide w ↦ room_pairs c.args.kind c.args.len c.args.words c.args.values c.if-is_wide.places (sym c.is_wide.ensures ∙ w.if-is_wide.true) w.places-is
      | else-is_wide w ↦ room_words c.args.kind c.args.len c.args.words c.args.values c.if-is_wide.places (sym c.is_wide.ensures ∙ w.if-is_wide.false) w.places-is
    ]) c.if-len-places.false
