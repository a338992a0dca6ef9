-- `heap::reading::list` meets its contract: it is stopped by the examination or by a room too short, or what the engine writes is the list. Assumes nothing.
use mathlib.Core.Path.{sym, ◌∙◌}
use borrow.Author.Rules.{rules}
use Rattle.std.proofs.lemmas.Result.{err_from_is_err_and}
use Rattle.pool.specs.Codes.{refusal_code}
use Rattle.pool.proofs.CodeState.{state_typed}
use Rattle.pool.proofs.Fine.{whole_ready}
use Rattle.heap.specs.Answers.{list_answered}
use Rattle.heap.specs.Calls.{listed}
use Rattle.heap.proofs.CodeChecked.{stops_list, sound_pool}
use Rattle.heap.proofs.CodeCalls.{roomy, listed_short, listed_all}
use Rattle.heap.proofs.reading.list.Goals as goal

pub returns-in_err-examine : goal.returns-in_err-examine
unfolding listed list_answered
returns-in_err-examine c =
    let p = err_from_is_err_and c.from_residual.result c.from_residual.ensures.1 in
    rw (p.1, p.2) (stops_list _ _ c.in_err-examine.ensures _ _ _)

pub returns-then-not-has_room : goal.returns-then-not-has_room
unfolding list_answered refusal_code
returns-then-not-has_room c =
    let w = sound_pool _ _ c.in_ok-examine.ensures (state_typed _ (search rules) (search rules) (search rules) (λ j. search rules)) in
    listed_short w _ _ (sym c.has_room.ensures ∙ c.if-not-has_room.true)

pub list_all-requires : goal.list_all-requires
list_all-requires c =
    let w = sound_pool _ _ c.in_ok-examine.ensures (state_typed _ (search rules) (search rules) (search rules) (λ j. search rules)) in
    let r = whole_ready w in
    record { room = r.room; values_len = r.sized; under = r.fine.next; under_2 = r.fine.first; roomy = roomy _ _ _ _ (sym c.has_room.ensures ∙ c.if-not-has_room.false) }

pub returns : goal.returns
unfolding list_answered
returns c =
    let w = sound_pool _ _ c.in_ok-examine.ensures (state_typed _ (search rules) (search rules) (search rules) (λ j. search rules)) in
    listed_all w _ _ (sym c.has_room.ensures ∙ c.if-not-has_room.false) c.list_all.ensures
