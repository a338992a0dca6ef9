-- `engine::running::Engine::push` meets its contract: `push_core`, by the code. Where that is 0 there is a free slot, so that what `take_free` gives is one of the slots.
use Prim.Native.Nat.{ℕ, ◌+◌, ◌<◌, ◌^◌}
use mathlib.Core.Path.{◌≡◌, refl, sym, ap, ◌∙◌}
use mathlib.Core.Bool.{false}
use mathlib.Core.List.{List}
use native.Mathlib.Omega.{arith}
use Rattle.std.proofs.lemmas.Result.{err_from_is_err_and}
use Rattle.pool.specs.declared.state.Head.{Head}
use Rattle.pool.specs.Codes.{told}
use Rattle.pool.specs.World.{Links, world, resized, store_key}
use Rattle.pool.specs.Fine.{Ready, Room, Holds}
use Rattle.pool.proofs.Fine.{room_holds}
use Rattle.engine.specs.Outcome.{Outcome, answered}
use Rattle.pool.proofs.Refusals.{refusal_some}
use Rattle.engine.proofs.CodePush.{code_free, place_low, taken_fine, taken_slot, len_more, push_refused, push_done}
use Rattle.engine.proofs.running.Engine.push.Goals as goal

-- a head that stayed as it was has the same kind, and counts as many
room_of : {h g : Head} {n slot : ℕ} {keys : List ℕ} → Room h.kind n keys → g ≡ h → slot < n → Holds g.kind keys slot
room_of {keys = keys} r e l = rw e (room_holds _ r l)

stored : {h g : Head} {ks : List ℕ} (keys : List ℕ) (slot a b : ℕ) → ks ≡ store_key g.kind keys slot a b → g ≡ h → ks ≡ store_key h.kind keys slot a b
stored keys slot a b p e = p ∙ ap (λ (x : Head). store_key x.kind keys slot a b) e

fits : (h g : Head) {k : Links} {keys values : List ℕ} → Ready h k keys values → g ≡ h → g.len + 1 < 2 ^ 32
fits h g r e = rw e (len_more r)

grown : (h g : Head) (t : Links) (ks vs : List ℕ) {o : Outcome} → answered 0 (world (resized h (h.len + 1)) t ks vs) 0 false 0 0 0 0 ≡ o → g ≡ h
    → answered 0 (world (resized g (g.len + 1)) t ks vs) 0 false 0 0 0 0 ≡ o
grown h g t ks vs p e = ap (λ (x : Head). answered 0 (world (resized x (x.len + 1)) t ks vs) 0 false 0 0 0 0) e ∙ p

pub returns-in_err-test_push-clause-gives : goal.returns-in_err-test_push-clause-gives
unfolding told
returns-in_err-test_push-clause-gives c =
    let p = err_from_is_err_and c.from_residual.result c.from_residual.ensures.1 in
    rw (p.1, p.2) (push_refused _ _ _ _ _ c.in_err-test_push.ensures (refusal_some _))

pub take_free-slot-requires-clause-nonzero : goal.take_free-slot-requires-clause-nonzero
unfolding told
take_free-slot-requires-clause-nonzero c = code_free _ _ _ _ (sym c.in_ok-test_push.ensures)

pub append-requires-clause-fine : goal.append-requires-clause-fine
append-requires-clause-fine c = taken_fine _ _ _ c.requires.fine (c.take_free-slot.ensures.links _)

pub append-requires-clause-chain_bound : goal.append-requires-clause-chain_bound
append-requires-clause-chain_bound c = omega (arith, place_low c.args.self.now.state.head c.args.key.first c.args.key.second, c.place-chain.ensures)

pub append-requires-clause-slot_in_bounds : goal.append-requires-clause-slot_in_bounds
unfolding told
append-requires-clause-slot_in_bounds c =
    taken_slot _ _ _ c.requires.fine (c.take_free-slot.ensures.links _) (code_free _ _ _ _ (sym c.in_ok-test_push.ensures))

pub store_key-requires : goal.store_key-requires
unfolding told
store_key-requires c =
    room_of c.requires.room (c.append.ensures.head ∙ c.take_free-slot.ensures.head)
    (taken_slot _ _ _ c.requires.fine (c.take_free-slot.ensures.links _) (code_free _ _ _ _ (sym c.in_ok-test_push.ensures)))

pub bounds-pool-slot : goal.bounds-pool-slot
unfolding told
bounds-pool-slot c =
    let low = taken_slot _ _ _ c.requires.fine (c.take_free-slot.ensures.links _) (code_free _ _ _ _ (sym c.in_ok-test_push.ensures)) in
    omega (arith, low, c.requires.sized)

pub overflow_add-self : goal.overflow_add-self
overflow_add-self c = omega (arith, fits _ _ c.requires (c.append.ensures.head ∙ c.take_free-slot.ensures.head))

pub returns-clause-gives : goal.returns-clause-gives
unfolding told
returns-clause-gives c =
    let same = c.append.ensures.head ∙ c.take_free-slot.ensures.head in
    grown _ _ _ _ _
    (push_done _ _ _ _ _ c.in_ok-test_push.ensures _ _ _ _ _ refl (c.take_free-slot.ensures.links _) (stored _ _ _ _ c.store_key.ensures same) c.place-chain.ensures c.append.ensures.links)
    same
