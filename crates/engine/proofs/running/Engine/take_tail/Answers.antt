-- `engine::running::Engine::take_tail` meets its contract. The slot that `unhook_tail` gave is in bounds, and the links that it left are fine.
use mathlib.Core.Path.{◌≡◌, sym, subst}
use native.Mathlib.Omega.{arith}
use mathlib.Core.List.{List}
use lib.ListN.{length, get_or}
use Prim.Native.Nat.{ℕ, ◌<◌}
use Rattle.pool.specs.declared.state.Head.{Head}
use Rattle.pool.specs.World.{Links}
use Rattle.pool.specs.Fine.{Fine, Room, Holds}
use Rattle.pool.specs.Core.{off, tail_unhooked}
use Rattle.pool.proofs.Fine.{room_holds}
use Rattle.pool.proofs.Steps.{Loose, tail_loose}
use Rattle.engine.proofs.CodePop.{tail_gives}
use Rattle.engine.proofs.running.Engine.take_tail.Goals as goal

-- what `unhook_tail` leaves
loose : (l k : Links) (slot : ℕ) → off k slot ≡ tail_unhooked l → Fine l → 0 < get_or l.last 0 0 → Loose (length l.next) (off k slot)
loose l k slot e fine some = subst (Loose (length l.next)) (sym e) (tail_loose _ _ fine some)

holds : (h g : Head) {n slot : ℕ} {keys : List ℕ} → Room h.kind n keys → g ≡ h → slot < n → Holds g.kind keys slot
holds h g r e l = rw e (room_holds _ r l)

pub key_at-key-requires : goal.key_at-key-requires
key_at-key-requires c =
    let u = loose _ _ _ c.unhook_tail-slot.ensures.links c.requires.ready.fine c.requires.tail in
    holds _ _ c.requires.ready.room c.unhook_tail-slot.ensures.head u.slot

pub bounds-pool-i : goal.bounds-pool-i
bounds-pool-i c =
    let u = loose _ _ _ c.unhook_tail-slot.ensures.links c.requires.ready.fine c.requires.tail in
    omega (arith, u.slot, c.requires.ready.sized)

pub release-requires-clause-slot_in_bounds : goal.release-requires-clause-slot_in_bounds
release-requires-clause-slot_in_bounds c =
    let u = loose _ _ _ c.unhook_tail-slot.ensures.links c.requires.ready.fine c.requires.tail in
    omega (arith, u.slot, u.fine.nexts)

pub returns-clause-gives : goal.returns-clause-gives
returns-clause-gives c =
    let k = c.key_at-key.ensures in
    tail_gives _ _ _ _ _ _ _ _ _ _ c.unhook_tail-slot.ensures.head c.release.ensures.head c.unhook_tail-slot.ensures.links k.first k.second c.release.ensures.slot
