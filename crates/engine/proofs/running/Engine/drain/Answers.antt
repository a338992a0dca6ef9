-- `engine::running::Engine::drain` meets its contract. The link of the greatest key leads to a slot, as the chain's first link does and every next link is in bounds.
use mathlib.Core.Path.{◌≡◌, sym, subst}
use native.Mathlib.Omega.{arith}
use lib.ListN.{length, get_or}
use mathlib.Core.List.{List}
use Prim.Native.Nat.{ℕ, ◌<◌}
use Rattle.keys.specs.declared.kind.Kind.{Kind}
use Rattle.pool.specs.declared.state.Head.{Head}
use Rattle.pool.specs.Core.{greatest_of}
use Rattle.pool.specs.World.{Links}
use Rattle.pool.specs.Fine.{Fine, Room, Holds}
use Rattle.pool.proofs.Fine.{room_holds}
use Rattle.pool.proofs.Steps.{Slot, greatest_slot}
use Rattle.engine.proofs.CodeConstrain.{drain_gives}
use Rattle.engine.proofs.running.Engine.drain.Goals as goal

-- a link that is the greatest of a chain which is not empty leads to a slot
found : (kind : Kind) (keys : List ℕ) (k : Links) (c g : ℕ) → g ≡ greatest_of kind keys k.next (get_or k.first c 0) → Fine k → 0 < get_or k.first c 0 → Slot (length k.next) g
found kind keys k c g e f some = subst (Slot (length k.next)) (sym e) (greatest_slot kind keys k.next _ f.next _ (some, f.first.at c))

holds : {kind : Kind} (h : Head) {n i : ℕ} {keys : List ℕ} → Room h.kind n keys → kind ≡ h.kind → i < n → Holds kind keys i
holds h r e l = rw e (room_holds _ r l)

pub overflow_sub-slot : goal.overflow_sub-slot
overflow_sub-slot c =
    let s = found _ _ _ _ _ c.greatest.ensures c.requires.fine c.requires.nonzero in
    omega arith

pub key_at-top-requires : goal.key_at-top-requires
key_at-top-requires c =
    let s = found _ _ _ _ _ c.greatest.ensures c.requires.fine c.requires.nonzero in
    holds c.args.self.now.state.head c.requires.room c.args.self.now.kinds (omega arith)

pub returns : goal.returns
returns c =
    let k = c.key_at-top.ensures in
    drain_gives _ _ _ _ _ _ _ _ _ _ _ c.args.self.now.kinds c.spread-moves.ensures.head c.greatest.ensures k.first k.second c.spread-moves.ensures.moved
