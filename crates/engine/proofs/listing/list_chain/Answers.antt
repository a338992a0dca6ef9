-- `engine::listing::list_chain` meets its contract. The loop's invariant: what is left to write from here leads to what there was to write at the start.
use Prim.Native.Nat.{ℕ, ◌-◌}
use mathlib.Core.Path.{◌≡◌, refl, ap, ◌∙◌}
use native.Mathlib.Omega.{arith}
use Rattle.pool.proofs.Fine.{room_holds}
use Rattle.engine.specs.Core.{wrote}
use Rattle.engine.proofs.CodeList.{roomy_holds, list_turn, chain_end, chain_stop}
use Rattle.engine.proofs.listing.list_chain.Goals as goal

pub loop-place-init : goal.loop-place-init
loop-place-init c = record { link = c.requires.start_in_bounds; same = refl }

pub returns-then-at-eq0 : goal.returns-then-at-eq0
returns-then-at-eq0 c = chain_stop _ _ _ _ _ _ _ _ _ _ c.loop-place.invariant.same c.if-at-eq0.true

pub key_at-key-requires : goal.key_at-key-requires
key_at-key-requires c =
    let i = c.loop-place.invariant in
    room_holds _ c.requires.room (omega (arith, i.link, c.if-at-eq0.false))

pub store_key-requires : goal.store_key-requires
store_key-requires c = roomy_holds c.requires.roomy _ c.loop-place.auto.listkeys c.loop-place-test.true

pub bounds-view-slot : goal.bounds-view-slot
bounds-view-slot c =
    let i = c.loop-place.invariant in
    omega (arith, i.link, c.if-at-eq0.false)

pub bounds-view-slot-in-loop-place : goal.bounds-view-slot-in-loop-place
bounds-view-slot-in-loop-place c =
    let i = c.loop-place.invariant in
    omega (arith, i.link, c.if-at-eq0.false)

pub loop-place-preserved : goal.loop-place-preserved
loop-place-preserved c =
    let l = c.loop-place in
    record {
      link = c.requires.under.at (l.at - 1);
      same = l.invariant.same ∙ list_turn _ _ _ _ _ _ _ _ _ _ _ _ c.loop-place-test.true c.if-at-eq0.false c.key_at-key.ensures.first c.key_at-key.ensures.second c.store_key.ensures;
    }

pub returns : goal.returns
returns c =
    let l = c.loop-place in
    let e : c.args.len ≡ l.place = omega (arith, c.loop-place-test.false, l.auto.place-end) in
    ap (λ (n : ℕ). wrote l.listkeys l.listvalues n) e ∙ chain_end _ _ _ _ _ _ _ _ _ _ l.invariant.same (omega (arith, e))
