-- `engine::listing::list_all` meets its contract. The loop's invariant: what is left to write from here leads to what there was to write at the start.
use Prim.Native.Nat.{zero-le}
use mathlib.Core.Path.{refl, ◌∙◌}
use native.Mathlib.Omega.{arith}
use Rattle.engine.proofs.CodeList.{chain_low, chains_turn, chains_end}
use Rattle.engine.proofs.listing.list_all.Goals as goal

pub loop-c-init : goal.loop-c-init
loop-c-init c = record { low = chain_low _ _ _ _ _ _ _ _ zero-le c.list_chain-done.ensures; same = refl }

pub list_chain-done-requires-in-loop-c-clause-count_le_len : goal.list_chain-done-requires-in-loop-c-clause-count_le_len
list_chain-done-requires-in-loop-c-clause-count_le_len c = c.loop-c.invariant.low

pub loop-c-preserved : goal.loop-c-preserved
loop-c-preserved c =
    let l = c.loop-c in
    let e = c.list_chain-done-in-loop-c.ensures in
    record { low = chain_low _ _ _ _ _ _ _ _ l.invariant.low e; same = l.invariant.same ∙ chains_turn _ _ _ _ _ _ l.c _ _ c.loop-c-test.true e }

pub returns : goal.returns
returns c = chains_end _ _ _ _ _ _ _ _ _ _ _ _ c.list_chain-done.ensures c.loop-c.invariant.same (omega (arith, c.loop-c-test.false))
