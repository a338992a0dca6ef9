-- `engine::listing::list_all` meets its contract. The loop's invariant: what is left to write from here leads to what there was to write at the start.
use Prim.Native.Nat.{ℕ, ◌-◌, ◌≤◌}
use mathlib.Core.Path.{◌≡◌}
use mathlib.Core.List.{List}
use Rattle.keys.specs.declared.kind.Kind.{Kind}
use Rattle.pool.specs.World.{waiting_chain}
use Rattle.engine.specs.Core.{Written, wrote, list_chains}
use Rattle.engine.proofs.listing.list_all.Given as goal

-- at the loop's head: no more than `len` entries are written, and what is left to write from here is what there was to write at the start
pub record Turn (kind : Kind) (len : ℕ) (keys values first next : List ℕ) (o₀ : Written) (c : ℕ) (o : Written) : Type 0 where
  pub low : o.count ≤ len
  pub same : list_chains waiting_chain len kind keys values first next 0 o₀ ≡ list_chains (waiting_chain - c) len kind keys values first next c o

abbrev pub invariant-loop-c : goal.invariant-loop-c
invariant-loop-c l = Turn l.kind l.len l.view.keys.now l.view.values.now l.state.first l.view.next.now (wrote l.initial.listkeys l.initial.listvalues l.initial.done) l.c (wrote l.listkeys l.listvalues l.done)
