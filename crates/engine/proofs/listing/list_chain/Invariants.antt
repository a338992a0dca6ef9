-- `engine::listing::list_chain` meets its contract. The loop's invariant: what is left to write from here leads to what there was to write at the start.
use Prim.Native.Nat.{ℕ, ◌-◌, ◌≤◌}
use mathlib.Core.Path.{◌≡◌}
use mathlib.Core.List.{List}
use lib.ListN.{length}
use Rattle.keys.specs.declared.kind.Kind.{Kind}
use Rattle.engine.specs.Core.{Written, wrote, list_from}
use Rattle.engine.proofs.listing.list_chain.Given as goal

-- at the loop's head: the link is in bounds, and what is left to write from here is what there was to write at the start
pub record Turn (kind : Kind) (len : ℕ) (keys values next : List ℕ) (at₀ : ℕ) (o₀ : Written) (at : ℕ) (o : Written) : Type 0 where
  pub link : at ≤ length next
  pub same : list_from (len - o₀.count) kind keys values next at₀ o₀ ≡ list_from (len - o.count) kind keys values next at o

abbrev pub invariant-loop-place : goal.invariant-loop-place
invariant-loop-place l = Turn l.kind l.len l.view.keys.now l.view.values.now l.view.next.now l.initial.at (wrote l.initial.listkeys l.initial.listvalues l.initial.place) l.at (wrote l.listkeys l.listvalues l.place)
