-- `pool::greatest` meets its contract. The loop's invariant: the greatest from the start is the greatest from here, with `best_key` the key of `best`.
use Prim.Native.Nat.{ℕ, ◌≤◌, ◌<◌, ◌-◌}
use mathlib.Core.Path.{◌≡◌}
use mathlib.Core.List.{List}
use lib.ListN.{length}
use Rattle.keys.specs.declared.kind.Kind.{Kind}
use Rattle.pool.specs.declared.against.SlotKey.{SlotKey}
use Rattle.pool.specs.Core.{greatest_from}
use Rattle.pool.proofs.CodeAlong.{KeyOf}
use Rattle.pool.proofs.along.greatest.Given as goal

-- at the loop's head: the links are in bounds, `best_key` is the key of `best`, and what is left to find is what there was to find
pub record Turn (kind : Kind) (keys next : List ℕ) (n at₀ best₀ at best : ℕ) (best_key : SlotKey) (turns : ℕ) : Type 0 where
  pub link : at ≤ n
  pub low : 0 < best
  pub high : best ≤ n
  pub key : KeyOf kind keys (best - 1) best_key
  pub same : greatest_from n kind keys next at₀ best₀ ≡ greatest_from (n - turns) kind keys next at best

abbrev pub invariant-loop : goal.invariant-loop
invariant-loop l = Turn l.reader.kind l.keys l.next (length l.next) l.initial.at l.initial.best l.at l.best l.best_key l.counter
