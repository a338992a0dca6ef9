-- `pool::spread` meets its contract. The loop's invariant: what is left to move from here leads to what there was to do at the start.
use Prim.Native.Nat.{ℕ, ◌≤◌, ◌-◌}
use mathlib.Core.Path.{◌≡◌}
use mathlib.Core.List.{List}
use Rattle.keys.specs.declared.kind.Kind.{Kind}
use Rattle.keys.specs.Ordered.{ordered}
use Rattle.pool.specs.World.{Links}
use Rattle.pool.specs.Lent.{links_at}
use Rattle.pool.specs.Fine.{FineAt}
use Rattle.pool.specs.Core.{drain_from}
use Rattle.pool.specs.declared.state.Head.{Head}
use Rattle.pool.proofs.along.spread.Given as goal

-- at the loop's head: each turn made a move, the links are in bounds, and what is left to do from here is what there was to do at the start
pub record Turn (kind : Kind) (keys : List ℕ) (top n : ℕ) (h₀ : Head) (s₀ : Links) (at₀ : ℕ) (h : Head) (s : Links) (at moves turns : ℕ) : Type 0 where
  pub turns' : moves ≡ turns
  pub link : at ≤ n
  pub fine : FineAt n s
  pub head : h ≡ h₀
  pub same : drain_from n kind keys top at₀ 0 s₀ ≡ drain_from (n - moves) kind keys top at moves s

abbrev pub invariant-loop : goal.invariant-loop
invariant-loop l =
    Turn l.reader.kind l.keys (ordered l.reader.kind l.top.first l.top.second) l.end l.initial.state.head (links_at l.initial.state l.initial.next l.initial.back) l.initial.at
    l.state.head (links_at l.state l.next l.back) l.at l.moves l.counter
