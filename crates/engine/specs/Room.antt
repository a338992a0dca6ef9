-- What an inner function may assume: of a state with its lent pool, and of the rooms that it lists into. Cited by contracts of inner functions only.
use Rattle.std.specs.Prelude.{◌≡◌, true, false, List, ℕ, ◌*◌, ◌≤◌, length}
use Rattle.keys.specs.declared.kind.Kind.{Kind}
use Rattle.keys.specs.Ordered.{is_wide}
use Rattle.pool.specs.declared.state.State.{State}
use Rattle.pool.specs.declared.lent.Pool.{Pool}
use Rattle.pool.specs.Lent.{links_in}
use Rattle.pool.specs.Fine.{Ready}

-- bounds, and nothing of chains
abbrev pub IsReady : State → Pool → Type 0
IsReady s p = Ready s.head (links_in s p) p.keys.now p.values.now

-- so many key words and values find room
pub record Roomy (kind : Kind) (len : ℕ) (ks vs : List ℕ) : Type 0 where
  pub wide : is_wide kind ≡ true → 2 * len ≤ length ks
  pub narrow : is_wide kind ≡ false → len ≤ length ks
  pub values : len ≤ length vs
