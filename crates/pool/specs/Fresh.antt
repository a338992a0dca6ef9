-- A fresh heap with a top, or with none, as the code asks for it.
use Rattle.std.specs.Prelude.{◌≡◌, cond, true, false, List, ℕ, ◌*◌, length, Option, Some, None}
use Rattle.keys.specs.declared.kind.Kind.{Kind}
use Rattle.keys.specs.declared.words.Words.{Words}
use Rattle.keys.specs.Ordered.{words}
use Rattle.pool.specs.declared.state.Head.{Head}
use Rattle.pool.specs.declared.state.State.{State}
use Rattle.pool.specs.World.{World}
use Rattle.pool.specs.Core.{fresh_core, fresh_state}

-- slices of one size: n values, next and back links, and as many key words as n slots of the kind have
pub record Pooled (kind : Kind) (keys values next back : List ℕ) : Type 0 where
  pub words' : length keys ≡ words kind * length next
  pub values' : length values ≡ length next
  pub backs : length back ≡ length next

-- the top, if there is one
unfoldable pub top_shown : Head → Option Words
top_shown h = cond h.topped (Some (record { first = h.top0; second = h.top1 })) None

unfoldable pub fresh_with : Kind → ℕ → Option Words → World
unfolding fresh_core
fresh_with kind n None = fresh_core kind n false 0 0
fresh_with kind n (Some k) = fresh_core kind n true k.first k.second

unfoldable pub state_with : Kind → ℕ → Option Words → State
unfolding fresh_state
state_with kind n None = fresh_state kind n false 0 0
state_with kind n (Some k) = fresh_state kind n true k.first k.second
