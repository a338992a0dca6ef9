-- What the code of the state leans on: a store past the end changes nothing, and what the types of its arrays give.
use mathlib.Core.Path.{◌≡◌}
use Prim.Native.Nat.{ℕ, ◌≤◌}
use lib.ListN.{length, get_or}
use lib.Seq.{set_out}
use mir.Syntax.{w64}
use mir.Val.{Fits}
use Rattle.pool.specs.declared.state.State.{State}
use Rattle.pool.specs.World.{chain_count, Links, chain_set}
use Rattle.pool.specs.Sound.{Typed}

pub chain_past : (s : State) (c f l : ℕ) → length s.first ≤ c → length s.last ≤ c → s ≡ chain_set s c f l
unfolding chain_set
chain_past s c f l h k = rw (set_out s.first c f h, set_out s.last c l k)

-- what the types of a state's arrays give
pub state_typed : (k : Links) → length k.first ≡ chain_count → length k.last ≡ chain_count → length k.busy ≡ 3 → ((j : ℕ) → Fits w64 (get_or k.busy j 0)) → Typed k
state_typed k f l b h = record { firsts = f; lasts = l; busies = b; busy_fits = λ j. (h j).fits }
