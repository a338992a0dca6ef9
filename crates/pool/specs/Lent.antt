-- A pool as it is lent, and a state with it, as the world of the definitions.
use Rattle.std.specs.Prelude.{◌≡◌, List, ℕ}
use Rattle.pool.specs.declared.state.State.{State}
use Rattle.pool.specs.declared.lent.Pool.{Pool}
use Rattle.pool.specs.declared.lent.View.{View}
use Rattle.pool.specs.World.{Links, links, World, world_of}

-- the links of a state, and of the chains between its ends
abbrev pub links_at : State → List ℕ → List ℕ → Links
links_at s next back = links s.first s.last next back s.busy

abbrev pub links_in : State → Pool → Links
links_in s p = links_at s p.next.now p.back.now

abbrev pub world_in : State → Pool → World
world_in s p = world_of s p.keys.now p.values.now p.next.now p.back.now

abbrev pub world_seen : State → View → World
world_seen s v = world_of s v.keys.now v.values.now v.next.now v.back.now

-- the same four slices are lent still
abbrev pub SamePool : Pool → Pool → Type 0
SamePool p q =
    (p.keys.ghost_name ≡ q.keys.ghost_name) × (p.values.ghost_name ≡ q.values.ghost_name)
    × (p.next.ghost_name ≡ q.next.ghost_name) × (p.back.ghost_name ≡ q.back.ghost_name)
