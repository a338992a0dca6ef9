-- What the code of a pop gives is what `pop_tail` and `pop_core` say, on plain values: by what its calls gave and its tests found.
use Prim.Native.Nat.{ℕ, ◌-◌}
use mathlib.Core.Path.{◌≡◌, ap, ◌∙◌}
use mathlib.Core.Bool.{true, false}
use mathlib.Core.List.{List}
use borrow.Author.Tests.{eq-eqb, ne_eqb}
use lib.Dec.{eqb}
use lib.ListN.{get_or}
use Rattle.pool.specs.declared.state.Head.{Head}
use Rattle.pool.specs.World.{Links, World, world, resized, key_word0, key_word1}
use Rattle.pool.specs.Core.{Unhooked, tail_unhooked, shifted, readied, Pool, released, Popped, popped, pop_tail}
use Rattle.engine.specs.Outcome.{answered, given}
use Rattle.engine.specs.Core.{pop_from, pop_core}

-- with the slot, its words and the pool that the calls gave, and the head as each of them left it
pub tail_gives : (h i g : Head) (k : Links) (keys values : List ℕ) (u : Unhooked) (a b : ℕ) (p : Pool) → i ≡ h → g ≡ i → u ≡ tail_unhooked k
    → a ≡ key_word0 i.kind keys u.slot → b ≡ key_word1 i.kind keys u.slot → p ≡ released i.kind u.to keys values u.slot
    → popped (world (resized g (g.len - 1)) p.to p.keys p.values) 0 a b (get_or values u.slot 0) ≡ pop_tail (shifted h k 0) keys values
unfolding pop_tail
tail_gives h i g k keys values u a b p same kept e q r f = rw (f, q, r, kept, same, e)

module _ (h : Head) (k : Links) (keys values : List ℕ) where
  pub pop_none : h.len ≡ 0 → answered 8 (world h k keys values) 0 false 0 0 0 0 ≡ pop_core (world h k keys values)
  unfolding pop_core
  pop_none z = rw (eq-eqb h.len 0 z, pop_core)

  module _ (some : h.len ≡ 0 → ⊥) (g : Head) (l : Links) (moves : ℕ) (is : shifted g l moves ≡ readied (eqb (get_or k.last 0 0) 0) h k keys) where
    from : pop_from (world h k keys values) (shifted g l moves) ≡ pop_core (world h k keys values)
    unfolding pop_core
    from = rw (is, ne_eqb h.len 0 some, pop_core)

    pub pop_bare : get_or l.last 0 0 ≡ 0 → answered 8 (world g l keys values) 0 false 0 0 0 0 ≡ pop_core (world h k keys values)
    unfolding pop_from
    pop_bare z = (rw (eq-eqb (get_or l.last 0 0) 0 z, pop_from)) ∙ from

    -- what the tail of bucket 0 gives does not hang on the moves before
    pub pop_gives : (w : World) (a b v : ℕ) → (get_or l.last 0 0 ≡ 0 → ⊥) → popped w 0 a b v ≡ pop_tail (shifted g l 0) keys values
        → answered 0 w moves true a b v 0 ≡ pop_core (world h k keys values)
    unfolding pop_from pop_tail
    pop_gives w a b v z e = ap (λ (p : Popped). given p.world moves p.key0 p.key1 p.value) e ∙ (rw (ne_eqb (get_or l.last 0 0) 0 z, pop_from)) ∙ from
