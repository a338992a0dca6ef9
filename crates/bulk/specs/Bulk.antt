-- Bulk push: document 01, "takes a lent list of entries, each a key with its value. It takes all or none; if one is refused it
-- gives the code and place, from 0, of the first that single pushes in that order would refuse; else the place is 0."
use Rattle.std.specs.Prelude.{List, [], ◌∷◌, ℕ, zero, suc}
use Rattle.pool.specs.World.{World}
use Rattle.pool.specs.Examine.{examined}
use Rattle.heap.specs.Calls.{push}
use Rattle.pool.specs.declared.lent.Entry.{Entry}

-- the code, the state and the pool afterwards, and the place of the entry that was refused
pub record Bulk : Type 0 where
  pub code : ℕ
  pub world : World
  pub place : ℕ

abbrev pub bulk : ℕ → World → ℕ → Bulk
bulk code w place = record { code = code; world = w; place = place }

-- single pushes in order, from place i on, until one is refused
unfoldable pub push_each : ℕ → World → List Entry → Bulk
push_each i w [] = bulk 0 w 0
push_each i w (e ∷ es) = elim (push w e.key.first e.key.second e.value).code [
  | zero ↦ push_each (suc i) (push w e.key.first e.key.second e.value).world es
  | suc c ↦ bulk (suc c) w i
]

-- "all or none": kept if none is refused, else thrown away
unfoldable pub kept : World → Bulk → Bulk
kept w b = elim b.code [ zero ↦ b | suc c ↦ bulk (suc c) w b.place ]

unfoldable pub extend : World → List Entry → Bulk
extend w es = kept w (push_each 0 w es)

-- 1 and 2 by the examination, with place 0
unfoldable pub bulk_unless : ℕ → World → Bulk → Bulk
bulk_unless zero w b = b
bulk_unless (suc c) w b = bulk (suc c) w 0

unfoldable pub extended : World → List Entry → Bulk
extended w es = bulk_unless (examined w) w (extend w es)
