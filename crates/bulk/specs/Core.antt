-- A bulk push as its code does it: every entry is tested, and then they are pushed. Contracts of inner functions cite these; a reader of the promises need not.
use Rattle.std.specs.Prelude.{List, [], ◌∷◌, ℕ, zero, suc, ◌-◌, Result, Ok, Err}
use Rattle.pool.specs.declared.state.Head.{Head}
use Rattle.pool.specs.declared.lent.Entry.{Entry}
use Rattle.pool.specs.Codes.{refusal_code}
use Rattle.pool.specs.World.{World}
use Rattle.engine.specs.Core.{push_code, push_core}
use Rattle.bulk.specs.declared.extending.Stop.{Stop}

-- the code and the place of the first entry that is refused, or 0 and 0
pub record Found : Type 0 where
  pub code : ℕ
  pub place : ℕ

abbrev pub found : ℕ → ℕ → Found
found code place = record { code = code; place = place }

-- what the test of the entries is told
unfoldable pub found_in : {T : Type 0} → Result T Stop → Found
unfolding refusal_code
found_in (Ok x) = found 0 0
found_in (Err s) = found (refusal_code s.refusal) s.place

-- what a number tells of the entry at place i
unfoldable pub found_at : ℕ → ℕ → Found
found_at i zero = found 0 0
found_at i (suc c) = found (suc c) i

-- entries from place i on, where so many slots are free: a push changes neither kind nor top, and takes one slot
unfoldable pub tested : Head → ℕ → ℕ → List Entry → Found
tested h free i [] = found 0 0
tested h free i (e ∷ es) = elim (push_code h free e.key.first e.key.second) [ zero ↦ tested h (free - 1) (suc i) es | suc c ↦ found (suc c) i ]

-- the world after the engine's pushes
unfoldable pub push_all : World → List Entry → World
push_all w [] = w
push_all w (e ∷ es) = push_all (push_core w e.key.first e.key.second e.value).world es
