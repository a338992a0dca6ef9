-- The parts of a state, as they are handed over.
use Rattle.std.specs.Prelude.{Bool, List, ℕ, get_or}
use Rattle.keys.specs.declared.kind.Kind.{Kind}
use Rattle.pool.specs.declared.state.Head.{Head}

-- a kind: its number, and the four codes of its table
abbrev pub kind_of : ℕ → List ℕ → Kind
kind_of n t = record { number = n; table = record { first = get_or t 0 0; second = get_or t 1 0; third = get_or t 2 0; fourth = get_or t 3 0 } }

abbrev pub head_of : ℕ → List ℕ → ℕ → Bool → ℕ → ℕ → Head
head_of kind table len topped top0 top1 = record { kind = kind_of kind table; len = len; topped = topped; top0 = top0; top1 = top1 }
