-- What a call gives back: document 01, "Numbers given back".
use Rattle.std.specs.Prelude.{Bool, true, false, cond, ◌&&◌, List, ℕ, zero, suc, ◌*◌, leb}
use Rattle.keys.specs.Ordered.{words, well_formed, nan_key}
use Rattle.keys.specs.declared.kind.Kind.{Kind}
use Rattle.pool.specs.World.{World}
use Rattle.pool.specs.Examine.{examined}

-- the code, the state and the pool afterwards, the moves, a key if one is given, its value, and the length that `len` reads
pub record Outcome : Type 0 where
  pub code : ℕ
  pub world : World
  pub moves : ℕ
  pub present : Bool
  pub key0 : ℕ
  pub key1 : ℕ
  pub value : ℕ
  pub count : ℕ

abbrev pub answered : ℕ → World → ℕ → Bool → ℕ → ℕ → ℕ → ℕ → Outcome
answered code w moves present a b v count = record { code = code; world = w; moves = moves; present = present; key0 = a; key1 = b; value = v; count = count }

-- "A refused call returns the state it got, reports 0 moves and writes nothing; any key, value, count or place it would give is absent or 0."
unfoldable pub refused : World → ℕ → Outcome
refused w code = record { code = code; world = w; moves = 0; present = false; key0 = 0; key1 = 0; value = 0; count = 0 }

-- done, with so many moves and nothing else to give
unfoldable pub done : World → ℕ → Outcome
done w moves = record { code = 0; world = w; moves = moves; present = false; key0 = 0; key1 = 0; value = 0; count = 0 }

-- done, and an entry is given
unfoldable pub given : World → ℕ → ℕ → ℕ → ℕ → Outcome
given w moves a b v = record { code = 0; world = w; moves = moves; present = true; key0 = a; key1 = b; value = v; count = 0 }

-- the call acts only if the code is 0
unfoldable pub unless : ℕ → World → Outcome → Outcome
unless zero w o = o
unless (suc c) w o = refused w (suc c)

-- what a key by itself is told: 5 if it is not well-formed, then "a NaN key is new code 9, tested after 5 and before 6"
unfoldable pub key_code : Kind → ℕ → ℕ → ℕ
key_code kind a b = cond (well_formed kind a b) (cond (nan_key kind a) 9 0) 5

-- "Every call but the two fresh ones, the batch included, examines the whole pool once before it acts."
unfoldable pub checked : World → Outcome → Outcome
checked w o = unless (examined w) w o

-- "code 4 if either is too short": so many entries find room in so many key words and values
unfoldable pub room_for : Kind → ℕ → ℕ → ℕ → Bool
room_for kind len ks vs = leb (words kind * len) ks && leb len vs

-- what `list` gives: the two lent slices afterwards, and how many entries were written
pub record Listing : Type 0 where
  pub code : ℕ
  pub world : World
  pub keys : List ℕ
  pub values : List ℕ
  pub count : ℕ

abbrev pub listing : ℕ → World → List ℕ → List ℕ → ℕ → Listing
listing code w ks vs n = record { code = code; world = w; keys = ks; values = vs; count = n }

-- the listing is made only if the code is 0
unfoldable pub list_unless : ℕ → World → List ℕ → List ℕ → Listing → Listing
list_unless zero w ks vs l = l
list_unless (suc c) w ks vs l = record { code = suc c; world = w; keys = ks; values = vs; count = 0 }
