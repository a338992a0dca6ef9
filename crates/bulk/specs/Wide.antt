-- Entries that lie in three slices: entry i is the i-th of each, for i below the shortest of the three lengths.
use Rattle.std.specs.Prelude.{List, [], ◌∷◌, ℕ}
use Rattle.pool.specs.declared.lent.Entry.{Entry}

abbrev pub entry : ℕ → ℕ → ℕ → Entry
entry a b v = record { key = record { first = a; second = b }; value = v }

unfoldable pub zipped : List ℕ → List ℕ → List ℕ → List Entry
zipped [] ks vs = []
zipped (a ∷ hs) [] vs = []
zipped (a ∷ hs) (b ∷ ks) [] = []
zipped (a ∷ hs) (b ∷ ks) (v ∷ vs) = entry a b v ∷ zipped hs ks vs

-- what is read past the end of a list
abbrev pub no_entry : Entry
no_entry = entry 0 0 0
