-- What the code of a listing asks for, on plain values: what a turn of each loop does, and that the rooms stay wide enough.
use Prim.Native.Nat.{ℕ, zero, suc, ◌+◌, ◌-◌, ◌≤◌, ◌<◌}
use mathlib.Core.Path.{◌≡◌, refl, sym, ap, ◌∙◌}
use mathlib.Core.List.{List}
use native.Mathlib.Omega.{arith}
use native.Mathlib.Numerals.{sub-one}
use lib.ListN.{length, get_or, set}
use Rattle.keys.specs.declared.kind.Kind.{Kind}
use Rattle.pool.specs.World.{waiting_chain, key_word0, key_word1, store_key}
use Rattle.pool.specs.Fine.{Holds}
use Rattle.engine.specs.Core.{Written, wrote, written, list_from, list_chain, list_chains, list_entries}
use Rattle.engine.specs.Room.{Roomy}

-- ---- room

-- a list that is as long has as much room: for so many entries, and so for one of them
module _ {kind : Kind} {len : ℕ} {ks vs : List ℕ} (r : Roomy kind len ks vs) where
  pub roomy_holds : {ls : List ℕ} (i : ℕ) → length ls ≡ length ks → i < len → Holds kind ls i
  roomy_holds i e h = record { wide = λ k. omega (arith, r.wide k); narrow = λ q. omega (arith, r.narrow q) }

module _ (kind : Kind) (len : ℕ) (keys values next : List ℕ) where
  from_low : (m at : ℕ) (o : Written) → o.count + m ≤ len → (list_from m kind keys values next at o).count ≤ len
  unfolding list_from
  from_low zero at o l = omega arith
  from_low (suc m) zero o l = omega arith
  from_low (suc m) (suc s) o l = from_low m (get_or next s 0) (written kind keys values s o) (omega arith)

  -- no more than `len` entries are written
  pub chain_low : (at : ℕ) (o r : Written) → o.count ≤ len → r ≡ list_chain len kind keys values next at o → r.count ≤ len
  unfolding list_chain
  chain_low at o r l e = rw e (from_low (len - o.count) at o (omega arith))

  -- ---- one chain

  -- a turn writes the slot of the link `at`, with the key words a and b and the lists that the calls gave
  pub list_turn : (at : ℕ) (ks vs : List ℕ) (n a b : ℕ) (ls : List ℕ) → n < len → (at ≡ 0 → ⊥) → a ≡ key_word0 kind keys (at - 1) → b ≡ key_word1 kind keys (at - 1) → ls ≡ store_key kind ks n a b
      → list_from (len - n) kind keys values next at (wrote ks vs n) ≡ list_from (len - (n + 1)) kind keys values next (get_or next (at - 1) 0) (wrote ls (set vs n (get_or values (at - 1) 0)) (n + 1))
  unfolding list_from
  list_turn zero ks vs n a b ls l z ea eb el = absurd (z refl)
  list_turn (suc s) ks vs n a b ls l z ea eb el = let h : len - n ≡ suc (len - (n + 1)) = omega arith in rw (h, el, ea, eb, sub-one)

  list_stop : (m at : ℕ) (o : Written) → at ≡ 0 → list_from m kind keys values next at o ≡ o
  unfolding list_from
  list_stop zero at o z = refl
  list_stop (suc m) at o z = rw z

  list_end : (m at : ℕ) (o : Written) → m ≡ 0 → list_from m kind keys values next at o ≡ o
  unfolding list_from
  list_end m at o z = rw z

  -- the loop ends where the budget does, or the chain
  module _ (start m at : ℕ) (s o : Written) (same : list_from (len - s.count) kind keys values next start s ≡ list_from m kind keys values next at o) where
    pub chain_end : m ≡ 0 → o ≡ list_chain len kind keys values next start s
    unfolding list_chain
    chain_end z = sym (same ∙ list_end m at o z)

    pub chain_stop : at ≡ 0 → o ≡ list_chain len kind keys values next start s
    unfolding list_chain
    chain_stop z = sym (same ∙ list_stop m at o z)

  -- ---- all chains

  module _ (first : List ℕ) where
    -- a turn writes one chain, with what the call gave
    pub chains_turn : (c : ℕ) (o r : Written) → c < waiting_chain → r ≡ list_chain len kind keys values next (get_or first c 0) o
        → list_chains (waiting_chain - c) len kind keys values first next c o ≡ list_chains (waiting_chain - (c + 1)) len kind keys values first next (c + 1) r
    unfolding list_chains
    chains_turn c o r l e = let h : waiting_chain - c ≡ suc (waiting_chain - (c + 1)) = omega arith in rw (h, e)

    chains_none : (m c : ℕ) (o : Written) → m ≡ 0 → list_chains m len kind keys values first next c o ≡ o
    unfolding list_chains
    chains_none m c o z = rw z

    -- the loop began at what the first call gave, and ends after the last bucket
    pub chains_end : (ks vs : List ℕ) (s o : Written) (m c : ℕ) → s ≡ list_chain len kind keys values next (get_or first waiting_chain 0) (wrote ks vs 0)
        → list_chains waiting_chain len kind keys values first next 0 s ≡ list_chains m len kind keys values first next c o → m ≡ 0 → o ≡ list_entries len kind keys values first next ks vs
    unfolding list_entries
    chains_end ks vs s o m c e same z = sym (same ∙ chains_none m c o z) ∙ ap (list_chains waiting_chain len kind keys values first next 0) e
