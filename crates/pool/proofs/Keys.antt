-- What is stored into a slot is read from it, and from no other.
use mathlib.Core.Path.{◌≡◌, refl, sym, ◌∙◌}
use mathlib.Core.Logic.{◌≢◌}
use mathlib.Core.Bool.{Bool, true, false}
use mathlib.Core.List.{List}
use Prim.Native.Nat.{ℕ, ◌+◌, ◌*◌, ◌<◌}
use native.Mathlib.Omega.{arith}
use lib.ListN.{length, get_or, set, length-set}
use lib.Seq.{get_or-set_same, get_or-set_other}
use Rattle.keys.specs.Ordered.{words}
use Rattle.keys.specs.declared.kind.Kind.{Kind}
use Rattle.keys.specs.Ordered.{is_wide}
use Rattle.pool.specs.World.{store_key, key_word0, key_word1}

module _ (kind : Kind) (keys : List ℕ) (s : ℕ) where
  pub word0_wide : is_wide kind ≡ true → key_word0 kind keys s ≡ get_or keys (2 * s) 0
  unfolding key_word0
  word0_wide e = rw (e, key_word0) refl

  pub word0_slim : is_wide kind ≡ false → key_word0 kind keys s ≡ get_or keys s 0
  unfolding key_word0
  word0_slim e = rw (e, key_word0) refl

  pub word1_wide : is_wide kind ≡ true → key_word1 kind keys s ≡ get_or keys (2 * s + 1) 0
  unfolding key_word1
  word1_wide e = rw (e, key_word1) refl

  pub word1_slim : is_wide kind ≡ false → key_word1 kind keys s ≡ 0
  unfolding key_word1
  word1_slim e = rw (e, key_word1) refl

  pub store_wide : (a b : ℕ) → is_wide kind ≡ true → store_key kind keys s a b ≡ set (set keys (2 * s) a) (2 * s + 1) b
  unfolding store_key
  store_wide a b e = rw (e, store_key) refl

  pub store_slim : (a b : ℕ) → is_wide kind ≡ false → store_key kind keys s a b ≡ set keys s a
  unfolding store_key
  store_slim a b e = rw (e, store_key) refl

module _ (kind : Kind) (keys : List ℕ) (s a b : ℕ) where
  pub store_length : length (store_key kind keys s a b) ≡ length keys
  store_length = go (is_wide kind) refl
    where
      go : (t : Bool) → is_wide kind ≡ t → length (store_key kind keys s a b) ≡ length keys
      go true e = rw (store_wide kind keys s a b e) (length-set (set keys (2 * s) a) (2 * s + 1) b ∙ length-set keys (2 * s) a)
      go false e = rw (store_slim kind keys s a b e) (length-set keys s a)

  pub store_word0_other : (x : ℕ) → x ≢ s → key_word0 kind (store_key kind keys s a b) x ≡ key_word0 kind keys x
  store_word0_other x n = go (is_wide kind) refl
    where
      go : (t : Bool) → is_wide kind ≡ t → key_word0 kind (store_key kind keys s a b) x ≡ key_word0 kind keys x
      go true e = rw (store_wide kind keys s a b e, word0_wide kind keys x e, word0_wide kind (set (set keys (2 * s) a) (2 * s + 1) b) x e) (get_or-set_other (set keys (2 * s) a) (2 * s + 1) (2 * x) b 0 (omega arith) ∙ get_or-set_other keys (2 * s) (2 * x) a 0 (omega arith))
      go false e = rw (store_slim kind keys s a b e, word0_slim kind keys x e, word0_slim kind (set keys s a) x e) (get_or-set_other keys s x a 0 n)

  pub store_word1_other : (x : ℕ) → x ≢ s → key_word1 kind (store_key kind keys s a b) x ≡ key_word1 kind keys x
  store_word1_other x n = go (is_wide kind) refl
    where
      go : (t : Bool) → is_wide kind ≡ t → key_word1 kind (store_key kind keys s a b) x ≡ key_word1 kind keys x
      go true e = rw (store_wide kind keys s a b e, word1_wide kind keys x e, word1_wide kind (set (set keys (2 * s) a) (2 * s + 1) b) x e) (get_or-set_other (set keys (2 * s) a) (2 * s + 1) (2 * x + 1) b 0 (omega arith) ∙ get_or-set_other keys (2 * s) (2 * x + 1) a 0 (omega arith))
      go false e = word1_slim kind (store_key kind keys s a b) x e ∙ sym (word1_slim kind keys x e)

  module _ (n : ℕ) (long : length keys ≡ words kind * n) (k : s < n) where
    wide : is_wide kind ≡ true → length keys ≡ 2 * n
    unfolding words
    wide e = long ∙ rw (e, words) refl

    slim : is_wide kind ≡ false → length keys ≡ 1 * n
    unfolding words
    slim e = long ∙ rw (e, words) refl

    pub store_word0_same : key_word0 kind (store_key kind keys s a b) s ≡ a
    store_word0_same = go (is_wide kind) refl
      where
        go : (t : Bool) → is_wide kind ≡ t → key_word0 kind (store_key kind keys s a b) s ≡ a
        go true e = let l = wide e in rw (store_wide kind keys s a b e, word0_wide kind (set (set keys (2 * s) a) (2 * s + 1) b) s e) (get_or-set_other (set keys (2 * s) a) (2 * s + 1) (2 * s) b 0 (omega arith) ∙ get_or-set_same keys (2 * s) a 0 (omega arith))
        go false e = let l = slim e in rw (store_slim kind keys s a b e, word0_slim kind (set keys s a) s e) (get_or-set_same keys s a 0 (omega arith))

    pub store_word1_same : (is_wide kind ≡ false → b ≡ 0) → key_word1 kind (store_key kind keys s a b) s ≡ b
    store_word1_same z = go (is_wide kind) refl
      where
        go : (t : Bool) → is_wide kind ≡ t → key_word1 kind (store_key kind keys s a b) s ≡ b
        go true e = let l = wide e in rw (store_wide kind keys s a b e, word1_wide kind (set (set keys (2 * s) a) (2 * s + 1) b) s e) (get_or-set_same (set keys (2 * s) a) (2 * s + 1) b 0 (rw (length-set keys (2 * s) a) (omega arith)))
        go false e = word1_slim kind (store_key kind keys s a b) s e ∙ sym (z e)
