-- A list that is filled in from the front becomes the list that it is filled with, as the next links of a fresh pool do. Then its state and its world.
use mathlib.Core.Path.{◌≡◌, refl, sym, ◌∙◌}
use mathlib.Core.List.{List}
use Prim.Native.Nat.{ℕ, zero, suc, ◌+◌, ◌*◌, ◌≤◌, ◌<◌, zero-le}
use native.Mathlib.Omega.{arith}
use native.Mathlib.Numerals.{add-one}
use lib.ListN.{length, get_or, set, take, replicate, length-set}
use lib.Seq.{take_all, take-suc, take-suc-set}
use Rattle.std.specs.Prelude.{Option, Some, None}
use Rattle.keys.specs.declared.kind.Kind.{Kind}
use Rattle.keys.specs.declared.words.Words.{Words}
use Rattle.keys.specs.Ordered.{words}
use Rattle.pool.specs.declared.state.State.{State}
use Rattle.pool.specs.World.{chain_set, world_of}
use Rattle.pool.specs.Core.{fresh_next, fresh_first, fresh_links, fresh_core, fresh_state}
use Rattle.pool.specs.Fresh.{fresh_with, state_with}
use Rattle.pool.proofs.FreshPool.{length_fresh, fresh_mid, fresh_end}

-- of n elements the first i are those of ys
pub record Filled (n : ℕ) (ys xs : List ℕ) (i : ℕ) : Type 0 where
  pub whole : length ys ≡ n
  pub long : length xs ≡ n
  pub done : i ≤ n
  pub same : take i xs ≡ take i ys

filled_start : {ys : List ℕ} (xs : List ℕ) → length ys ≡ length xs → Filled (length xs) ys xs 0
filled_start xs e = record { whole = e; long = refl; done = zero-le; same = refl }

filled_on : {n : ℕ} {ys xs : List ℕ} {i : ℕ} (v : ℕ) → Filled n ys xs i → i < n → v ≡ get_or ys i 0 → Filled n ys (set xs i v) (i + 1)
filled_on {ys = ys} {xs = xs} {i = i} v f h e =
    let a : i < length xs = omega arith in
    let b : i < length ys = omega arith in
    record {
      whole = f.whole;
      long = simp length-set f.long;
      done = omega arith;
      same = rw (add-one, take-suc-set xs i v a, take-suc ys i 0 b, f.same, e);
    }

pub filled_end : {n : ℕ} {ys xs : List ℕ} {i : ℕ} → Filled n ys xs i → n ≤ i → xs ≡ ys
filled_end {ys = ys} {xs = xs} {i = i} f h = sym (take_all i xs (omega arith)) ∙ f.same ∙ take_all i ys (omega arith)

-- ---- the next links of a fresh pool

abbrev pub Chained : ℕ → List ℕ → ℕ → Type 0
Chained n xs i = Filled n (fresh_next 0 n) xs i

pub chained_start : (xs : List ℕ) → Chained (length xs) xs 0
chained_start xs = filled_start xs (length_fresh 0 (length xs))

pub chained_on : {n : ℕ} {xs : List ℕ} {i : ℕ} (v : ℕ) → Chained n xs i → i + 1 < n → v ≡ i + 1 + 1 → Chained n (set xs i v) (i + 1)
chained_on {n} {i = i} v f h e = filled_on v f (omega arith) (omega (arith, fresh_mid 0 n i (omega arith)))

pub chained_last : {n : ℕ} {xs : List ℕ} {i : ℕ} (v : ℕ) → Chained n xs i → i + 1 ≡ n → v ≡ 0 → Chained n (set xs i v) (i + 1)
chained_last {n} {i = i} v f h e = filled_on v f (omega arith) (e ∙ sym (fresh_end 0 n i (omega arith)))

-- the first link of the free chain
pub first_none : (n : ℕ) → n ≡ 0 → 0 ≡ fresh_first n
unfolding fresh_first
first_none n e = rw e

pub first_some : (n : ℕ) → (n ≡ 0 → ⊥) → 1 ≡ fresh_first n
unfolding fresh_first
first_some zero h = absurd (h refl)
first_some (suc n) h = refl

-- ---- the state of a fresh heap, and its world

module _ (kind : Kind) (n : ℕ) where
  world_is : (top : Option Words) → world_of (state_with kind n top) (replicate (words kind * n) 0) (replicate n 0) (fresh_next 0 n) (replicate n 0) ≡ fresh_with kind n top
  unfolding fresh_with fresh_core fresh_links state_with fresh_state chain_set
  world_is None = refl
  world_is (Some k) = refl

  pub laid_is : (top : Option Words) {s : State} {keys values next back : List ℕ} → s ≡ state_with kind n top → keys ≡ replicate (words kind * n) 0 → values ≡ replicate n 0 → next ≡ fresh_next 0 n
      → back ≡ replicate n 0 → world_of s keys values next back ≡ fresh_with kind n top
  laid_is top s k v x b = rw (s, k, v, x, b) (world_is top)
