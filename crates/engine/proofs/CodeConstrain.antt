-- What the code of a constrain gives is what `drain_unless` and `constrain_core` say, on plain values: by what its calls gave and its tests found.
use Prim.Native.Nat.{ℕ, ◌-◌, ◌≤◌, ◌<◌}
use mathlib.Core.Path.{◌≡◌, refl, sym, ap, ◌∙◌}
use mathlib.Core.Bool.{Bool, true, false, cond, ◌||◌}
use mathlib.Core.List.{List}
use native.Mathlib.Omega.{arith}
use native.Mathlib.Decide.{ℕ_discrete}
use borrow.Author.Tests.{eq-eqb, ne_eqb}
use lib.Dec.{eqb}
use lib.ListN.{get_or}
use Rattle.keys.specs.Ordered.{ordered}
use Rattle.keys.specs.declared.kind.Kind.{Kind}
use Rattle.pool.specs.declared.state.Head.{Head}
use Rattle.pool.specs.World.{waiting_chain, Links, topped_at, key_word0, key_word1}
use Rattle.pool.specs.Core.{greatest_of, Drained, drained, drain_chain, busy_from, shifted, drain_unless, constrain_by, constrain_core}
use Rattle.pool.proofs.Steps.{busy_to, busy_some}
use Rattle.engine.specs.Core.{to_drain}

-- with the link, the key words and the links that the calls gave, and the head g as they left it
pub drain_gives : (h g : Head) (kind : Kind) (k : Links) (keys : List ℕ) (c link a b : ℕ) (t : Links) (moves : ℕ) → kind ≡ h.kind → g ≡ h → link ≡ greatest_of kind keys k.next (get_or k.first c 0)
    → a ≡ key_word0 kind keys (link - 1) → b ≡ key_word1 kind keys (link - 1) → drained t moves ≡ drain_chain kind keys (ordered kind a b) c k
    → shifted (topped_at g a b) t moves ≡ drain_unless false h k keys c
unfolding drain_unless
drain_gives h g kind k keys c link a b t moves same kept e p q d = ap (λ (x : Drained). shifted (topped_at g a b) x.to x.moves) d ∙ rw (kept, sym same, p, q, e)

-- ---- the chain to drain

-- with a top, where b is the first busy bucket, or bucket 0, or none
pub bucket_none : (first : List ℕ) {b : ℕ} {t : Bool} → t ≡ true → b ≡ busy_from waiting_chain first 0 → b ≡ waiting_chain → 0 ≡ to_drain t first
unfolding to_drain
bucket_none first {b} e p q = rw (e, sym p, eq-eqb b waiting_chain q)

pub bucket_some : (first : List ℕ) {b : ℕ} {t : Bool} → t ≡ true → b ≡ busy_from waiting_chain first 0 → (b ≡ waiting_chain → ⊥) → b ≡ to_drain t first
unfolding to_drain
bucket_some first {b} e p q = rw (e, sym p, ne_eqb b waiting_chain q)

-- there are no more buckets
pub bucket_low : (first : List ℕ) {b : ℕ} → b ≡ busy_from waiting_chain first 0 → b ≤ waiting_chain
bucket_low first e = let l = busy_to waiting_chain first 0 in omega (arith, l, e)

-- and with none
pub waiting_none : (first : List ℕ) {t : Bool} → t ≡ false → get_or first waiting_chain 0 ≡ 0 → 0 ≡ to_drain t first
unfolding to_drain
waiting_none first e q = rw (e, eq-eqb (get_or first waiting_chain 0) 0 q)

pub waiting_some : (first : List ℕ) {t : Bool} → t ≡ false → (get_or first waiting_chain 0 ≡ 0 → ⊥) → waiting_chain ≡ to_drain t first
unfolding to_drain
waiting_some first e q = rw (e, ne_eqb (get_or first waiting_chain 0) 0 q)

-- it is one of the chains and has a first link, if there is one
pub drain_some_lem : (t : Bool) (first : List ℕ) → (to_drain t first ≡ 0 → ⊥) → (to_drain t first ≤ waiting_chain) × (0 < get_or first (to_drain t first) 0)
unfolding to_drain
drain_some_lem false first n = elim (ℕ_discrete (get_or first waiting_chain 0) 0) [
  | yes e ↦ absurd (n (rw (eq-eqb (get_or first waiting_chain 0) 0 e)))
  | no q ↦ rw (ne_eqb (get_or first waiting_chain 0) 0 q) (omega arith, omega arith)
]
drain_some_lem true first n =
    let b : ℕ = busy_from waiting_chain first 0 in
    let l = busy_to waiting_chain first 0 in
    elim (ℕ_discrete b waiting_chain) [
      | yes e ↦ absurd (n (rw (eq-eqb b waiting_chain e)))
      | no q ↦ rw (ne_eqb b waiting_chain q) (omega (arith, l), busy_some waiting_chain first 0 (omega (arith, l)))
    ]

-- a constrain drains that chain, or does nothing
module _ (h : Head) (k : Links) (keys : List ℕ) where
  by_waiting : (s : Bool) → let c = cond s 0 waiting_chain in drain_unless (eqb c 0) h k keys c ≡ drain_unless s h k keys waiting_chain
  unfolding drain_unless
  by_waiting true = refl
  by_waiting false = refl

  by_bucket : (b : ℕ) (s t : Bool) → eqb b 0 ≡ s → let c = cond t 0 b in drain_unless (eqb c 0) h k keys c ≡ drain_unless (s || t) h k keys b
  unfolding drain_unless
  by_bucket b true true e = refl
  by_bucket b false true e = refl
  by_bucket b true false e = ap (λ (x : Bool). drain_unless x h k keys b) e
  by_bucket b false false e = ap (λ (x : Bool). drain_unless x h k keys b) e

  drains : (t : Bool) → let c = to_drain t k.first in drain_unless (eqb c 0) h k keys c ≡ constrain_by t h k keys
  unfolding to_drain constrain_by
  drains false = by_waiting (eqb (get_or k.first waiting_chain 0) 0)
  drains true = let b : ℕ = busy_from waiting_chain k.first 0 in by_bucket b (eqb b 0) (eqb b waiting_chain) refl

  -- by the chain that was found, and the test whether there is one
  pub drained_by : {c : ℕ} {s : Bool} → c ≡ to_drain h.topped k.first → eqb c 0 ≡ s → drain_unless s h k keys c ≡ constrain_core h k keys
  unfolding constrain_core
  drained_by {c} e q = ap (λ (x : Bool). drain_unless x h k keys c) (sym q) ∙ ap (λ (x : ℕ). drain_unless (eqb x 0) h k keys x) e ∙ drains h.topped
