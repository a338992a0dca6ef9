-- What a reader may take from `extended`: a refusal changes nothing, a sound world stays sound, and what is taken is what single public pushes in order would do.
use mathlib.Core.Path.{◌≡◌, refl, sym, ap, ◌∙◌}
use mathlib.Core.Logic.{◌≢◌}
use mathlib.Core.Bool.{cond}
use mathlib.Core.List.{List, [], ◌∷◌}
use Prim.Native.Nat.{ℕ, zero, suc}
use native.Mathlib.Omega.{arith}
use borrow.Author.Tests.{ne_eqb}
use lib.Dec.{eqb}
use Rattle.std.specs.Prelude.{Result, Ok, Err}
use Rattle.pool.specs.declared.lent.Entry.{Entry}
use Rattle.pool.specs.declared.refusal.Refusal.{Refusal}
use Rattle.pool.specs.declared.state.Answer.{Answer}
use Rattle.pool.specs.Codes.{refusal_code}
use Rattle.pool.proofs.Refusals.{refusal_some, refusal_of, refusal_named}
use Rattle.pool.specs.World.{World}
use Rattle.pool.specs.Sound.{Typed, Whole}
use Rattle.pool.specs.Examine.{examined}
use Rattle.pool.proofs.Follows.{examined_whole}
use Rattle.engine.specs.Outcome.{Outcome}
use Rattle.heap.specs.Calls.{push, pushed}
use Rattle.heap.proofs.Calls.{push_whole}
use Rattle.heap.proofs.Public.{passes}
use Rattle.heap.proofs.Determined.{Pool, over, state_in, pool_in}
use Rattle.bulk.specs.declared.extending.Stop.{Stop}
use Rattle.bulk.specs.Answers.{bulk_answered}
use Rattle.bulk.specs.Bulk.{Bulk, bulk, push_each, kept, extend, bulk_unless, extended}

-- ---- any world: a refusal changes nothing

kept_refused : (w : World) (b : Bulk) → (kept w b).code ≢ 0 → (kept w b).world ≡ w
unfolding kept
kept_refused w b = go b.code
  where
    go : (c : ℕ) → (elim c as (λ x. Bulk) [ zero ↦ record { code = c; world = b.world; place = b.place } | suc c ↦ bulk (suc c) w b.place ]).code ≢ 0
        → (elim c as (λ x. Bulk) [ zero ↦ record { code = c; world = b.world; place = b.place } | suc c ↦ bulk (suc c) w b.place ]).world ≡ w
    go zero n = absurd (n refl)
    go (suc c) n = refl

pub extended_refused : (w : World) (es : List Entry) → (extended w es).code ≢ 0 → (extended w es).world ≡ w
unfolding extended extend bulk_unless
extended_refused w es = go (examined w)
  where
    go : (c : ℕ) → (bulk_unless c w (extend w es)).code ≢ 0 → (bulk_unless c w (extend w es)).world ≡ w
    go zero n = kept_refused w (push_each 0 w es) n
    go (suc c) n = refl

-- ---- a sound world stays sound

after : Entry → World → World
after e w = (push w e.key.first e.key.second e.value).world

each_whole : (es : List Entry) (i : ℕ) {w : World} → Whole w → Whole (push_each i w es).world
unfolding push_each after
each_whole [] i h = h
each_whole (e ∷ es) i {w} h = go (push w e.key.first e.key.second e.value).code (each_whole es (suc i) (push_whole h e.key.first e.key.second e.value))
  where
    go : (c : ℕ) → Whole (push_each (suc i) (after e w) es).world → Whole (elim c as (λ x. Bulk) [ zero ↦ push_each (suc i) (after e w) es | suc c ↦ bulk (suc c) w i ]).world
    go zero k = k
    go (suc c) k = h

kept_whole : {w : World} (b : Bulk) → Whole w → Whole b.world → Whole (kept w b).world
unfolding kept
kept_whole {w} b h k = go b.code
  where
    go : (c : ℕ) → Whole (elim c as (λ x. Bulk) [ zero ↦ b | suc c ↦ bulk (suc c) w b.place ]).world
    go zero = k
    go (suc c) = h

pub extend_whole : {w : World} → Whole w → (es : List Entry) → Whole (extended w es).world
unfolding extended extend bulk_unless
extend_whole {w} h es = go (examined w)
  where
    go : (c : ℕ) → Whole (bulk_unless c w (extend w es)).world
    go zero = kept_whole (push_each 0 w es) h (each_whole es 0 h)
    go (suc c) = h

-- ---- what is taken

-- the world after single public pushes in order
unfoldable pub pushed_each : World → List Entry → World
pushed_each w [] = w
pushed_each w (e ∷ es) = pushed_each (pushed w e.key.first e.key.second e.value).world es

each_pushed : (es : List Entry) (i : ℕ) {w : World} → Whole w → (push_each i w es).code ≡ 0 → (push_each i w es).world ≡ pushed_each w es
unfolding push_each pushed_each pushed after
each_pushed [] i h = λ z. refl
each_pushed (e ∷ es) i {w} h = go (push w e.key.first e.key.second e.value).code (each_pushed es (suc i) (push_whole h e.key.first e.key.second e.value))
  where
    go : (c : ℕ) → ((push_each (suc i) (after e w) es).code ≡ 0 → (push_each (suc i) (after e w) es).world ≡ pushed_each (after e w) es)
        → (elim c as (λ x. Bulk) [ zero ↦ push_each (suc i) (after e w) es | suc c ↦ bulk (suc c) w i ]).code ≡ 0
        → (elim c as (λ x. Bulk) [ zero ↦ push_each (suc i) (after e w) es | suc c ↦ bulk (suc c) w i ]).world ≡ pushed_each w (e ∷ es)
    go zero ih z = ih z ∙ ap (λ (o : Outcome). pushed_each o.world es) (sym (passes h (push w e.key.first e.key.second e.value)))
    go (suc c) ih z = absurd (omega arith)

kept_taken : (w : World) (b : Bulk) → (kept w b).code ≡ 0 → (b.code ≡ 0) × ((kept w b).world ≡ b.world)
unfolding kept
kept_taken w b = go b.code
  where
    go : (c : ℕ) → (elim c as (λ x. Bulk) [ zero ↦ record { code = c; world = b.world; place = b.place } | suc c ↦ bulk (suc c) w b.place ]).code ≡ 0
        → (c ≡ 0) × ((elim c as (λ x. Bulk) [ zero ↦ record { code = c; world = b.world; place = b.place } | suc c ↦ bulk (suc c) w b.place ]).world ≡ b.world)
    go zero z = (refl, refl)
    go (suc c) z = absurd (omega arith)

-- in arrays of the types' sizes
pub extended_is_the_pushes : (w : World) → Typed w.links → (es : List Entry) → (extended w es).code ≡ 0 → (extended w es).world ≡ pushed_each w es
unfolding extended extend bulk_unless
extended_is_the_pushes w t es = go (examined w) refl
  where
    go : (c : ℕ) → examined w ≡ c → (bulk_unless c w (extend w es)).code ≡ 0 → (bulk_unless c w (extend w es)).world ≡ pushed_each w es
    go zero e z = let k = kept_taken w (push_each 0 w es) z in k.1 ∙ each_pushed es 0 ((examined_whole w t).0 e) k.0
    go (suc c) e z = absurd (omega arith)

-- ---- no second outcome

-- an answer is known by its numbers and its world
told_in : Bulk → Result Unit Stop
told_in b = cond (eqb b.code 0) (Ok tt) (Err (record { refusal = refusal_of b.code; place = b.place }))

told_in_lem : (t : Result Unit Stop) (w : World) → told_in (bulk_answered t w) ≡ t
unfolding told_in bulk_answered
told_in_lem (Ok tt) w = refl
told_in_lem (Err s) w =
    rw (ne_eqb (refusal_code s.refusal) 0 (refusal_some s.refusal)) (ap (λ (r : Refusal). Err (record { refusal = r; place = s.place })) (refusal_named s.refusal))

world_in_lem : (t : Result Unit Stop) (w : World) → (bulk_answered t w).world ≡ w
unfolding bulk_answered
world_in_lem (Ok x) w = refl
world_in_lem (Err s) w = refl

-- two answers, with the pools that they leave, that satisfy the contract of `extend` or `extend_wide` are the same
pub determined_extend : (w : World) (es : List Entry) (p p' : Pool) (r r' : Answer Unit Stop) → bulk_answered r.told (over r.state p) ≡ extended w es
    → bulk_answered r'.told (over r'.state p') ≡ extended w es → (r ≡ r') × (p ≡ p')
determined_extend w es p p' r r' e f =
    let t : r.told ≡ r'.told = sym (told_in_lem r.told (over r.state p)) ∙ ap told_in (e ∙ sym f) ∙ told_in_lem r'.told (over r'.state p') in
    let v : over r.state p ≡ over r'.state p' = sym (world_in_lem r.told (over r.state p)) ∙ ap (λ (b : Bulk). b.world) (e ∙ sym f) ∙ world_in_lem r'.told (over r'.state p') in
    ((λ j. record { told = t j; state = state_in (v j) }), ap pool_in v)
