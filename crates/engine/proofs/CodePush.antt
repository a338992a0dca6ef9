-- What the code of a push asks for, on plain values: what it is told, where its key belongs, and the pool after it.
use Prim.Native.Nat.{ℕ, zero, suc, ◌+◌, ◌-◌, ◌^◌, ◌<◌}
use mathlib.Core.Path.{◌≡◌, refl, sym, ap, subst, ◌∙◌}
use mathlib.Core.Bool.{Bool, true, false, cond}
use mathlib.Core.List.{List}
use native.Mathlib.Omega.{arith}
use borrow.Author.Tests.{ltb-true, ltb-false, le-leb, lt-leb, eq-eqb, ne_eqb}
use lib.Dec.{ltb, eqb}
use lib.ListN.{length, get_or, set}
use Rattle.rule.specs.Width.{distance}
use Rattle.keys.specs.Ordered.{width, ordered, well_formed, nan_key, proper}
use Rattle.keys.proofs.Ordered.{well_proper}
use Rattle.keys.specs.declared.kind.Kind.{Kind}
use Rattle.pool.specs.declared.state.Head.{Head}
use Rattle.pool.specs.World.{waiting_chain, free_chain, chain_count, Links, World, world, resized, store_key, top_of, place, within}
use Rattle.pool.specs.Sound.{limit}
use Rattle.pool.specs.Fine.{FineAt, Fine, Ready}
use Rattle.pool.specs.Core.{appended, unhooked, Unhooked, off, free_taken, place_in, entered}
use Rattle.pool.proofs.Fine.{unhooked_fine, fine_of}
use Rattle.pool.proofs.Push.{place_lt}
use Rattle.engine.specs.Outcome.{Outcome, answered, refused, done, unless, key_code}
use Rattle.engine.specs.Core.{or_else, push_code, push_core}

-- ---- the code

-- a key that is not above the top, and any key where there is none, is within
pub within_top : (topped : Bool) (k t : ℕ) → topped ≡ true → ltb t k ≡ false → within topped k t ≡ true
unfolding within
within_top topped k t e l = rw e (le-leb k t (ltb-false t k l))

pub within_none : (topped : Bool) (k t : ℕ) → topped ≡ false → within topped k t ≡ true
unfolding within
within_none topped k t e = rw e

above_top : (topped : Bool) (k t : ℕ) → topped ≡ true → ltb t k ≡ true → within topped k t ≡ false
unfolding within
above_top topped k t e l = rw e (lt-leb k t (ltb-true t k l))

module _ (kind : Kind) (a b : ℕ) where
  pub key_malformed : well_formed kind a b ≡ false → 5 ≡ key_code kind a b
  unfolding key_code
  key_malformed e = rw e

  pub key_nan : well_formed kind a b ≡ true → nan_key kind a ≡ true → 9 ≡ key_code kind a b
  unfolding key_code
  key_nan e f = rw (e, f)

  pub key_done : well_formed kind a b ≡ true → nan_key kind a ≡ false → 0 ≡ key_code kind a b
  unfolding key_code
  key_done e f = rw (e, f)

  -- a key that is told nothing may stand in a pool
  pub key_proper : key_code kind a b ≡ 0 → proper kind a b ≡ true
  unfolding key_code
  key_proper = go (well_formed kind a b) (nan_key kind a) refl refl
    where
      go : (x y : Bool) → well_formed kind a b ≡ x → nan_key kind a ≡ y → ◌≡◌ {A = ℕ} (cond x (cond y 9 0) 5) 0 → proper kind a b ≡ true
      go true false e f z = well_proper kind a b e f
      go true true e f z = absurd (omega arith)
      go false y e f z = absurd (omega arith)

module _ (h : Head) (f a b : ℕ) where
  -- what the key is told, where that is not 0
  pub code_key : (c : ℕ) → c ≡ key_code h.kind a b → (c ≡ 0 → ⊥) → c ≡ push_code h f a b
  unfolding push_code
  code_key c e n = go c n (cond (within h.topped (ordered h.kind a b) (top_of h)) (cond (eqb f 0) 7 0) 6) ∙ ap (λ (x : ℕ). or_else x (cond (within h.topped (ordered h.kind a b) (top_of h)) (cond (eqb f 0) 7 0) 6)) e
    where
      go : (x : ℕ) → (x ≡ 0 → ⊥) → (d : ℕ) → x ≡ or_else x d
      go zero z d = absurd (z refl)
      go (suc x) z d = refl

  -- and where it is 0
  pub code_past : key_code h.kind a b ≡ 0 → push_code h f a b ≡ cond (within h.topped (ordered h.kind a b) (top_of h)) (cond (eqb f 0) 7 0) 6
  unfolding push_code
  code_past e = ap (λ (x : ℕ). or_else x (cond (within h.topped (ordered h.kind a b) (top_of h)) (cond (eqb f 0) 7 0) 6)) e

  pub code_above : key_code h.kind a b ≡ 0 → h.topped ≡ true → ltb (top_of h) (ordered h.kind a b) ≡ true → 6 ≡ push_code h f a b
  code_above e p l = rw (code_past e, above_top h.topped (ordered h.kind a b) (top_of h) p l)

  pub code_full : key_code h.kind a b ≡ 0 → within h.topped (ordered h.kind a b) (top_of h) ≡ true → f ≡ 0 → 7 ≡ push_code h f a b
  code_full e i z = rw (code_past e, i, eq-eqb f 0 z)

  pub code_done : key_code h.kind a b ≡ 0 → within h.topped (ordered h.kind a b) (top_of h) ≡ true → (f ≡ 0 → ⊥) → 0 ≡ push_code h f a b
  code_done e i z = rw (code_past e, i, ne_eqb f 0 z)

  -- where the code is 0 there is a free slot
  pub code_free : push_code h f a b ≡ 0 → 0 < f
  unfolding push_code
  code_free = go (key_code h.kind a b) (within h.topped (ordered h.kind a b) (top_of h)) f
    where
      go : (k : ℕ) (y : Bool) (l : ℕ) → or_else k (cond y (cond (eqb l 0) 7 0) 6) ≡ 0 → 0 < l
      go (suc k) y l e = absurd (omega arith)
      go zero true zero e = absurd (omega arith)
      go zero true (suc l) e = omega arith
      go zero false l e = absurd (omega arith)

-- ---- the place

module _ (h : Head) (a b : ℕ) where
  pub place_top : (d : ℕ) → h.topped ≡ true → d ≡ distance (width h.kind) (ordered h.kind a b) (top_of h) → d ≡ place_in h a b
  unfolding place_in place
  place_top d p e = e ∙ ap (λ (t : Bool). place t (distance (width h.kind) (ordered h.kind a b) (top_of h))) (sym p)

  pub place_none : h.topped ≡ false → waiting_chain ≡ place_in h a b
  unfolding place_in place
  place_none p = ap (λ (t : Bool). place t (distance (width h.kind) (ordered h.kind a b) (top_of h))) (sym p)

  pub place_low : place_in h a b < chain_count
  unfolding place_in
  place_low = let l = place_lt h.topped h.kind (ordered h.kind a b) (top_of h) in omega arith

-- ---- the free slot

-- what was taken off the free chain of fine links leaves them fine, and is one of their slots
module _ (l k : Links) (slot : ℕ) (f : Fine l) (o : off k slot ≡ free_taken l) where
  pub taken_fine : Fine k
  unfolding free_taken
  taken_fine = fine_of (subst (FineAt (length l.next)) (sym (ap (λ (u : Unhooked). u.to) o)) (unhooked_fine _ l _ f))

  pub taken_slot : 0 < get_or l.first free_chain 0 → slot < length l.next
  unfolding free_taken
  taken_slot z = let e : slot ≡ get_or l.first free_chain 0 - 1 = ap (λ (u : Unhooked). u.slot) o in omega (arith, f.first.at free_chain)

-- one more is not too many
pub len_more : {h : Head} {k : Links} {keys values : List ℕ} → Ready h k keys values → h.len + 1 < 2 ^ 32
unfolding limit
len_more r = omega arith

-- ---- the whole push

module _ (w : World) (a b v code : ℕ) (told : code ≡ push_code w.head (get_or w.links.first free_chain 0) a b) where
  pub push_refused : (code ≡ 0 → ⊥) → answered code w 0 false 0 0 0 0 ≡ push_core w a b v
  unfolding push_core refused
  push_refused n =
      let o : Outcome = done (entered w (get_or w.links.first free_chain 0 - 1) a b v) 0 in
      go code n o ∙ ap (λ (x : ℕ). unless x w o) told
    where
      go : (x : ℕ) → (x ≡ 0 → ⊥) → (o : Outcome) → answered x w 0 false 0 0 0 0 ≡ unless x w o
      go zero z o = absurd (z refl)
      go (suc x) z o = refl

  -- with the links k and t, the slot, the key words and the place d that the calls gave
  pub push_done : (k t : Links) (slot d : ℕ) (ks : List ℕ) → code ≡ 0 → off k slot ≡ free_taken w.links → ks ≡ store_key w.head.kind w.keys slot a b
      → d ≡ place_in w.head a b → t ≡ appended k d slot → answered 0 (world (resized w.head (w.head.len + 1)) t ks (set w.values slot v)) 0 false 0 0 0 0 ≡ push_core w a b v
  unfolding push_core free_taken
  push_done k t slot d ks z o ek ed et =
      let i : ℕ = get_or w.links.first free_chain 0 - 1 in
      let es : slot ≡ i = ap (λ (u : Unhooked). u.slot) o in
      let eu : k ≡ unhooked w.links i = ap (λ (u : Unhooked). u.to) o in
      let e : world (resized w.head (w.head.len + 1)) t ks (set w.values slot v) ≡ entered w i a b v = rw (et, ek, ed, eu, es) in
      ap (λ (x : World). done x 0) e ∙ ap (λ (x : ℕ). unless x w (done (entered w i a b v) 0)) (sym z ∙ told)
