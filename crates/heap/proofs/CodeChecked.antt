-- What the code of the calls asks of the examination, on plain values: a call that it stops is refused with its code, and one that it passes acts on a sound pool.
use mathlib.Core.Path.{◌≡◌, refl, sym, ap, ◌∙◌}
use mathlib.Core.Bool.{false}
use mathlib.Core.List.{List}
use Prim.Native.Nat.{ℕ, zero, suc}
use Rattle.std.proofs.Common.{Ok, Err}
use Rattle.pool.specs.declared.refusal.Refusal.{Refusal}
use Rattle.pool.specs.declared.state.State.{State}
use Rattle.pool.specs.declared.lent.Pool.{Pool}
use Rattle.pool.specs.declared.lent.View.{View}
use Rattle.pool.specs.Codes.{refusal_code, told}
use Rattle.pool.specs.Lent.{world_in, world_seen}
use Rattle.pool.specs.World.{World}
use Rattle.pool.specs.Sound.{Typed, Whole}
use Rattle.pool.specs.Examine.{examined}
use Rattle.pool.proofs.Follows.{examined_whole}
use Rattle.engine.specs.Outcome.{Outcome, answered, refused, unless, checked, Listing, listing, list_unless}
use Rattle.pool.proofs.Refusals.{refusal_some}

module _ (w : World) (code : ℕ) (e : code ≡ examined w) where
  -- the code is not 0: the state and the pool that were handed in, and 0 for all else
  pub stopped : (o : Outcome) → (code ≡ 0 → ⊥) → answered code w 0 false 0 0 0 0 ≡ checked w o
  unfolding checked unless refused
  stopped o n = go code n ∙ ap (λ (c : ℕ). unless c w o) e
    where
      go : (c : ℕ) → (c ≡ 0 → ⊥) → answered c w 0 false 0 0 0 0 ≡ unless c w o
      go zero z = absurd (z refl)
      go (suc c) z = refl

  -- and of a listing
  pub stopped_list : (ks vs : List ℕ) (l : Listing) → (code ≡ 0 → ⊥) → listing code w ks vs 0 ≡ list_unless (examined w) w ks vs l
  unfolding list_unless
  stopped_list ks vs l n = go code n ∙ ap (λ (c : ℕ). list_unless c w ks vs l) e
    where
      go : (c : ℕ) → (c ≡ 0 → ⊥) → listing c w ks vs 0 ≡ list_unless c w ks vs l
      go zero z = absurd (z refl)
      go (suc c) z = refl

  -- the code is 0: the call acts
  pub passed : (o : Outcome) → code ≡ 0 → o ≡ checked w o
  unfolding checked unless
  passed o z = ap (λ (c : ℕ). unless c w o) (sym z ∙ e)

  pub passed_list : (ks vs : List ℕ) (l : Listing) → code ≡ 0 → l ≡ list_unless (examined w) w ks vs l
  unfolding list_unless
  passed_list ks vs l z = ap (λ (c : ℕ). list_unless c w ks vs l) (sym z ∙ e)

  -- on a sound pool
  pub passed_whole : Typed w.links → code ≡ 0 → Whole w
  passed_whole t z = (examined_whole w t).0 (sym e ∙ z)

-- ---- where the examination was told as a result

-- a view shows the pool that it was made of
module _ (s : State) (p : Pool) (v : View) (a : v.keys.now ≡ p.keys.now) (b : v.values.now ≡ p.values.now) (c : v.next.now ≡ p.next.now) (d : v.back.now ≡ p.back.now) where
  pub seen : world_seen s v ≡ world_in s p
  seen = rw (a, b, c, d)

  pub viewed : {n : ℕ} → n ≡ examined (world_seen s v) → n ≡ examined (world_in s p)
  viewed e = e ∙ ap examined seen

module _ (w : World) (r : Refusal) (e : told {T = Unit {0}} (Err r) ≡ examined w) where
  pub stops : (o : Outcome) → answered (refusal_code r) w 0 false 0 0 0 0 ≡ checked w o
  unfolding told
  stops o = stopped w (refusal_code r) e o (refusal_some r)

  pub stops_list : (ks vs : List ℕ) (l : Listing) → listing (refusal_code r) w ks vs 0 ≡ list_unless (examined w) w ks vs l
  unfolding told
  stops_list ks vs l = stopped_list w (refusal_code r) e ks vs l (refusal_some r)

module _ (w : World) (x : Unit {0}) (e : told (Ok x) ≡ examined w) where
  pub acts : (o : Outcome) → o ≡ checked w o
  unfolding told
  acts o = passed w 0 e o refl

  pub sound_pool : Typed w.links → Whole w
  unfolding told
  sound_pool t = passed_whole w 0 e t refl
