-- The public calls: any call on any world that refuses changes nothing, a sound world passes the examination, and the core does what
-- document 01 says.
use mathlib.Core.Path.{◌≡◌, refl, sym, ap, ap₂, ◌∙◌, subst}
use mathlib.Core.Logic.{◌≢◌}
use mathlib.Core.Bool.{Bool, true, false, true≢false}
use mathlib.Core.List.{List, [], ◌∷◌, map}
use mathlib.Core.Option.{Option, none, some}
use Prim.Native.Nat.{ℕ, zero, suc}
use lib.ListN.{length, get_or}
use Rattle.rule.specs.Lists.{join}
use Rattle.rule.specs.Rule.{keep, Step, empty, held, pop as rulePop}
use Rattle.keys.specs.Ordered.{width, ordered}
use Rattle.keys.specs.declared.kind.Kind.{Kind}
use Rattle.keys.specs.Table.{bare}
use Rattle.keys.proofs.Ordered.{proper_zero}
use Rattle.pool.specs.World.{free_chain, blank, World, size, chain, key_at, top_key, within}
use Rattle.pool.specs.Sound.{Typed, Fit, Whole}
use Rattle.pool.specs.Examine.{examined, fitting}
use Rattle.pool.specs.Lay.{top_in, heap, fresh}
use Rattle.engine.specs.Outcome.{Outcome, Listing, listing, room_for, list_unless, refused, done, given, unless, key_code, checked}
use Rattle.pool.specs.Core.{fresh_core}
use Rattle.engine.specs.Core.{clear_core, clear_to_core, made_core, made_at_core}
use Rattle.heap.specs.Calls.{push_into, push, constrain, pop_out, pop, clear, clear_to, top, len, pushed, popped, constrained, cleared, cleared_to, top_read, len_read, made, made_at, over, words_at, list, listed}
use Rattle.engine.proofs.CodePush.{key_proper}
use Rattle.pool.proofs.Exam.{fitting_fit}
use Rattle.pool.proofs.FreshPool.{run}
use Rattle.pool.proofs.Follows.{examined_whole, Follows, fresh_core_lem, fresh_follows}
use Rattle.heap.proofs.Calls.{clear_core_lem, clear_to_core_lem}

-- ---- refused_changes_nothing

-- if the call is refused, it gives back the state and the pool that it got, and its code alone
unfoldable pub Fair : World → Outcome → Type 0
Fair w o = o.code ≢ 0 → o ≡ refused w o.code

fair_refused : (w : World) (c : ℕ) → Fair w (refused w c)
unfolding Fair refused
fair_refused w c n = refl

fair_done : (w : World) (o : Outcome) → o.code ≡ 0 → Fair w o
unfolding Fair
fair_done w o e n = absurd (n e)

fair_unless : (c : ℕ) (w : World) (o : Outcome) → Fair w o → Fair w (unless c w o)
unfolding unless
fair_unless zero w o f = f
fair_unless (suc c) w o f = fair_refused w (suc c)

fair_checked : (w : World) (o : Outcome) → Fair w o → Fair w (checked w o)
unfolding checked
fair_checked w o f = fair_unless (examined w) w o f

into_fair : (w : World) (a b v : ℕ) (l : List ℕ) → Fair w (push_into w a b v l)
unfolding push_into done
into_fair w a b v [] = fair_refused w 7
into_fair w a b v (s ∷ free) = fair_done w (push_into w a b v (s ∷ free)) refl

push_fair : (w : World) (a b v : ℕ) → Fair w (push w a b v)
unfolding push
push_fair w a b v = fair_unless (key_code w.head.kind a b) w _ (go (within w.head.topped (ordered w.head.kind a b) (top_key w)))
  where
    go : (y : Bool) → Fair w (elim y as (λ z. Outcome) [ false ↦ refused w 6 | true ↦ push_into w a b v (chain w free_chain) ])
    go false = fair_refused w 6
    go true = into_fair w a b v (chain w free_chain)

out_fair : (w : World) (r : Step ℕ) (o : Option ℕ) → Fair w (pop_out w r o)
unfolding pop_out given
out_fair w r none = fair_refused w 8
out_fair w r (some s) = fair_done w (pop_out w r (some s)) refl

pop_fair : (w : World) → Fair w (pop w)
unfolding pop
pop_fair w = out_fair w (rulePop (width w.head.kind) (key_at w) keep (heap w)) (rulePop (width w.head.kind) (key_at w) keep (heap w)).given

constrain_fair : (w : World) → Fair w (constrain w)
unfolding constrain done
constrain_fair w = fair_done w (constrain w) refl

clear_fair : (w : World) → Fair w (clear w)
unfolding clear done
clear_fair w = fair_done w (clear w) refl

to_fair : (w : World) (a b : ℕ) → Fair w (clear_to w a b)
unfolding clear_to done
to_fair w a b = fair_unless (key_code w.head.kind a b) w _ (fair_done w (done (fresh w.head.kind (size w) true a b) 0) refl)

top_fair : (w : World) → Fair w (top w)
unfolding top
top_fair w = fair_done w (top w) refl

len_fair : (w : World) → Fair w (len w)
unfolding len
len_fair w = fair_done w (len w) refl

made_fair : (kind : Kind) (keys values next back : List ℕ) → Fair (blank (bare 0) keys values next back) (made kind keys values next back)
unfolding made done
made_fair kind keys values next back = go (fitting (blank kind keys values next back))
  where
    go : (x : Bool) → Fair (blank (bare 0) keys values next back) (elim x as (λ z. Outcome) [ false ↦ refused (blank (bare 0) keys values next back) 1 | true ↦ done (fresh kind (length next) false 0 0) 0 ])
    go false = fair_refused (blank (bare 0) keys values next back) 1
    go true = fair_done (blank (bare 0) keys values next back) (done (fresh kind (length next) false 0 0) 0) refl

made_at_fair : (kind : Kind) (a b : ℕ) (keys values next back : List ℕ) → Fair (blank (bare 0) keys values next back) (made_at kind a b keys values next back)
unfolding made_at done
made_at_fair kind a b keys values next back = go (fitting (blank kind keys values next back))
  where
    go : (x : Bool) → Fair (blank (bare 0) keys values next back) (elim x as (λ z. Outcome) [
      | false ↦ refused (blank (bare 0) keys values next back) 1
      | true ↦ unless (key_code kind a b) (blank (bare 0) keys values next back) (done (fresh kind (length next) true a b) 0)
    ])
    go false = fair_refused (blank (bare 0) keys values next back) 1
    go true = fair_unless (key_code kind a b) (blank (bare 0) keys values next back) _ (fair_done (blank (bare 0) keys values next back) (done (fresh kind (length next) true a b) 0) refl)

-- the same of a listing: nothing is written, and the count is 0
unfoldable pub FairList : World → List ℕ → List ℕ → Listing → Type 0
FairList w ks vs l = l.code ≢ 0 → l ≡ record { code = l.code; world = w; keys = ks; values = vs; count = 0 }

list_fair : (w : World) (ks vs : List ℕ) (x : Bool) (l : Listing) → l.code ≡ 0 → FairList w ks vs (elim x as (λ z. Listing) [ false ↦ record { code = 4; world = w; keys = ks; values = vs; count = 0 } | true ↦ l ])
unfolding FairList
list_fair w ks vs false l e n = refl
list_fair w ks vs true l e n = absurd (n e)

list_is_fair : (w : World) (ks vs : List ℕ) → FairList w ks vs (list w ks vs)
unfolding list
list_is_fair w ks vs = list_fair w ks vs (room_for w.head.kind w.head.len (length ks) (length vs))
    (listing 0 w (over (join (map (words_at w) (held (heap w)))) ks) (over (map (λ s. get_or w.values s 0) (held (heap w))) vs) w.head.len) refl

listed_fair : (w : World) (ks vs : List ℕ) (c : ℕ) (l : Listing) → FairList w ks vs l → FairList w ks vs (list_unless c w ks vs l)
unfolding list_unless FairList
listed_fair w ks vs zero l f = f
listed_fair w ks vs (suc c) l f = λ n. refl

-- any call, any world: a call that is refused changes nothing
pub record RefusedChangesNothing : Type 0 where
  pub push : (w : World) (a b v : ℕ) → Fair w (pushed w a b v)
  pub pop : (w : World) → Fair w (popped w)
  pub constrain : (w : World) → Fair w (constrained w)
  pub clear : (w : World) → Fair w (cleared w)
  pub clear_to : (w : World) (a b : ℕ) → Fair w (cleared_to w a b)
  pub top : (w : World) → Fair w (top_read w)
  pub len : (w : World) → Fair w (len_read w)
  pub new : (kind : Kind) (keys values next back : List ℕ) → Fair (blank (bare 0) keys values next back) (made kind keys values next back)
  pub new_at : (kind : Kind) (a b : ℕ) (keys values next back : List ℕ) → Fair (blank (bare 0) keys values next back) (made_at kind a b keys values next back)
  pub list : (w : World) (ks vs : List ℕ) → FairList w ks vs (listed w ks vs)

pub refused_changes_nothing : RefusedChangesNothing
unfolding pushed popped constrained cleared cleared_to top_read len_read listed FairList
refused_changes_nothing = record {
  push = λ w a b v. fair_checked w (push w a b v) (push_fair w a b v);
  pop = λ w. fair_checked w (pop w) (pop_fair w);
  constrain = λ w. fair_checked w (constrain w) (constrain_fair w);
  clear = λ w. fair_checked w (clear w) (clear_fair w);
  clear_to = λ w a b. fair_checked w (clear_to w a b) (to_fair w a b);
  top = λ w. fair_checked w (top w) (top_fair w);
  len = λ w. fair_checked w (len w) (len_fair w);
  new = made_fair;
  new_at = made_at_fair;
  list = λ w ks vs. listed_fair w ks vs (examined w) (list w ks vs) (list_is_fair w ks vs);
}

-- ---- a sound world passes

module _ {w : World} (h : Whole w) where
  -- on a sound world a call is not stopped by the examination
  pub passes : (o : Outcome) → checked w o ≡ o
  unfolding checked unless
  passes o = ap (λ (c : ℕ). unless c w o) ((examined_whole w h.typed).1 h)

-- ---- the core does what document 01 says, in arrays of the types' sizes

same_unless : (c : ℕ) (w : World) (o o' : Outcome) → (c ≡ 0 → o ≡ o') → unless c w o ≡ unless c w o'
unfolding unless
same_unless zero w o o' f = f refl
same_unless (suc c) w o o' f = refl

module _ (w : World) (t : Typed w.links) where
  alike : (o o' : Outcome) → (Whole w → o ≡ o') → checked w o ≡ checked w o'
  unfolding checked
  alike o o' f = same_unless (examined w) w o o' (λ e. f ((examined_whole w t).0 e))

  pub cleared_core : checked w (clear_core w) ≡ cleared w
  unfolding cleared
  cleared_core = alike (clear_core w) (clear w) clear_core_lem

  pub cleared_to_core : (a b : ℕ) → checked w (clear_to_core w a b) ≡ cleared_to w a b
  unfolding cleared_to
  cleared_to_core a b = alike (clear_to_core w a b) (clear_to w a b) (λ h. clear_to_core_lem h a b)

-- ---- the two fresh calls

module _ (kind : Kind) (keys values next back : List ℕ) where
  made_by : (x : Bool) → fitting (blank kind keys values next back) ≡ x
      → made kind keys values next back ≡ (elim x as (λ z. Outcome) [ false ↦ refused (blank (bare 0) keys values next back) 1 | true ↦ done (fresh kind (length next) false 0 0) 0 ])
  unfolding made
  made_by x e = ap (λ (x : Bool). elim x as (λ z. Outcome) [ false ↦ refused (blank (bare 0) keys values next back) 1 | true ↦ done (fresh kind (length next) false 0 0) 0 ]) e

  made_core_by : (x : Bool) → fitting (blank kind keys values next back) ≡ x
      → made_core kind keys values next back ≡ (elim x as (λ z. Outcome) [ false ↦ refused (blank (bare 0) keys values next back) 1 | true ↦ done (fresh_core kind (length next) false 0 0) 0 ])
  unfolding made_core
  made_core_by x e = ap (λ (x : Bool). elim x as (λ z. Outcome) [ false ↦ refused (blank (bare 0) keys values next back) 1 | true ↦ done (fresh_core kind (length next) false 0 0) 0 ]) e

  made_fresh : fitting (blank kind keys values next back) ≡ true → fresh_core kind (length next) false 0 0 ≡ fresh kind (length next) false 0 0
  unfolding blank
  made_fresh e =
      let f : Fit (blank kind keys values next back) = fitting_fit (blank kind keys values next back) e in
      fresh_core_lem kind (length next) false 0 0 f.kind_ok f.small (λ q. refl) (λ q. refl) (proper_zero kind)

  -- the core does what document 01 says, on any pool
  pub made_core_lem : made_core kind keys values next back ≡ made kind keys values next back
  made_core_lem = go (fitting (blank kind keys values next back)) refl
    where
      go : (x : Bool) → fitting (blank kind keys values next back) ≡ x → made_core kind keys values next back ≡ made kind keys values next back
      go false e = made_core_by false e ∙ sym (made_by false e)
      go true e = made_core_by true e ∙ ap (λ (x : World). done x 0) (made_fresh e) ∙ sym (made_by true e)

  -- on a fit pool: a sound world, every chain empty but the free one
  pub made_follows : fitting (blank kind keys values next back) ≡ true → (made kind keys values next back ≡ done (fresh kind (length next) false 0 0) 0) × Follows (made kind keys values next back).world (empty none) (run 0 (length next))
  unfolding blank done top_in
  made_follows e =
      let f : Fit (blank kind keys values next back) = fitting_fit (blank kind keys values next back) e in (
        made_by true e,
        subst (λ (o : Outcome). Follows o.world (empty none) (run 0 (length next))) (sym (made_by true e))
            (fresh_follows kind (length next) false 0 0 f.kind_ok f.small (λ q. refl) (λ q. refl) (proper_zero kind)),
      )

  module _ (a b : ℕ) where
    made_at_by : (x : Bool) (y : ℕ) → fitting (blank kind keys values next back) ≡ x → key_code kind a b ≡ y → made_at kind a b keys values next back ≡ (elim x as (λ z. Outcome) [
      | false ↦ refused (blank (bare 0) keys values next back) 1
      | true ↦ unless y (blank (bare 0) keys values next back) (done (fresh kind (length next) true a b) 0)
    ])
    unfolding made_at
    made_at_by x y e p = ap₂ (λ (x : Bool) (y : ℕ). elim x as (λ z. Outcome) [
      | false ↦ refused (blank (bare 0) keys values next back) 1
      | true ↦ unless y (blank (bare 0) keys values next back) (done (fresh kind (length next) true a b) 0)
    ]) e p

    at_core_by : (x : Bool) (y : ℕ) → fitting (blank kind keys values next back) ≡ x → key_code kind a b ≡ y → made_at_core kind a b keys values next back ≡ (elim x as (λ z. Outcome) [
      | false ↦ refused (blank (bare 0) keys values next back) 1
      | true ↦ unless y (blank (bare 0) keys values next back) (done (fresh_core kind (length next) true a b) 0)
    ])
    unfolding made_at_core
    at_core_by x y e p = ap₂ (λ (x : Bool) (y : ℕ). elim x as (λ z. Outcome) [
      | false ↦ refused (blank (bare 0) keys values next back) 1
      | true ↦ unless y (blank (bare 0) keys values next back) (done (fresh_core kind (length next) true a b) 0)
    ]) e p

    at_fresh : fitting (blank kind keys values next back) ≡ true → key_code kind a b ≡ 0 → fresh_core kind (length next) true a b ≡ fresh kind (length next) true a b
    unfolding blank
    at_fresh e p =
        let f : Fit (blank kind keys values next back) = fitting_fit (blank kind keys values next back) e in
        fresh_core_lem kind (length next) true a b f.kind_ok f.small (λ q. absurd (true≢false q)) (λ q. absurd (true≢false q)) (key_proper kind a b p)

    pub made_at_core_lem : made_at_core kind a b keys values next back ≡ made_at kind a b keys values next back
    unfolding unless
    made_at_core_lem = go (fitting (blank kind keys values next back)) (key_code kind a b) refl refl
      where
        go : (x : Bool) (y : ℕ) → fitting (blank kind keys values next back) ≡ x → key_code kind a b ≡ y → made_at_core kind a b keys values next back ≡ made_at kind a b keys values next back
        go false y e p = at_core_by false y e p ∙ sym (made_at_by false y e p)
        go true (suc c) e p = at_core_by true (suc c) e p ∙ sym (made_at_by true (suc c) e p)
        go true zero e p = at_core_by true 0 e p ∙ ap (λ (x : World). done x 0) (at_fresh e p) ∙ sym (made_at_by true 0 e p)

    pub made_at_follows : fitting (blank kind keys values next back) ≡ true → key_code kind a b ≡ 0
        → (made_at kind a b keys values next back ≡ done (fresh kind (length next) true a b) 0) × Follows (made_at kind a b keys values next back).world (empty (some (ordered kind a b))) (run 0 (length next))
    unfolding blank done top_in unless
    made_at_follows e p =
        let f : Fit (blank kind keys values next back) = fitting_fit (blank kind keys values next back) e in (
          made_at_by true 0 e p,
          subst (λ (o : Outcome). Follows o.world (empty (some (ordered kind a b))) (run 0 (length next))) (sym (made_at_by true 0 e p))
              (fresh_follows kind (length next) true a b f.kind_ok f.small (λ q. absurd (true≢false q)) (λ q. absurd (true≢false q)) (key_proper kind a b p)),
        )
