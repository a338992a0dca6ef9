-- What the code of the calls that lay a fresh pool asks for, on plain values: the fresh world, and what each call gives at each way out.
use mathlib.Core.Path.{◌≡◌, refl, sym, ap, ◌∙◌}
use mathlib.Core.Bool.{Bool, true, false}
use mathlib.Core.List.{List}
use Prim.Native.Nat.{ℕ, zero, suc, ◌^◌, ◌<◌}
use native.Mathlib.Omega.{arith}
use lib.ListN.{length}
use Rattle.std.proofs.Common.{Result, Err, Some, None}
use Rattle.keys.specs.declared.kind.Kind.{Kind}
use Rattle.keys.specs.declared.words.Words.{Words}
use Rattle.keys.specs.Table.{bare}
use Rattle.pool.specs.declared.refusal.Refusal.{Refusal}
use Rattle.pool.specs.declared.refusal.Refusal.TheVariants.{Unfit}
use Rattle.pool.specs.declared.state.State.{State}
use Rattle.pool.specs.declared.lent.Pool.{Pool}
use Rattle.pool.specs.declared.lent.View.{View}
use Rattle.pool.specs.Codes.{refusal_code, told}
use Rattle.pool.specs.Fresh.{Pooled, fresh_with}
use Rattle.pool.specs.World.{World, world_of, blank, chain_set, no_state, size}
use Rattle.pool.specs.Core.{fresh_first, fresh_state}
use Rattle.pool.specs.Sound.{limit, Typed, Fit}
use Rattle.pool.specs.Examine.{fits, fitting, examined}
use Rattle.pool.proofs.Exam.{fitting_fit}
use Rattle.engine.specs.Outcome.{Outcome, answered, refused, done, unless, checked, key_code}
use Rattle.engine.specs.Core.{or_else, clear_core, clear_to_core, made_core, made_at_core}
use Rattle.heap.specs.Calls.{clear_to, cleared, cleared_to, made, made_at}
use Rattle.heap.proofs.Public.{made_core_lem, made_at_core_lem, cleared_core, cleared_to_core}
use Rattle.pool.proofs.Refusals.{refusal_some}
use Rattle.heap.proofs.CodeChecked.{passed, passed_whole}

fit_small : {w : World} → Fit w → size w < 2 ^ 32
unfolding limit
fit_small f = omega arith

fit_pooled : {w : World} → Fit w → Pooled w.head.kind w.keys w.values w.links.next w.links.back
fit_pooled f = record { words' = f.some_keys; values' = f.some_values; backs = f.some_backs }

-- a code that is not 0 stops the call
pub told_off : (w : World) (c k : ℕ) → c ≡ k → (c ≡ 0 → ⊥) → (o : Outcome) → refused w c ≡ unless k w o
unfolding unless
told_off w zero k e n o = absurd (n refl)
told_off w (suc c) k e n o = ap (λ (x : ℕ). unless x w o) e

-- ---- new and new_at: they get a kind and a pool

-- the code's test
abbrev pub tested : Kind → List ℕ → List ℕ → List ℕ → List ℕ → Bool
tested kind keys values next back = fits kind (length keys) (length values) (length next) (length back)

-- of a pool by its view
pub tested_seen : {x y : Bool} (kind : Kind) (p : Pool) (v : View) → v.keys.now ≡ p.keys.now → v.values.now ≡ p.values.now → v.next.now ≡ p.next.now → v.back.now ≡ p.back.now
    → x ≡ tested kind v.keys.now v.values.now v.next.now v.back.now → x ≡ y → tested kind p.keys.now p.values.now p.next.now p.back.now ≡ y
tested_seen kind p v a b c d e f = rw (← a, ← b, ← c, ← d) (sym e ∙ f)

module _ (kind : Kind) (keys values next back : List ℕ) where
  tested_is : (x : Bool) → tested kind keys values next back ≡ x → fitting (blank kind keys values next back) ≡ x
  unfolding blank fitting
  tested_is x e = e

  tested_fit : tested kind keys values next back ≡ true → Fit (blank kind keys values next back)
  tested_fit f = fitting_fit _ (tested_is true f)

  pub tested_small : tested kind keys values next back ≡ true → length next < 2 ^ 32
  unfolding blank
  tested_small f = fit_small (tested_fit f)

  pub tested_pooled : tested kind keys values next back ≡ true → Pooled kind keys values next back
  unfolding blank
  tested_pooled f = fit_pooled (tested_fit f)

  -- "A refused fresh returns a state all zero (kind 0)."
  none : (code : ℕ) (s : State) → s ≡ no_state → answered code (world_of s keys values next back) 0 false 0 0 0 0 ≡ refused (blank (bare 0) keys values next back) code
  unfolding no_state blank refused
  none code s e = rw e

  pub made_unfit : (t : Result (Unit {0}) Refusal) (s : State) → tested kind keys values next back ≡ false → t ≡ Err Unfit → s ≡ no_state
      → answered (told t) (world_of s keys values next back) 0 false 0 0 0 0 ≡ made kind keys values next back
  unfolding made told refusal_code
  made_unfit t s f q e = rw (q, made, tested_is false f) (none 1 s e)

  pub made_fresh : (w : World) → tested kind keys values next back ≡ true → w ≡ fresh_with kind (length next) None → answered 0 w 0 false 0 0 0 0 ≡ made kind keys values next back
  unfolding made_core done fresh_with
  made_fresh w f e = rw (← made_core_lem kind keys values next back, made_core, tested_is true f, e)

  module _ (a b : ℕ) where
    pub made_at_unfit : (t : Result (Unit {0}) Refusal) (s : State) → tested kind keys values next back ≡ false → t ≡ Err Unfit → s ≡ no_state
        → answered (told t) (world_of s keys values next back) 0 false 0 0 0 0 ≡ made_at kind a b keys values next back
    unfolding made_at told refusal_code
    made_at_unfit t s f q e = rw (q, made_at, tested_is false f) (none 1 s e)

    pub made_at_malformed : (t : Result (Unit {0}) Refusal) (r : Refusal) (s : State) → tested kind keys values next back ≡ true → told {T = Unit {0}} (Err r) ≡ key_code kind a b
        → t ≡ Err r → s ≡ no_state → answered (told t) (world_of s keys values next back) 0 false 0 0 0 0 ≡ made_at kind a b keys values next back
    unfolding made_at told
    made_at_malformed t r s f m q e = rw (q, made_at, tested_is true f)
        (none (refusal_code r) s e ∙ told_off (blank (bare 0) keys values next back) (refusal_code r) (key_code kind a b) m (refusal_some r) _)

  pub made_at_fresh : (k : Words) (w : World) → tested kind keys values next back ≡ true → 0 ≡ key_code kind k.first k.second → w ≡ fresh_with kind (length next) (Some k)
      → answered 0 w 0 false 0 0 0 0 ≡ made_at kind k.first k.second keys values next back
  unfolding made_at_core unless done fresh_with
  made_at_fresh k w f m e = rw (← made_at_core_lem kind keys values next back k.first k.second, made_at_core, tested_is true f, ← m, e)

-- ---- clear and clear_to, where the examination passes

-- two tests, one after the other
pub first_told : (c e k : ℕ) → c ≡ e → (c ≡ 0 → ⊥) → c ≡ or_else e k
unfolding or_else
first_told zero e k q n = absurd (n refl)
first_told (suc c) e k q n = ap (λ (x : ℕ). or_else x k) q

pub then_told : {c : ℕ} (e k : ℕ) → 0 ≡ e → c ≡ k → c ≡ or_else e k
unfolding or_else
then_told e k z q = q ∙ ap (λ (x : ℕ). or_else x k) z

pub none_told : (e k : ℕ) → 0 ≡ or_else e k → (0 ≡ e) × (0 ≡ k)
unfolding or_else
none_told zero k q = (refl, q)
none_told (suc e) k q = absurd (omega arith)

either_told : (w : World) (c e k : ℕ) → c ≡ or_else e k → (c ≡ 0 → ⊥) → (o : Outcome) → refused w c ≡ unless e w (unless k w o)
unfolding or_else unless
either_told w c zero k q n o = told_off w c k q n o
either_told w c (suc e) k q n o = ap (refused w) q

-- of a pool by its view
pub seen_to : {n : ℕ} {w w' : World} (a b : ℕ) → w ≡ w' → n ≡ or_else (examined w) (key_code w.head.kind a b) → n ≡ or_else (examined w') (key_code w'.head.kind a b)
seen_to a b s e = e ∙ ap (λ (w : World). or_else (examined w) (key_code w.head.kind a b)) s

module _ (w : World) (typed : Typed w.links) (e : 0 ≡ examined w) where
  passed_fit : Fit w
  passed_fit = (passed_whole w 0 e typed refl).fit

  pub passed_small : size w < 2 ^ 32
  passed_small = fit_small passed_fit

  pub passed_pooled : Pooled w.head.kind w.keys w.values w.links.next w.links.back
  passed_pooled = fit_pooled passed_fit

  pub cleared_fresh : (w' : World) → w' ≡ fresh_with w.head.kind (size w) None → answered 0 w' 0 false 0 0 0 0 ≡ cleared w
  unfolding clear_core done fresh_with
  cleared_fresh w' q = ap (λ (x : World). done x 0) q ∙ passed w 0 e (clear_core w) refl ∙ cleared_core w typed

  pub cleared_to_fresh : (k : Words) (w' : World) → 0 ≡ key_code w.head.kind k.first k.second → w' ≡ fresh_with w.head.kind (size w) (Some k) → answered 0 w' 0 false 0 0 0 0 ≡ cleared_to w k.first k.second
  unfolding clear_to_core unless done fresh_with
  cleared_to_fresh k w' m q = ap (λ (x : World). done x 0) q ∙ ap (λ (x : ℕ). unless x w (done (fresh_with w.head.kind (size w) (Some k)) 0)) m ∙ passed w 0 e (clear_to_core w k.first k.second) refl ∙ cleared_to_core w typed k.first k.second

pub cleared_to_refused : (w : World) (a b : ℕ) (r : Refusal) → refusal_code r ≡ or_else (examined w) (key_code w.head.kind a b) → answered (refusal_code r) w 0 false 0 0 0 0 ≡ cleared_to w a b
unfolding cleared_to clear_to checked refused
cleared_to_refused w a b r q = either_told w (refusal_code r) (examined w) (key_code w.head.kind a b) q (refusal_some r) _

-- with no slots and no kind the fresh state is all zero
pub no_slots : fresh_state (bare 0) 0 false 0 0 ≡ no_state
unfolding no_state fresh_state fresh_first chain_set
no_slots = refl
