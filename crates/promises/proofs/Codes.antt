-- Every call gives the first code of the order that is due: each definition's tests, one after the other, against the tests that
-- stand by themselves.
use mathlib.Core.Path.{◌≡◌, refl, sym, ap, ◌∙◌}
use mathlib.Core.Bool.{Bool, true, false, cond, not, true≢false}
use mathlib.Core.Logic.{◌≢◌}
use mathlib.Core.List.{List, [], ◌∷◌}
use Prim.Native.Nat.{ℕ, zero, suc, ◌*◌, ◌%◌}
use native.Mathlib.Decide.{ℕ_discrete}
use native.Mathlib.Omega.{arith}
use borrow.Author.Tests.{eq-eqb, ne_eqb}
use lib.Dec.{eqb, ltb}
use lib.ListN.{length}
use Rattle.keys.specs.declared.kind.Kind.{Kind}
use Rattle.keys.specs.Ordered.{ordered, well_formed, nan_key}
use Rattle.pool.specs.World.{World, blank, free_chain, chain, top_key, within}
use Rattle.pool.specs.Sound.{Typed, Whole}
use Rattle.pool.specs.Examine.{fitting, examined}
use Rattle.pool.proofs.Exam.{fitting_fit, fit_fitting, examined_unfit, examined_le}
use Rattle.pool.proofs.Follows.{examined_whole}
use Rattle.engine.specs.Outcome.{Outcome, Listing, listing, list_unless, room_for, refused, done, given, unless, key_code, checked}
use Rattle.heap.specs.Calls.{push_into, push, pop, pop_out, constrain, clear, clear_to, top, len, list, listed, pushed, popped, constrained, cleared, cleared_to, top_read, len_read, made, made_at}
use Rattle.heap.proofs.Calls.{pop_8, pop_0}
use Rattle.batch.specs.Batch.{records, ran, batch_code, batch_unless, batch}
use Rattle.promises.specs.Runs.{Ask, AskPush, AskPop, AskConstrain, AskClear, AskClearTo, AskTop, AskLength, AskUnknown, outcome}
use Rattle.promises.specs.Fresh.{Lent, Start, New, NewAt, started}
use Rattle.promises.specs.Codes.{code_order, first_due, on_pool, on_key, on_push, due_of, due_of_fresh, due_of_list, due_of_batch, CodesInOrder}

-- the codes after 2
abbrev later : List ℕ
later = 3 ∷ 4 ∷ 5 ∷ 9 ∷ 6 ∷ 7 ∷ 8 ∷ []

-- ---- 1 and 2

-- what an examination is told, where the pool is fit or not
module _ (w : World) (r : ℕ) where
  pool_code : (f : Bool) → fitting w ≡ f → (e : ℕ) → examined w ≡ e → (c : ℕ) → (e ≡ 0 → c ≡ r) → (e ≢ 0 → c ≡ e)
      → c ≡ cond (not f) 1 (cond (not (eqb e 0)) 2 r)
  pool_code true p zero q c z n = z refl
  pool_code true p (suc zero) q c z n = absurd ((examined_unfit w).0 q (fitting_fit w p))
  pool_code true p (suc (suc zero)) q c z n = n (λ i. omega arith)
  pool_code true p (suc (suc (suc e))) q c z n = absurd (let l = examined_le w in omega arith)
  pool_code false p e q c z n =
      let one : examined w ≡ 1 = (examined_unfit w).1 (λ h. true≢false (sym (fit_fitting w h) ∙ p)) in
      n (λ i. omega arith) ∙ sym q ∙ one

module _ (w : World) where
  pool_first : (c : ℕ) (rest : ℕ → Bool) → (examined w ≡ 0 → c ≡ first_due later rest) → (examined w ≢ 0 → c ≡ examined w) → c ≡ first_due code_order (on_pool w rest)
  unfolding first_due code_order
  pool_first c rest = pool_code w (first_due later rest) (fitting w) refl (examined w) refl c

  checked_first : (o : Outcome) (rest : ℕ → Bool) → (examined w ≡ 0 → o.code ≡ first_due later rest) → (checked w o).code ≡ first_due code_order (on_pool w rest)
  unfolding checked unless refused
  checked_first o rest z = pool_first (unless (examined w) w o).code rest (λ e. ap (λ (c : ℕ). (unless c w o).code) e ∙ z e) (other (examined w))
    where
      other : (c : ℕ) → c ≢ 0 → (unless c w o).code ≡ c
      other zero n = absurd (n refl)
      other (suc c) n = refl

-- ---- 5 and 9

key_code_lem : (kind : Kind) (a b : ℕ) (w : World) (o : Outcome) → (unless (key_code kind a b) w o).code ≡ cond (not (well_formed kind a b)) 5 (cond (nan_key kind a) 9 o.code)
unfolding unless refused key_code
key_code_lem kind a b w o = go (well_formed kind a b) (nan_key kind a)
  where
    go : (x y : Bool) → (unless (cond x (cond y 9 0) 5) w o).code ≡ cond (not x) 5 (cond y 9 o.code)
    go true true = refl
    go true false = refl
    go false y = refl

-- ---- 6 and 7

push_code_lem : (w : World) (a b v : ℕ) → (push w a b v).code ≡ first_due later (on_key w.head.kind a b (on_push w a b))
unfolding push refused done push_into first_due
push_code_lem w a b v =
    key_code_lem w.head.kind a b w _
    ∙ ap (λ (n : ℕ). cond (not (well_formed w.head.kind a b)) 5 (cond (nan_key w.head.kind a) 9 n))
    (go (within w.head.topped (ordered w.head.kind a b) (top_key w)) (chain w free_chain))
  where
    go : (y : Bool) (free : List ℕ) → (elim y as (λ z. Outcome) [ false ↦ refused w 6 | true ↦ push_into w a b v free ]).code ≡ cond (not y) 6 (cond (eqb (length free) 0) 7 0)
    go false free = refl
    go true [] = refl
    go true (s ∷ free) = sym (ap (λ (x : Bool). cond x 7 0) (ne_eqb (length (s ∷ free)) 0 (λ e. omega arith)))

-- ---- 8

pop_code : {w : World} → Whole w → (pop w).code ≡ cond (eqb w.head.len 0) 8 0
unfolding refused pop_out given
pop_code {w} h = elim (ℕ_discrete w.head.len 0) [
  | yes e ↦ ap (λ (o : Outcome). o.code) (pop_8 h e) ∙ sym (ap (λ (x : Bool). cond x 8 0) (eq-eqb w.head.len 0 e))
  | no n ↦ ap (λ (o : Outcome). o.code) (pop_0 h (omega arith)) ∙ sym (ap (λ (x : Bool). cond x 8 0) (ne_eqb w.head.len 0 n))
]

-- ---- every call

call_codes : (w : World) → Typed w.links → (ask : Ask) → (outcome w ask).code ≡ first_due code_order (due_of w ask)
unfolding outcome due_of pushed popped constrained cleared cleared_to top_read len_read constrain clear clear_to top len done refused first_due
call_codes w t (AskPush a b v) = checked_first w (push w a b v) _ (λ e. push_code_lem w a b v)
call_codes w t AskPop = checked_first w (pop w) _ (λ e. pop_code ((examined_whole w t).0 e))
call_codes w t AskConstrain = checked_first w (constrain w) _ (λ e. refl)
call_codes w t AskClear = checked_first w (clear w) _ (λ e. refl)
call_codes w t (AskClearTo a b) = checked_first w (clear_to w a b) _ (λ e. key_code_lem w.head.kind a b w _)
call_codes w t AskTop = checked_first w (top w) _ (λ e. refl)
call_codes w t AskLength = checked_first w (len w) _ (λ e. refl)
call_codes w t AskUnknown = checked_first w (refused w 5) _ (λ e. refl)

-- ---- the fresh calls, and a listing

fitted : (w : World) (o : Outcome) (f : Bool) → (elim f as (λ z. Outcome) [ false ↦ refused w 1 | true ↦ o ]).code ≡ cond (not f) 1 o.code
unfolding refused
fitted w o true = refl
fitted w o false = refl

fresh_codes : (p : Lent) (s : Start) → (started p s).code ≡ first_due code_order (due_of_fresh p s)
unfolding started due_of_fresh made made_at done first_due code_order
fresh_codes p New = fitted _ _ (fitting (blank p.kind p.keys p.values p.next p.back))
fresh_codes p (NewAt a b) =
    let f = fitting (blank p.kind p.keys p.values p.next p.back) in
    fitted _ _ f ∙ ap (λ (n : ℕ). cond (not f) 1 n) (key_code_lem p.kind a b _ _)

roomy : (w : World) (ks vs : List ℕ) (l : Listing) (r : Bool) → (elim r as (λ z. Listing) [ false ↦ listing 4 w ks vs 0 | true ↦ l ]).code ≡ cond (not r) 4 l.code
roomy w ks vs l true = refl
roomy w ks vs l false = refl

list_codes : (w : World) (ks vs : List ℕ) → (listed w ks vs).code ≡ first_due code_order (due_of_list w ks vs)
unfolding listed list_unless list due_of_list first_due
list_codes w ks vs =
    pool_first w (list_unless (examined w) w ks vs (list w ks vs)).code _
    (λ e. ap (λ (c : ℕ). (list_unless c w ks vs (list w ks vs)).code) e ∙ roomy w ks vs _ (room_for w.head.kind w.head.len (length ks) (length vs)))
    (other (examined w))
  where
    other : (c : ℕ) → c ≢ 0 → (list_unless c w ks vs (list w ks vs)).code ≡ c
    other zero n = absurd (n refl)
    other (suc c) n = refl

-- ---- a batch as a whole

batch_codes : (w : World) (bs as' : List ℕ) → (batch w bs as').code ≡ first_due code_order (due_of_batch w bs as')
unfolding batch batch_unless ran batch_code due_of_batch first_due
batch_codes w bs as' = is (batch_code w bs as') ∙ pool_first w (batch_code w bs as') _ passed stopped
  where
    is : (c : ℕ) → (batch_unless c w as' (ran w bs as')).code ≡ c
    is zero = refl
    is (suc c) = refl

    rest : ℕ
    rest = cond (eqb (length bs % 32) 0) (cond (ltb (length as') (40 * records bs)) 4 0) 3

    passed : examined w ≡ 0 → batch_code w bs as' ≡ cond (not (eqb (length bs % 32) 0)) 3 (cond (ltb (length as') (40 * records bs)) 4 0)
    passed e = ap (λ (x : Bool). cond x rest (examined w)) (eq-eqb (examined w) 0 e) ∙ go (eqb (length bs % 32) 0)
      where
        go : (x : Bool) → ◌≡◌ {A = ℕ} (cond x (cond (ltb (length as') (40 * records bs)) 4 0) 3) (cond (not x) 3 (cond (ltb (length as') (40 * records bs)) 4 0))
        go true = refl
        go false = refl

    stopped : examined w ≢ 0 → batch_code w bs as' ≡ examined w
    stopped n = ap (λ (x : Bool). cond x rest (examined w)) (ne_eqb (examined w) 0 n)

pub codes_in_order : CodesInOrder
codes_in_order = record { calls = call_codes; fresh = fresh_codes; list = list_codes; batches = batch_codes }
