-- On a sound world the test of every entry answers as single pushes in order would, and pushes of entries that pass it all succeed.
use mathlib.Core.Path.{◌≡◌, refl, sym, ap, ◌∙◌}
use mathlib.Core.Logic.{◌⊎◌, inl, inr}
use mathlib.Core.Bool.{Bool, true, false, cond}
use mathlib.Core.List.{List, [], ◌∷◌}
use Prim.Native.Nat.{ℕ, zero, suc, ◌+◌, ◌-◌}
use native.Mathlib.Omega.{arith}
use borrow.Author.Tests.{eq-eqb, ne_eqb}
use lib.Dec.{eqb}
use lib.ListN.{length}
use Rattle.keys.specs.Ordered.{ordered}
use Rattle.pool.specs.declared.state.Head.{Head}
use Rattle.pool.specs.World.{free_chain, World, resized, top_key, size, chain, within}
use Rattle.pool.specs.Sound.{Whole}
use Rattle.pool.proofs.Follows.{examined_whole, free_len}
use Rattle.engine.specs.Outcome.{Outcome, refused, done, key_code}
use Rattle.engine.specs.Core.{push_code}
use Rattle.engine.proofs.CodePush.{code_key, code_past}
use Rattle.heap.specs.Calls.{push, push_into}
use Rattle.heap.proofs.Calls.{push_key_lem, push_6, push_free, push_follows, push_core_lem, push_whole}
use Rattle.pool.specs.declared.lent.Entry.{Entry}
use Rattle.bulk.specs.Bulk.{Bulk, bulk, push_each, kept, extend, bulk_unless, extended}
use Rattle.bulk.specs.Core.{Found, found, tested, push_all}

-- ---- one entry

-- what a push is told where so many slots are free
module _ (h : Head) (f a b : ℕ) where
  told_key : (c : ℕ) → key_code h.kind a b ≡ suc c → push_code h f a b ≡ suc c
  told_key c p = sym (code_key h f a b (suc c) (sym p) (λ z. absurd (omega arith)))

  told_6 : key_code h.kind a b ≡ 0 → within h.topped (ordered h.kind a b) (ordered h.kind h.top0 h.top1) ≡ false → push_code h f a b ≡ 6
  told_6 p q = rw (code_past h f a b p, q)

  told_free : key_code h.kind a b ≡ 0 → within h.topped (ordered h.kind a b) (ordered h.kind h.top0 h.top1) ≡ true → push_code h f a b ≡ cond (eqb f 0) 7 0
  told_free p q = rw (code_past h f a b p, q)

-- a push that is taken: kind and top stay, and one slot less is free; and one that is refused
record Takes (w : World) (f a b v : ℕ) : Type 0 where
  code : (push w a b v).code ≡ 0
  told : push_code w.head f a b ≡ 0
  head : (push w a b v).world.head ≡ resized w.head (w.head.len + 1)
  rest : f - 1 ≡ length (chain (push w a b v).world free_chain)

record Refuses (w : World) (f a b v : ℕ) : Type 0 where
  less : ℕ
  code : (push w a b v).code ≡ suc less
  told : push_code w.head f a b ≡ suc less

module _ {w : World} (h : Whole w) (f a b v : ℕ) (free : f ≡ length (chain w free_chain)) where
  step_free : key_code w.head.kind a b ≡ 0 → within w.head.topped (ordered w.head.kind a b) (top_key w) ≡ true → (l : List ℕ) → chain w free_chain ≡ l → Takes w f a b v ⊎ Refuses w f a b v
  unfolding push_into done refused
  step_free p q [] e = inr (record {
    less = 6;
    code = ap (λ (o : Outcome). o.code) (push_free w a b v p q ∙ ap (push_into w a b v) e);
    told = told_free w.head f a b p q ∙ ap (λ (x : Bool). cond {A = ℕ} x 7 0) (eq-eqb f 0 (free ∙ ap length e));
  })
  step_free p q (s ∷ l) e =
      let r = push_follows h a b v p q s l e in
      let n : f ≡ suc (length l) = free ∙ ap length e in
      let m : length (chain (push w a b v).world free_chain) ≡ length l = ap length r.1.free' in
      inl (record {
        code = r.0;
        told = told_free w.head f a b p q ∙ ap (λ (x : Bool). cond {A = ℕ} x 7 0) (ne_eqb f 0 (λ z. absurd (omega arith)));
        head = ap (λ (o : Outcome). o.world.head) (push_free w a b v p q ∙ ap (push_into w a b v) e);
        rest = omega arith;
      })

  step : Takes w f a b v ⊎ Refuses w f a b v
  unfolding refused
  step = go (key_code w.head.kind a b) (within w.head.topped (ordered w.head.kind a b) (top_key w)) refl refl
    where
      go : (x : ℕ) (y : Bool) → key_code w.head.kind a b ≡ x → within w.head.topped (ordered w.head.kind a b) (top_key w) ≡ y → Takes w f a b v ⊎ Refuses w f a b v
      go (suc c) y p q = inr (record { less = c; code = ap (λ (o : Outcome). o.code) (push_key_lem w a b v c p); told = told_key w.head f a b c p })
      go zero false p q = inr (record { less = 5; code = ap (λ (o : Outcome). o.code) (push_6 w a b v p q); told = told_6 w.head f a b p q })
      go zero true p q = step_free p q (chain w free_chain) refl

-- ---- all entries

-- the pushes in order end as the test says, and in this world if none is refused
record Agrees (b : Bulk) (t : Found) (w : World) : Type 0 where
  code : b.code ≡ t.code
  place : b.place ≡ t.place
  all : t.code ≡ 0 → b ≡ bulk 0 w 0

agrees_as : {b b' : Bulk} {t t' : Found} {w w' : World} → b' ≡ b → t' ≡ t → w' ≡ w → Agrees b t w → Agrees b' t' w'
agrees_as p q r a = record {
  code = ap (λ (b : Bulk). b.code) p ∙ a.code ∙ sym (ap (λ (t : Found). t.code) q);
  place = ap (λ (b : Bulk). b.place) p ∙ a.place ∙ sym (ap (λ (t : Found). t.place) q);
  all = λ z. p ∙ a.all (sym (ap (λ (t : Found). t.code) q) ∙ z) ∙ sym (ap (λ (w : World). bulk 0 w 0) r);
}

module _ (e : Entry) (es : List Entry) where
  each_by : (i : ℕ) (w : World) (c : ℕ) → (push w e.key.first e.key.second e.value).code ≡ c
      → push_each i w (e ∷ es) ≡ (elim c as (λ x. Bulk) [ zero ↦ push_each (suc i) (push w e.key.first e.key.second e.value).world es | suc c ↦ bulk (suc c) w i ])
  unfolding push_each
  each_by i w c p = ap (λ (x : ℕ). elim x as (λ y. Bulk) [ zero ↦ push_each (suc i) (push w e.key.first e.key.second e.value).world es | suc c ↦ bulk (suc c) w i ]) p

  pub tested_by : (h : Head) (f i c : ℕ) → push_code h f e.key.first e.key.second ≡ c → tested h f i (e ∷ es) ≡ (elim c as (λ x. Found) [ zero ↦ tested h (f - 1) (suc i) es | suc c ↦ found (suc c) i ])
  unfolding tested
  tested_by h f i c p = ap (λ (x : ℕ). elim x as (λ y. Found) [ zero ↦ tested h (f - 1) (suc i) es | suc c ↦ found (suc c) i ]) p

  pub all_by : {w : World} → Whole w → push_all w (e ∷ es) ≡ push_all (push w e.key.first e.key.second e.value).world es
  unfolding push_all
  all_by h = ap (λ (o : Outcome). push_all o.world es) (push_core_lem h e.key.first e.key.second e.value)

-- the head of the first world will do for the test
agrees : (es : List Entry) (i f : ℕ) {w : World} (g : Head) → Whole w → f ≡ length (chain w free_chain) → ((n a b : ℕ) → push_code w.head n a b ≡ push_code g n a b) → Agrees (push_each i w es) (tested g f i es) (push_all w es)
unfolding push_each tested push_all push_code
agrees [] i f g h l s = record { code = refl; place = refl; all = λ z. refl }
agrees (e ∷ es) i f {w} g h l s = go (step h f e.key.first e.key.second e.value l)
    (λ r t. agrees es (suc i) (f - 1) g (push_whole h e.key.first e.key.second e.value) r (λ n a b. ap (λ (x : Head). push_code x n a b) t ∙ s n a b))
  where
    go : Takes w f e.key.first e.key.second e.value ⊎ Refuses w f e.key.first e.key.second e.value
        → (f - 1 ≡ length (chain (push w e.key.first e.key.second e.value).world free_chain) → (push w e.key.first e.key.second e.value).world.head ≡ resized w.head (w.head.len + 1)
        → Agrees (push_each (suc i) (push w e.key.first e.key.second e.value).world es) (tested g (f - 1) (suc i) es) (push_all (push w e.key.first e.key.second e.value).world es))
        → Agrees (push_each i w (e ∷ es)) (tested g f i (e ∷ es)) (push_all w (e ∷ es))
    go (inl t) ih = agrees_as (each_by e es i w 0 t.code) (tested_by e es g f i 0 (sym (s f e.key.first e.key.second) ∙ t.told)) (all_by e es h) (ih t.rest t.head)
    go (inr t) ih = agrees_as (each_by e es i w (suc t.less) t.code) (tested_by e es g f i (suc t.less) (sym (s f e.key.first e.key.second) ∙ t.told)) refl (record { code = refl; place = refl; all = λ z. absurd (omega arith) })

-- ---- the whole call

module _ {w : World} (h : Whole w) (es : List Entry) (t : Found) (told : t ≡ tested w.head (size w - w.head.len) 0 es) where
  here : Agrees (push_each 0 w es) t (push_all w es)
  here = agrees_as refl told refl (agrees es 0 (size w - w.head.len) w.head h (let e = free_len h in omega arith) (λ n a b. refl))

  passes : extended w es ≡ kept w (push_each 0 w es)
  unfolding extended bulk_unless extend
  passes = ap (λ (c : ℕ). bulk_unless c w (extend w es)) ((examined_whole w h.typed).1 h)

  -- the first that is refused: nothing is changed
  pub refused_is : (t.code ≡ 0 → ⊥) → bulk t.code w t.place ≡ extended w es
  unfolding kept
  refused_is n = go t.code n ∙ ap (λ (c : ℕ). elim c as (λ x. Bulk) [ zero ↦ push_each 0 w es | suc c ↦ bulk (suc c) w t.place ]) (sym here.code)
      ∙ ap (λ (p : ℕ). elim (push_each 0 w es).code as (λ x. Bulk) [ zero ↦ push_each 0 w es | suc c ↦ bulk (suc c) w p ]) (sym here.place) ∙ sym passes
    where
      go : (c : ℕ) → (c ≡ 0 → ⊥) → bulk c w t.place ≡ (elim c as (λ x. Bulk) [ zero ↦ push_each 0 w es | suc c ↦ bulk (suc c) w t.place ])
      go zero z = absurd (z refl)
      go (suc c) z = refl

  -- none is refused: all are taken
  pub taken_is : t.code ≡ 0 → {w' : World} → w' ≡ push_all w es → bulk 0 w' 0 ≡ extended w es
  unfolding kept
  taken_is z e = ap (λ (x : World). bulk 0 x 0) e ∙ sym (passes ∙ ap (kept w) (here.all z))
