-- On a sound world what the core does is what document 01 says, and leaves a sound world.
use mathlib.Core.Path.{◌≡◌, refl, sym, ap, ◌∙◌, subst}
use mathlib.Core.Bool.{Bool, true, false, cond, true≢false}
use mathlib.Core.List.{List, [], ◌∷◌}
use mathlib.Core.Option.{none, some}
use Prim.Native.Nat.{ℕ, zero, suc, ◌+◌, ◌-◌, ◌≤◌}
use native.Mathlib.Omega.{arith}
use native.Mathlib.Decide.{ℕ_discrete}
use borrow.Author.Tests.{eq-eqb, ne_eqb}
use lib.Dec.{eqb}
use lib.ListN.{get_or, set}
use Rattle.rule.specs.Rule.{keep, empty, push as rulePush, constrain as ruleConstrain, pop as rulePop}
use Rattle.pool.specs.Chain.{Linked}
use Rattle.keys.specs.Ordered.{width, ordered}
use Rattle.pool.specs.World.{free_chain, World, resized, store_key, size, first_of, last_of, chain, key_at, top_key, within}
use Rattle.pool.specs.Sound.{Whole}
use Rattle.pool.specs.Lay.{top_in, heap, fresh}
use Rattle.engine.specs.Outcome.{Outcome, refused, done, given, unless, key_code}
use Rattle.pool.specs.Core.{entered, Moved, moved_to, constrain_core, readied, Popped, pop_tail, fresh_core}
use Rattle.engine.specs.Core.{push_code, push_core, pop_from, pop_core, clear_core, clear_to_core}
use Rattle.heap.specs.Calls.{push_into, push, constrain, pop_out, pop, clear, clear_to, top, len}
use Rattle.keys.proofs.Ordered.{proper_zero}
use Rattle.engine.proofs.CodePush.{key_proper, code_key, code_past}
use Rattle.pool.proofs.Laid.{at_chains}
use Rattle.pool.proofs.OnChains.{less_one, not_none}
use Rattle.pool.proofs.FreshPool.{run}
use Rattle.pool.proofs.Follows.{Follows, fresh_core_lem, fresh_follows, enter_links, enter_follows, constrain_step, constrain_links, constrain_follows as step_follows, pop_gives_none, pop_step, pop_follows as tail-follows}

-- ---- push

module _ (w : World) (a b v : ℕ) where
  pub push_by : (x : ℕ) (y : Bool) → key_code w.head.kind a b ≡ x → within w.head.topped (ordered w.head.kind a b) (top_key w) ≡ y → push w a b v ≡ unless x w (elim y as (λ z. Outcome) [ false ↦ refused w 6 | true ↦ push_into w a b v (chain w free_chain) ])
  unfolding push
  push_by x y p q = λ i. unless (p i) w (elim (q i) as (λ z. Outcome) [ false ↦ refused w 6 | true ↦ push_into w a b v (chain w free_chain) ])

  pub push_key_lem : (c : ℕ) → key_code w.head.kind a b ≡ suc c → push w a b v ≡ refused w (suc c)
  unfolding unless
  push_key_lem c p = push_by (suc c) (within w.head.topped (ordered w.head.kind a b) (top_key w)) p refl

  pub push_6 : key_code w.head.kind a b ≡ 0 → within w.head.topped (ordered w.head.kind a b) (top_key w) ≡ false → push w a b v ≡ refused w 6
  unfolding unless
  push_6 p q = push_by 0 false p q

  pub push_free : key_code w.head.kind a b ≡ 0 → within w.head.topped (ordered w.head.kind a b) (top_key w) ≡ true → push w a b v ≡ push_into w a b v (chain w free_chain)
  unfolding unless
  push_free p q = push_by 0 true p q

  code_6 : key_code w.head.kind a b ≡ 0 → within w.head.topped (ordered w.head.kind a b) (top_key w) ≡ false → push_code w.head (first_of w free_chain) a b ≡ 6
  code_6 p q = rw (code_past w.head (first_of w free_chain) a b p, q) refl

  code_free : key_code w.head.kind a b ≡ 0 → within w.head.topped (ordered w.head.kind a b) (top_key w) ≡ true → (t : Bool) → eqb (first_of w free_chain) 0 ≡ t → push_code w.head (first_of w free_chain) a b ≡ cond t 7 0
  code_free p q t r = rw (code_past w.head (first_of w free_chain) a b p, q, r) refl

  core_code : (c : ℕ) → push_code w.head (first_of w free_chain) a b ≡ suc c → push_core w a b v ≡ refused w (suc c)
  unfolding push_core unless
  core_code c e = ap (λ (x : ℕ). unless x w (done (entered w (first_of w free_chain - 1) a b v) 0)) e

  core_done : (s : ℕ) → push_code w.head (first_of w free_chain) a b ≡ 0 → first_of w free_chain ≡ suc s → push_core w a b v ≡ done (entered w s a b v) 0
  unfolding push_core unless
  core_done s e f = ap (λ (x : ℕ). unless x w (done (entered w (first_of w free_chain - 1) a b v) 0)) e ∙ ap (λ (x : ℕ). done (entered w x a b v) 0) (ap (λ (x : ℕ). x - 1) f ∙ less_one s)

module _ {w : World} (h : Whole w) (a b v : ℕ) where
  module _ (p : key_code w.head.kind a b ≡ 0) (q : within w.head.topped (ordered w.head.kind a b) (top_key w) ≡ true) (s : ℕ) (free : List ℕ) (f : chain w free_chain ≡ s ∷ free) where
    p_done : done (entered w s a b v) 0 ≡ push w a b v
    unfolding push_into entered
    p_done = (λ i. done (record { head = resized w.head (w.head.len + 1); links = sym (enter_links h a b v (key_proper w.head.kind a b p) q s free f) i; keys = store_key w.head.kind w.keys s a b; values = set w.values s v }) 0)
        ∙ ap (push_into w a b v) (sym f) ∙ sym (push_free w a b v p q)

    -- code 0: the first free slot goes where the rule puts it
    pub push_follows : ((push w a b v).code ≡ 0) × Follows (push w a b v).world (rulePush (width w.head.kind) (λ x. ordered w.head.kind a b) keep (heap w) s) free
    unfolding done
    push_follows = subst (λ (o : Outcome). (o.code ≡ 0) × Follows o.world (rulePush (width w.head.kind) (λ x. ordered w.head.kind a b) keep (heap w) s) free) p_done
        (refl, enter_follows h a b v (key_proper w.head.kind a b p) q s free f)

  p_link : Linked w.links.next (first_of w free_chain) (chain w free_chain)
  p_link = h.sound.run free_chain (omega arith)

  by_free : key_code w.head.kind a b ≡ 0 → within w.head.topped (ordered w.head.kind a b) (top_key w) ≡ true → (l : List ℕ) → chain w free_chain ≡ l → push_core w a b v ≡ push w a b v
  unfolding push_into
  by_free p q [] f =
      core_code w a b v 6 (code_free w a b v p q true (eq-eqb (first_of w free_chain) 0 (subst (Linked w.links.next (first_of w free_chain)) f p_link)))
      ∙ sym (push_free w a b v p q ∙ ap (push_into w a b v) f)
  by_free p q (s ∷ free) f =
      let l : Linked w.links.next (first_of w free_chain) (s ∷ free) = subst (Linked w.links.next (first_of w free_chain)) f p_link in
      core_done w a b v s (code_free w a b v p q false (not_none (first_of w free_chain) s l.0)) l.0 ∙ p_done p q s free f

  by_tests : (x : ℕ) (y : Bool) → key_code w.head.kind a b ≡ x → within w.head.topped (ordered w.head.kind a b) (top_key w) ≡ y → push_core w a b v ≡ push w a b v
  by_tests (suc c) y p q = core_code w a b v c (sym (code_key w.head (first_of w free_chain) a b (suc c) (sym p) (λ z. absurd (omega arith)))) ∙ sym (push_key_lem w a b v c p)
  by_tests zero false p q = core_code w a b v 5 (code_6 w a b v p q) ∙ sym (push_6 w a b v p q)
  by_tests zero true p q = by_free p q (chain w free_chain) refl

  -- what the core does is what document 01 says
  pub push_core_lem : push_core w a b v ≡ push w a b v
  push_core_lem = by_tests (key_code w.head.kind a b) (within w.head.topped (ordered w.head.kind a b) (top_key w)) refl refl

  whole_free : key_code w.head.kind a b ≡ 0 → within w.head.topped (ordered w.head.kind a b) (top_key w) ≡ true → (l : List ℕ) → chain w free_chain ≡ l → Whole (push w a b v).world
  unfolding push_into refused
  whole_free p q [] f = subst (λ (o : Outcome). Whole o.world) (sym (push_free w a b v p q ∙ ap (push_into w a b v) f)) h
  whole_free p q (s ∷ free) f = (push_follows p q s free f).1.whole

  whole_tests : (x : ℕ) (y : Bool) → key_code w.head.kind a b ≡ x → within w.head.topped (ordered w.head.kind a b) (top_key w) ≡ y → Whole (push w a b v).world
  unfolding refused
  whole_tests (suc c) y p q = subst (λ (o : Outcome). Whole o.world) (sym (push_key_lem w a b v c p)) h
  whole_tests zero false p q = subst (λ (o : Outcome). Whole o.world) (sym (push_6 w a b v p q)) h
  whole_tests zero true p q = whole_free p q (chain w free_chain) refl

  pub push_whole : Whole (push w a b v).world
  push_whole = whole_tests (key_code w.head.kind a b) (within w.head.topped (ordered w.head.kind a b) (top_key w)) refl refl

-- ---- constrain

module _ {w : World} (h : Whole w) where
  pub constrain_core_lem : done (moved_to w (constrain_core w.head w.links w.keys)) (constrain_core w.head w.links w.keys).moves ≡ constrain w
  unfolding constrain
  constrain_core_lem = λ i. done (record { head = (constrain_step h).head i; links = sym (constrain_links h) i; keys = w.keys; values = w.values }) ((constrain_step h).moves i)

  pub constrain_follows : Follows (constrain w).world (ruleConstrain (width w.head.kind) (key_at w) keep (heap w)).heap (chain w free_chain)
  unfolding done
  constrain_follows = subst (λ (o : Outcome). Follows o.world (ruleConstrain (width w.head.kind) (key_at w) keep (heap w)).heap (chain w free_chain)) constrain_core_lem (step_follows h)

  pub constrain_whole : Whole (constrain w).world
  constrain_whole = constrain_follows.whole

-- ---- pop

pop_none : (w : World) → (rulePop (width w.head.kind) (key_at w) keep (heap w)).given ≡ none → pop w ≡ refused w 8
unfolding pop pop_out
pop_none w e = ap (pop_out w (rulePop (width w.head.kind) (key_at w) keep (heap w))) e

pop_some : (w : World) (s : ℕ) → (rulePop (width w.head.kind) (key_at w) keep (heap w)).given ≡ some s → pop w ≡ pop_out w (rulePop (width w.head.kind) (key_at w) keep (heap w)) (some s)
unfolding pop
pop_some w s e = ap (pop_out w (rulePop (width w.head.kind) (key_at w) keep (heap w))) e

core_empty : (w : World) → w.head.len ≡ 0 → pop_core w ≡ refused w 8
unfolding pop_core
core_empty w e = ap (λ (x : Bool). elim x as (λ y. Outcome) [ true ↦ refused w 8 | false ↦ pop_from w (readied (eqb (last_of w 0) 0) w.head w.links w.keys) ]) (eq-eqb w.head.len 0 e)

core_some : (w : World) → 1 ≤ w.head.len → pop_core w ≡ pop_from w (readied (eqb (last_of w 0) 0) w.head w.links w.keys)
unfolding pop_core
core_some w k = ap (λ (x : Bool). elim x as (λ y. Outcome) [ true ↦ refused w 8 | false ↦ pop_from w (readied (eqb (last_of w 0) 0) w.head w.links w.keys) ]) (ne_eqb w.head.len 0 (λ e. absurd (omega arith)))

-- a popped world as an outcome
abbrev gave : Popped → Outcome
gave p = given p.world p.moves p.key0 p.key1 p.value

core_from : (w : World) (m : Moved) (s : ℕ) → get_or m.to.last 0 0 ≡ suc s → pop_from w m ≡ gave (pop_tail m w.keys w.values)
unfolding pop_from
core_from w m s e = ap (λ (x : Bool). elim x as (λ y. Outcome) [ true ↦ refused (moved_to w m) 8 | false ↦ gave (pop_tail m w.keys w.values) ]) (not_none (get_or m.to.last 0 0) s e)

module _ {w : World} (h : Whole w) where
  -- code 8: a pop of an empty heap
  pub pop_8 : w.head.len ≡ 0 → pop w ≡ refused w 8
  pop_8 e = pop_none w (pop_gives_none h e)

  module _ (k : 1 ≤ w.head.len) where
    -- the slot that the rule gives
    pub pop_slot : ℕ
    pop_slot = (pop_step h k).slot

    pub pop_given : (rulePop (width w.head.kind) (key_at w) keep (heap w)).given ≡ some pop_slot
    unfolding pop_slot
    pop_given = (pop_step h k).given'

    pub pop_0 : pop w ≡ pop_out w (rulePop (width w.head.kind) (key_at w) keep (heap w)) (some pop_slot)
    unfolding pop_slot
    pop_0 = pop_some w pop_slot pop_given

    p_outcome : gave (pop_tail (readied (eqb (last_of w 0) 0) w.head w.links w.keys) w.keys w.values) ≡ pop w
    unfolding pop_out pop_slot
    p_outcome = ap gave ((pop_step h k).outcome (chain w free_chain) (at_chains w free_chain (omega arith))) ∙ sym pop_0

    pub pop_follows : Follows (pop w).world (rulePop (width w.head.kind) (key_at w) keep (heap w)).heap (pop_slot ∷ chain w free_chain)
    unfolding pop_slot given
    pop_follows = subst (λ (o : Outcome). Follows o.world (rulePop (width w.head.kind) (key_at w) keep (heap w)).heap ((pop_step h k).slot ∷ chain w free_chain)) p_outcome (tail-follows h k)

  by_len : Dec (w.head.len ≡ 0) → (pop_core w ≡ pop w) × Whole (pop w).world
  unfolding refused
  by_len (yes e) = (core_empty w e ∙ sym (pop_8 e), subst (λ (o : Outcome). Whole o.world) (sym (pop_8 e)) h)
  by_len (no n) =
      let k : 1 ≤ w.head.len = omega arith in
      (core_some w k ∙ core_from w (readied (eqb (last_of w 0) 0) w.head w.links w.keys) (pop_step h k).slot (pop_step h k).tail ∙ p_outcome k, (pop_follows k).whole)

  pub pop_core_lem : pop_core w ≡ pop w
  pop_core_lem = (by_len (ℕ_discrete w.head.len 0)).0

  pub pop_whole : Whole (pop w).world
  pop_whole = (by_len (ℕ_discrete w.head.len 0)).1

-- ---- clear, clear_to, top and len

module _ {w : World} (h : Whole w) where
  cleared_core : fresh_core w.head.kind (size w) false 0 0 ≡ fresh w.head.kind (size w) false 0 0
  cleared_core = fresh_core_lem w.head.kind (size w) false 0 0 h.fit.kind_ok h.fit.small (λ e. refl) (λ e. refl) (proper_zero w.head.kind)

  pub clear_core_lem : clear_core w ≡ clear w
  unfolding clear_core clear
  clear_core_lem = ap (λ (x : World). done x 0) cleared_core

  pub clear_follows : Follows (clear w).world (empty none) (run 0 (size w))
  unfolding clear done top_in
  clear_follows = fresh_follows w.head.kind (size w) false 0 0 h.fit.kind_ok h.fit.small (λ e. refl) (λ e. refl) (proper_zero w.head.kind)

  pub clear_whole : Whole (clear w).world
  clear_whole = clear_follows.whole

  module _ (a b : ℕ) where
    at_core : key_code w.head.kind a b ≡ 0 → fresh_core w.head.kind (size w) true a b ≡ fresh w.head.kind (size w) true a b
    at_core p = fresh_core_lem w.head.kind (size w) true a b h.fit.kind_ok h.fit.small (λ e. absurd (true≢false e)) (λ e. absurd (true≢false e)) (key_proper w.head.kind a b p)

    pub clear_to_by : (x : ℕ) → key_code w.head.kind a b ≡ x → clear_to w a b ≡ unless x w (done (fresh w.head.kind (size w) true a b) 0)
    unfolding clear_to
    clear_to_by x p = λ i. unless (p i) w (done (fresh w.head.kind (size w) true a b) 0)

    to_core_by : (x : ℕ) → key_code w.head.kind a b ≡ x → clear_to_core w a b ≡ unless x w (done (fresh_core w.head.kind (size w) true a b) 0)
    unfolding clear_to_core
    to_core_by x p = λ i. unless (p i) w (done (fresh_core w.head.kind (size w) true a b) 0)

    pub clear_to_core_lem : clear_to_core w a b ≡ clear_to w a b
    unfolding unless
    clear_to_core_lem = go (key_code w.head.kind a b) refl
      where
        go : (x : ℕ) → key_code w.head.kind a b ≡ x → clear_to_core w a b ≡ clear_to w a b
        go (suc c) p = to_core_by (suc c) p ∙ sym (clear_to_by (suc c) p)
        go zero p = to_core_by 0 p ∙ ap (λ (x : World). done x 0) (at_core p) ∙ sym (clear_to_by 0 p)

    pub clear_to_follows : key_code w.head.kind a b ≡ 0 → ((clear_to w a b).code ≡ 0) × Follows (clear_to w a b).world (empty (some (ordered w.head.kind a b))) (run 0 (size w))
    unfolding done top_in unless
    clear_to_follows p = subst (λ (o : Outcome). (o.code ≡ 0) × Follows o.world (empty (some (ordered w.head.kind a b))) (run 0 (size w))) (sym (clear_to_by 0 p))
        (refl, fresh_follows w.head.kind (size w) true a b h.fit.kind_ok h.fit.small (λ e. absurd (true≢false e)) (λ e. absurd (true≢false e)) (key_proper w.head.kind a b p))

    pub clear_to_whole : Whole (clear_to w a b).world
    unfolding refused unless
    clear_to_whole = go (key_code w.head.kind a b) refl
      where
        go : (x : ℕ) → key_code w.head.kind a b ≡ x → Whole (clear_to w a b).world
        go (suc c) p = subst (λ (o : Outcome). Whole o.world) (sym (clear_to_by (suc c) p)) h
        go zero p = (clear_to_follows p).1.whole

  pub top_whole : Whole (top w).world
  unfolding top
  top_whole = h

  pub len_whole : Whole (len w).world
  unfolding len
  len_whole = h
