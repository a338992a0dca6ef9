-- On a sound world each step of the core leaves a sound world, whose chains are those of the rule's call at slots. The first free
-- slot is used, a freed slot goes to the front, and the links are those that the chains are laid out as.
use mathlib.Core.Path.{◌≡◌, refl, sym, ap, ◌∙◌, subst}
use mathlib.Core.Logic.{◌↔◌}
use mathlib.Core.Bool.{Bool, true, false}
use mathlib.Core.List.{List, [], ◌∷◌, ◌++◌}
use mathlib.Core.Option.{none}
use Prim.Native.Nat.{ℕ, ◌+◌, ◌*◌, ◌≤◌}
use native.Mathlib.Omega.{arith}
use lib.Dec.{eqb}
use lib.ListN.{length, get_or, take, replicate, length-append}
use lib.Seq.{take-set-le}
use Rattle.rule.specs.Lists.{join}
use Rattle.rule.specs.Rule.{keep, bucket_count, Heap, empty, held, push as rulePush, constrain as ruleConstrain, pop as rulePop}
use Rattle.keys.specs.Ordered.{width, words, ordered}
use Rattle.keys.specs.declared.kind.Kind.{Kind}
use Rattle.keys.specs.Ordered.{proper}
use Rattle.keys.specs.Table.{kind_fits}
use Rattle.pool.specs.Chain.{total}
use Rattle.pool.specs.World.{waiting_chain, free_chain, chain_count, World, size, last_of, chain, chains, key_at, top_key, within}
use Rattle.pool.specs.Sound.{Typed, Fit, Sound, Whole, limit}
use Rattle.pool.specs.Examine.{examined}
use Rattle.pool.specs.Lay.{top_in, heap_in, heap_of, heap, with_free, lay, fresh}
use Rattle.pool.specs.Core.{moved_to, entered, constrain_core, readied, pop_tail, fresh_core, place_in}
use Rattle.pool.proofs.Exam.{examined_sound}
use Rattle.pool.proofs.Laid.{Good, sound_good, good_sound, laid_chains, laid_total, at_chains}
use Rattle.pool.proofs.Chains.{total_append, length_join}
use Rattle.pool.proofs.Lay.{with_free_lem, lay_heap}
use Rattle.pool.proofs.Push.{pushed_chains, enter_good, e_size, e_free_length}
use Rattle.pool.proofs.FreshPool.{run, fresh_chains, fresh_good, free_at, other_at, f_size}
use Rattle.pool.proofs.Refine.{enter_rule, Constrained, constrain_rule}
use Rattle.pool.proofs.Pop.{Taken, pop_rule, pop_nothing}

-- ---- sound worlds and the heaps that stand in them

pub whole_good : {w : World} → Whole w → Good w (chains w)
whole_good {w} h = sound_good w h.fit h.typed h.sound

pub good_whole : {w : World} {ls : List (List ℕ)} → Good w ls → Whole w
good_whole g = record { typed = g.laid.typed; fit = g.fit; sound = good_sound g }

-- the examination passes just the sound worlds
pub examined_whole : (w : World) → Typed w.links → (examined w ≡ 0) ↔ Whole w
examined_whole w t = (
  (λ e. let h : Fit w × Sound w = (examined_sound w t).0 e in record { typed = t; fit = h.0; sound = h.1 }),
  (λ h. (examined_sound w t).1 (h.fit, h.sound)),
)

-- a sound world in which this heap stands, with these free slots
pub record Follows (w : World) (h : Heap ℕ) (free : List ℕ) : Type 0 where
  pub whole : Whole w
  pub heap' : heap w ≡ h
  pub free' : chain w free_chain ≡ free

good_follows : {w : World} {ls : List (List ℕ)} → Good w ls → (h : Heap ℕ) (free : List ℕ) → heap_of w ls ≡ h → get_or ls free_chain [] ≡ free → Follows w h free
unfolding heap
good_follows {w} {ls} g h free eh ef = record {
  whole = good_whole g;
  heap' = ap (heap_of w) (laid_chains w g.laid) ∙ eh;
  free' = sym (at_chains w free_chain (omega arith)) ∙ ap (λ (l : List (List ℕ)). get_or l free_chain []) (laid_chains w g.laid) ∙ ef;
}

-- ---- how many there are

chains_split : (w : World) → Whole w → take waiting_chain (chains w) ++ get_or (chains w) waiting_chain [] ∷ get_or (chains w) free_chain [] ∷ [] ≡ chains w
unfolding with_free heap_in
chains_split w h = with_free_lem true 0 (chains w) (whole_good h).laid.many

module _ {w : World} (h : Whole w) where
  -- the length counts the entries held
  pub held_len : length (held (heap w)) ≡ w.head.len
  unfolding heap held heap_in
  held_len =
      let g = whole_good h in
      let a = length-append (get_or (chains w) waiting_chain []) (join (take waiting_chain (chains w))) in
      let b = length_join (take waiting_chain (chains w)) in
      let c : total (take waiting_chain (chains w)) + (length (get_or (chains w) waiting_chain []) + (length (get_or (chains w) free_chain []) + 0)) ≡ total (chains w) = all in
      let d = laid_total g.laid in
      let e = g.filed.counted in
      omega (arith, a, b, c, d, e)
    where
      all : total (take waiting_chain (chains w)) + (length (get_or (chains w) waiting_chain []) + (length (get_or (chains w) free_chain []) + 0)) ≡ total (chains w)
      all = sym (total_append (take waiting_chain (chains w)) (get_or (chains w) waiting_chain [] ∷ get_or (chains w) free_chain [] ∷ [])) ∙ ap total (chains_split w h)

  -- and the rest is free
  pub free_len : w.head.len + length (chain w free_chain) ≡ size w
  free_len = ap (λ (l : List ℕ). w.head.len + length l) (sym (at_chains w free_chain (omega arith))) ∙ (whole_good h).filed.counted

-- ---- fresh

module _ (kind : Kind) (n : ℕ) (t : Bool) (a b : ℕ) (ok : kind_fits kind ≡ true) (small : n ≤ limit)
    (z0 : t ≡ false → a ≡ 0) (z1 : t ≡ false → b ≡ 0) (z2 : proper kind a b ≡ true) where
  f_good : Good (fresh_core kind n t a b) (fresh_chains n)
  f_good = fresh_good kind n t a b ok small z0 z1 z2

  f_heap : (o : Bool) (x : ℕ) → heap_in o x (fresh_chains n) ≡ empty (top_in o x)
  unfolding heap_in empty fresh_chains bucket_count
  f_heap o x = λ i. record { top = top_in o x; waiting = other_at n waiting_chain (omega arith) i; buckets = take-set-le waiting_chain (replicate chain_count []) free_chain (run 0 n) (omega arith) i }

  -- the core's fresh world is document 01's
  pub fresh_core_lem : fresh_core kind n t a b ≡ fresh kind n t a b
  unfolding fresh_core fresh top_in
  fresh_core_lem = λ i. record {
    head = record { kind = kind; len = 0; topped = t; top0 = a; top1 = b };
    links = sym (lay_heap f_good.laid false 0 n (empty none) (run 0 n) (f_heap false 0) (free_at n) (f_size kind n t a b)) i;
    keys = replicate (words kind * n) 0;
    values = replicate n 0;
  }

  pub fresh_follows : Follows (fresh kind n t a b) (empty (top_in t (ordered kind a b))) (run 0 n)
  unfolding fresh_core
  fresh_follows = subst (λ (w : World). Follows w (empty (top_in t (ordered kind a b))) (run 0 n)) fresh_core_lem (good_follows f_good (empty (top_in t (ordered kind a b))) (run 0 n) (f_heap t (ordered kind a b)) (free_at n))

-- ---- push

entered_top : (w : World) (s a b v : ℕ) (ls : List (List ℕ)) → heap_of (entered w s a b v) ls ≡ heap_in w.head.topped (top_key w) ls
unfolding entered
entered_top w s a b v ls = refl

-- slot s is the first free one, and the key is well-formed and not above the top
module _ {w : World} (h : Whole w) (a b v : ℕ) (one : proper w.head.kind a b ≡ true) (low : within w.head.topped (ordered w.head.kind a b) (top_key w) ≡ true)
    (s : ℕ) (free : List ℕ) (f : chain w free_chain ≡ s ∷ free) where
  p_free : get_or (chains w) free_chain [] ≡ s ∷ free
  p_free = at_chains w free_chain (omega arith) ∙ f

  p_good : Good (entered w s a b v) (pushed_chains (chains w) free (place_in w.head a b) s)
  p_good = enter_good (whole_good h) free p_free a b v one low

  p_heap : heap_in w.head.topped (top_key w) (pushed_chains (chains w) free (place_in w.head a b) s) ≡ rulePush (width w.head.kind) (λ x. ordered w.head.kind a b) keep (heap w) s
  unfolding heap
  p_heap = enter_rule (whole_good h) s free a b

  pub enter_links : lay (with_free (rulePush (width w.head.kind) (λ x. ordered w.head.kind a b) keep (heap w) s) free) (size w) ≡ (entered w s a b v).links
  enter_links = lay_heap p_good.laid w.head.topped (top_key w) (size w) (rulePush (width w.head.kind) (λ x. ordered w.head.kind a b) keep (heap w) s) free
      p_heap (e_free_length (whole_good h) free p_free a b v one low) (e_size (whole_good h) free p_free a b v one low)

  pub enter_follows : Follows (entered w s a b v) (rulePush (width w.head.kind) (λ x. ordered w.head.kind a b) keep (heap w) s) free
  enter_follows = good_follows p_good (rulePush (width w.head.kind) (λ x. ordered w.head.kind a b) keep (heap w) s) free
      (entered_top w s a b v (pushed_chains (chains w) free (place_in w.head a b) s) ∙ p_heap) (e_free_length (whole_good h) free p_free a b v one low)

-- ---- constrain

module _ {w : World} (h : Whole w) where
  -- moves and head of the core's constrain are the rule's
  pub constrain_step : Constrained w (chains w) (constrain_core w.head w.links w.keys) (ruleConstrain (width w.head.kind) (key_at w) keep (heap w))
  unfolding heap
  constrain_step = constrain_rule (whole_good h)

  pub constrain_links : lay (with_free (ruleConstrain (width w.head.kind) (key_at w) keep (heap w)).heap (chain w free_chain)) (size w) ≡ (constrain_core w.head w.links w.keys).to
  constrain_links = lay_heap constrain_step.good.laid (constrain_core w.head w.links w.keys).head.topped (top_key (moved_to w (constrain_core w.head w.links w.keys))) (size w)
      (ruleConstrain (width w.head.kind) (key_at w) keep (heap w)).heap (chain w free_chain) constrain_step.heap (constrain_step.free ∙ at_chains w free_chain (omega arith)) constrain_step.sized

  pub constrain_follows : Follows (moved_to w (constrain_core w.head w.links w.keys)) (ruleConstrain (width w.head.kind) (key_at w) keep (heap w)).heap (chain w free_chain)
  constrain_follows = good_follows constrain_step.good (ruleConstrain (width w.head.kind) (key_at w) keep (heap w)).heap (chain w free_chain) constrain_step.heap (constrain_step.free ∙ at_chains w free_chain (omega arith))

-- ---- pop

module _ {w : World} (h : Whole w) where
  -- an empty heap has nothing to give
  pub pop_gives_none : w.head.len ≡ 0 → (rulePop (width w.head.kind) (key_at w) keep (heap w)).given ≡ none
  unfolding heap
  pop_gives_none e = pop_nothing (whole_good h) e

  module _ (k : 1 ≤ w.head.len) where
    pub pop_step : Taken w (chains w) (readied (eqb (last_of w 0) 0) w.head w.links w.keys) (rulePop (width w.head.kind) (key_at w) keep (heap w))
    unfolding heap
    pop_step = pop_rule (whole_good h) k

    pub pop_follows : Follows (pop_tail (readied (eqb (last_of w 0) 0) w.head w.links w.keys) w.keys w.values).world (rulePop (width w.head.kind) (key_at w) keep (heap w)).heap (pop_step.slot ∷ chain w free_chain)
    pop_follows = good_follows pop_step.good (rulePop (width w.head.kind) (key_at w) keep (heap w)).heap (pop_step.slot ∷ chain w free_chain) pop_step.heap' (pop_step.free ∙ ap (λ (l : List ℕ). pop_step.slot ∷ l) (at_chains w free_chain (omega arith)))
