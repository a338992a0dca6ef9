-- A pop of the core is the rule's.
use mathlib.Core.Path.{◌≡◌, refl, sym, ap, ◌∙◌, subst}
use mathlib.Core.Logic.{◌≢◌, inl, inr}
use mathlib.Core.Bool.{Bool, true, false}
use mathlib.Core.List.{List, [], ◌∷◌, ◌++◌}
use mathlib.Core.Option.{Option, none, some}
use Prim.Native.Nat.{ℕ, zero, suc, ◌-◌, ◌≤◌, ◌<◌, max}
use native.Mathlib.Omega.{arith}
use native.Mathlib.Decide.{ℕ_discrete, dec_le, dec_lt}
use borrow.Author.Tests.{eq-eqb}
use lib.Dec.{eqb}
use lib.ListN.{length, get_or, set, take, length-set, get_or-eq_default}
use lib.Seq.{get_or-set_same, get_or-set_other, get_or-take}
use Rattle.rule.specs.Width.{distance}
use Rattle.rule.specs.Rule.{keep, Heap, Step, put, busy as ruleBusy, spread as ruleSpread, greatest as ruleGreatest, drain as ruleDrain, drain_some as ruleDrainSome, drain_bucket as ruleDrainBucket, constrain as ruleConstrain, take_tail as ruleTake, pop as rulePop, stay}
use Rattle.rule.specs.Lists.{last as lastIn}
use Rattle.rule.proofs.Width.{distance_le, distance_self}
use Rattle.pool.specs.Chain.{total, last_from, On}
use Rattle.keys.specs.Ordered.{width}
use Rattle.pool.specs.declared.state.Head.{Head}
use Rattle.pool.specs.World.{waiting_chain, free_chain, World, resized, store_key, size, last_of, word0, word1, key_word0, key_word1, key_at, top_key}
use Rattle.pool.specs.Lay.{top_in, heap_in, heap_of, with_free, lay, head_after}
use Rattle.pool.specs.Core.{moved_to, Moved, constrain_core, readied, Popped, popped, pop_tail}
use Rattle.pool.proofs.Chains.{hit_same, hit_cases, count_append, last_append, total_ge2}
use Rattle.pool.proofs.Laid.{Good, laid_total}
use Rattle.pool.proofs.OnChains.{not_none}
use Rattle.pool.proofs.Lay.{lay_heap}
use Rattle.keys.proofs.Ordered.{width_le}
use Rattle.pool.proofs.Take.{taken_chains, taken, take_tail_lem, take_good, t_free, t_size, t_laid}
use Rattle.pool.proofs.Refine.{snoc_of, bucket0, take_rule, Constrained, constrain_rule, no_waiting_lem, no_buckets_lem, busy_le, busy_before, busy_at, taken_length, stay_constrained}

-- ---- after a constrain of a heap that is not empty bucket 0 is not empty

module _ (B : ℕ) (key : ℕ → ℕ) where
  put_keeps : (ls : List (List ℕ)) (c s d x : ℕ) → c < length ls → On x (get_or ls d []) → On x (get_or (set ls c (get_or ls c [] ++ s ∷ [])) d [])
  put_keeps ls c s d x k o = elim (ℕ_discrete d c) [
    | yes e ↦ (let o1 : On x (get_or ls c []) = subst (λ (i : ℕ). On x (get_or ls i [])) e o in
        let a = count_append x (get_or ls c []) (s ∷ []) in
        let o2 : On x (get_or ls c [] ++ s ∷ []) = omega arith in
        subst (On x) (sym (ap (λ (i : ℕ). get_or (set ls c (get_or ls c [] ++ s ∷ [])) i []) e ∙ get_or-set_same ls c (get_or ls c [] ++ s ∷ []) [] k)) o2)
    | no n ↦ subst (On x) (sym (get_or-set_other ls c d (get_or ls c [] ++ s ∷ []) [] n)) o
  ]

  put_new : (ls : List (List ℕ)) (c s : ℕ) → c < length ls → On s (get_or (set ls c (get_or ls c [] ++ s ∷ [])) c [])
  put_new ls c s k =
      let a = count_append s (get_or ls c []) (s ∷ []) in
      let h = hit_same s in
      let o : On s (get_or ls c [] ++ s ∷ []) = omega arith in
      subst (On s) (sym (get_or-set_same ls c (get_or ls c [] ++ s ∷ []) [] k)) o

  spread_keeps : (t : ℕ) (ls : List (List ℕ)) (ss : List ℕ) (d x : ℕ) → B < length ls → On x (get_or ls d []) → On x (get_or (ruleSpread B key keep t ls ss) d [])
  unfolding ruleSpread put
  spread_keeps t ls [] d x k o = o
  spread_keeps t ls (s ∷ ss) d x k o =
      let c : ℕ = distance B (key s) t in
      let lt : c < length ls = let q = distance_le B (key s) t in omega arith in
      spread_keeps t (set ls c (get_or ls c [] ++ s ∷ [])) ss d x (let q = length-set ls c (get_or ls c [] ++ s ∷ []) in omega (arith, q)) (put_keeps ls c s d x lt o)

  spread_puts : (t : ℕ) (ls : List (List ℕ)) (ss : List ℕ) (x : ℕ) → B < length ls → On x ss → On x (get_or (ruleSpread B key keep t ls ss) (distance B (key x) t) [])
  unfolding ruleSpread put
  spread_puts t ls [] x k o = absurd (omega arith)
  spread_puts t ls (s ∷ ss) x k o =
      let c : ℕ = distance B (key s) t in
      let lt : c < length ls = let q = distance_le B (key s) t in omega arith in
      let k' : B < length (set ls c (get_or ls c [] ++ s ∷ [])) = let q = length-set ls c (get_or ls c [] ++ s ∷ []) in omega (arith, q) in
      elim (hit_cases x s) [
        | inl e ↦ subst (λ (i : ℕ). On i (get_or (ruleSpread B key keep t (set ls c (get_or ls c [] ++ s ∷ [])) ss) (distance B (key i) t) [])) (sym e)
            (spread_keeps t (set ls c (get_or ls c [] ++ s ∷ [])) ss c s k' (put_new ls c s lt))
        | inr e ↦ spread_puts t (set ls c (get_or ls c [] ++ s ∷ [])) ss x k' (omega arith)
      ]

  greatest_in : (s : ℕ) (ss : List ℕ) → (x : ℕ) × On x (s ∷ ss) × (key x ≡ ruleGreatest key (s ∷ ss))
  unfolding ruleGreatest
  greatest_in s [] = (s, let h = hit_same s in omega arith, omega arith)
  greatest_in s (y ∷ ss) = go (greatest_in y ss)
    where
      go : (x : ℕ) × On x (y ∷ ss) × (key x ≡ max (key y) (ruleGreatest key ss)) → (x : ℕ) × On x (s ∷ y ∷ ss) × (key x ≡ max (key s) (max (key y) (ruleGreatest key ss)))
      go r = elim (dec_le (key s) (key r.0)) [
        | yes h ↦ (r.0, (let o = r.1 in omega arith), (let q = r.2 in omega arith))
        | no h ↦ (s, (let q = hit_same s in omega arith), (let q = r.2 in omega arith))
      ]

  drain_zero : (h rest : Heap ℕ) (es : List ℕ) → B < length rest.buckets → es ≢ [] → (x : ℕ) × On x (get_or (ruleDrainSome B key keep h rest es).heap.buckets 0 [])
  unfolding ruleDrain ruleDrainSome
  drain_zero h rest [] k n = absurd (n refl)
  drain_zero h rest (s ∷ ss) k n =
      let r = greatest_in s ss in
      let t : ℕ = ruleGreatest key (s ∷ ss) in
      let z : distance B (key r.0) t ≡ 0 = ap (distance B (key r.0)) (sym r.2) ∙ distance_self B (key r.0) in
      (r.0, subst (λ (d : ℕ). On r.0 (get_or (ruleSpread B key keep t rest.buckets (s ∷ ss)) d [])) z (spread_puts t rest.buckets (s ∷ ss) r.0 k r.1))

  bucket_zero : (h : Heap ℕ) (b : ℕ) → B < length h.buckets → b ≢ 0 → get_or h.buckets b [] ≢ [] → (x : ℕ) × On x (get_or (ruleDrainBucket B key keep h b).heap.buckets 0 [])
  unfolding ruleDrainBucket
  bucket_zero h zero k n m = absurd (n refl)
  bucket_zero h (suc c) k n m = drain_zero h (record { top = h.top; waiting = h.waiting; buckets = set h.buckets (suc c) [] }) (get_or h.buckets (suc c) []) (let q = length-set h.buckets (suc c) [] in omega (arith, q)) m

-- if all lists but one are empty, that one holds everything
total_only : (ls : List (List ℕ)) (m : ℕ) → m < length ls → ((c : ℕ) → c < length ls → c ≢ m → get_or ls c [] ≡ []) → total ls ≡ length (get_or ls m [])
total_only [] m k h = absurd (omega arith)
total_only (l ∷ ls) zero k h = let e = none_total ls (λ c q. h (suc c) (omega arith) (omega arith)) in omega arith
  where
    none_total : (xs : List (List ℕ)) → ((c : ℕ) → c < length xs → get_or xs c [] ≡ []) → total xs ≡ 0
    none_total [] f = refl
    none_total (x ∷ xs) f =
        let a : length x ≡ 0 = ap length (f 0 (omega arith)) in
        let b = none_total xs (λ c q. f (suc c) (omega arith)) in
        omega arith
total_only (l ∷ ls) (suc m) k h =
    let a : length l ≡ 0 = ap length (h 0 (omega arith) (omega arith)) in
    let b = total_only ls m (omega arith) (λ c q n. h (suc c) (omega arith) (omega arith)) in
    omega arith

module _ {w : World} {ls : List (List ℕ)} (g : Good w ls) where
  -- a heap that is not empty has a chain that is not empty
  not_all_empty : 1 ≤ w.head.len → ((c : ℕ) → c < free_chain → get_or ls c [] ≡ []) → ⊥
  not_all_empty k h =
      let m = g.laid.many in
      let a = total_only ls free_chain (omega arith) (λ c q n. h c (omega arith)) in
      let b = laid_total g.laid in
      let d = g.filed.counted in
      omega (arith, a, b, d)

  wide : width w.head.kind < length (take waiting_chain ls)
  wide = let a = taken_length g in let b = width_le w.head.kind in omega (arith, a, b)

  some_bucket : w.head.topped ≡ true → 1 ≤ w.head.len → get_or (take waiting_chain ls) (ruleBusy (take waiting_chain ls)) [] ≢ []
  some_bucket t k e = not_all_empty k (λ c q. empty c q (dec_lt c waiting_chain))
    where
      last : ruleBusy (take waiting_chain ls) ≡ waiting_chain
      last = elim (dec_lt (ruleBusy (take waiting_chain ls)) (length (take waiting_chain ls))) [
        | yes h ↦ (let r = busy_at (take waiting_chain ls) h in
            let n : length (get_or (take waiting_chain ls) (ruleBusy (take waiting_chain ls)) []) ≡ suc (length r.1) = ap length r.2 in
            let m : length (get_or (take waiting_chain ls) (ruleBusy (take waiting_chain ls)) []) ≡ 0 = ap length e in
            absurd (omega (arith, n, m)))
        | no h ↦ (let l = busy_le (take waiting_chain ls) in let z = taken_length g in omega (arith, l, z))
      ]

      empty : (c : ℕ) → c < free_chain → Dec (c < waiting_chain) → get_or ls c [] ≡ []
      empty c q (yes h) = sym (get_or-take waiting_chain ls c [] h) ∙ busy_before (take waiting_chain ls) c (let l = last in omega arith)
      empty c q (no h) = let r : c ≡ waiting_chain = omega arith in ap (λ (i : ℕ). get_or ls i []) r ∙ no_waiting_lem g t

  some_waiting : w.head.topped ≡ false → 1 ≤ w.head.len → get_or ls waiting_chain [] ≢ []
  some_waiting t k e = not_all_empty k (λ c q. elim (dec_lt c waiting_chain) [
    | yes h ↦ no_buckets_lem g t c h
    | no h ↦ (let r : c ≡ waiting_chain = omega arith in ap (λ (i : ℕ). get_or ls i []) r ∙ e)
  ])

  not_first : get_or ls 0 [] ≡ [] → ruleBusy (take waiting_chain ls) ≡ 0 → ⊥
  not_first e z =
      let l = taken_length g in
      let r = busy_at (take waiting_chain ls) (omega (arith, l, z)) in
      let n : length (get_or (take waiting_chain ls) (ruleBusy (take waiting_chain ls)) []) ≡ suc (length r.1) = ap length r.2 in
      let m : length (get_or (take waiting_chain ls) (ruleBusy (take waiting_chain ls)) []) ≡ 0 = ap (λ (x : ℕ). length (get_or (take waiting_chain ls) x [])) z ∙ ap length (bucket0 ls ∙ e) in
      absurd (omega (arith, n, m))

  constrain_zero : (t : Bool) → w.head.topped ≡ t → 1 ≤ w.head.len → get_or ls 0 [] ≡ []
      → (x : ℕ) × On x (get_or (ruleConstrain (width w.head.kind) (key_at w) keep (heap_in t (top_key w) ls)).heap.buckets 0 [])
  unfolding ruleConstrain heap_in top_in
  constrain_zero true t k e = bucket_zero (width w.head.kind) (key_at w) (heap_in true (top_key w) ls) (ruleBusy (take waiting_chain ls)) wide (not_first e) (some_bucket t k)
  constrain_zero false t k e = drain_zero (width w.head.kind) (key_at w) (heap_in false (top_key w) ls) (record { top = none; waiting = []; buckets = take waiting_chain ls }) (get_or ls waiting_chain []) wide (some_waiting t k)

-- ---- a heap without entries gives none

no_items : (l : List ℕ) → length l ≡ 0 → l ≡ []
no_items [] e = refl
no_items (x ∷ l) e = absurd (omega arith)

drain_none : (B : ℕ) (key : ℕ → ℕ) (h rest : Heap ℕ) (es : List ℕ) → es ≡ [] → ruleDrainSome B key keep h rest es ≡ stay h
unfolding ruleDrainSome
drain_none B key h rest es e = ap (ruleDrainSome B key keep h rest) e

bucket_none : (B : ℕ) (key : ℕ → ℕ) (h : Heap ℕ) (d : ℕ) → get_or h.buckets d [] ≡ [] → ruleDrainBucket B key keep h d ≡ stay h
unfolding ruleDrainBucket
bucket_none B key h zero e = refl
bucket_none B key h (suc d) e = drain_none B key h (record { top = h.top; waiting = h.waiting; buckets = set h.buckets (suc d) [] }) (get_or h.buckets (suc d) []) e

constrain_none : (B : ℕ) (key : ℕ → ℕ) (h : Heap ℕ) → h.waiting ≡ [] → ((d : ℕ) → get_or h.buckets d [] ≡ []) → ruleConstrain B key keep h ≡ stay h
unfolding ruleConstrain
constrain_none B key h w b = go h.top
  where
    go : (o : Option ℕ) → elim o as (λ x. Step ℕ) [ none ↦ ruleDrainSome B key keep h (record { top = none; waiting = []; buckets = h.buckets }) h.waiting | some t ↦ ruleDrainBucket B key keep h (ruleBusy h.buckets) ] ≡ stay h
    go none = drain_none B key h (record { top = none; waiting = []; buckets = h.buckets }) h.waiting w
    go (some t) = bucket_none B key h (ruleBusy h.buckets) (b (ruleBusy h.buckets))

pop_by : (B : ℕ) (key : ℕ → ℕ) (h : Heap ℕ) (l : List ℕ) → get_or h.buckets 0 [] ≡ l → rulePop B key keep h ≡ (elim l as (λ x. Step ℕ) [ [] ↦ ruleTake (ruleConstrain B key keep h) | e ∷ es ↦ ruleTake (stay h) ])
unfolding rulePop
pop_by B key h l e = ap (λ (x : List ℕ). elim x as (λ y. Step ℕ) [ [] ↦ ruleTake (ruleConstrain B key keep h) | e ∷ es ↦ ruleTake (stay h) ]) e

pop_none : (B : ℕ) (key : ℕ → ℕ) (h : Heap ℕ) → h.waiting ≡ [] → ((d : ℕ) → get_or h.buckets d [] ≡ []) → (rulePop B key keep h).given ≡ none
unfolding ruleTake stay
pop_none B key h w b =
    ap (λ (s : Step ℕ). s.given) (pop_by B key h [] (b 0) ∙ ap ruleTake (constrain_none B key h w b)) ∙ ap lastIn (b 0)

-- ---- what a constrain leaves of the head

pub head_kind : (w : World) (l : List ℕ) → (head_after w l).kind ≡ w.head.kind
unfolding head_after
head_kind w [] = refl
head_kind w (s ∷ ss) = refl

pub head_len : (w : World) (l : List ℕ) → (head_after w l).len ≡ w.head.len
unfolding head_after
head_len w [] = refl
head_len w (s ∷ ss) = refl

-- ---- pop

module _ {w : World} {ls : List (List ℕ)} (g : Good w ls) where
  none_held : w.head.len ≡ 0 → (c : ℕ) → c < free_chain → get_or ls c [] ≡ []
  none_held z c k =
      let a = total_ge2 ls c free_chain (omega arith) in
      let b = laid_total g.laid in
      let d = g.filed.counted in
      no_items (get_or ls c []) (omega (arith, a, b, d))

  -- code 8: the rule has nothing to give
  pub pop_nothing : w.head.len ≡ 0 → (rulePop (width w.head.kind) (key_at w) keep (heap_of w ls)).given ≡ none
  unfolding heap_in
  pop_nothing z = pop_none (width w.head.kind) (key_at w) (heap_of w ls) (none_held z waiting_chain (omega arith)) bucket
    where
      bucket : (d : ℕ) → get_or (take waiting_chain ls) d [] ≡ []
      bucket d = elim (dec_lt d waiting_chain) [
        | yes k ↦ get_or-take waiting_chain ls d [] k ∙ none_held z d (omega arith)
        | no k ↦ get_or-eq_default (take waiting_chain ls) [] (let l = taken_length g in omega arith)
      ]

  last_is : (i : List ℕ) (s : ℕ) → get_or ls 0 [] ≡ i ++ s ∷ [] → last_of w 0 ≡ suc s
  last_is i s e = g.laid.ends 0 (omega arith) ∙ ap (last_from 0) e ∙ last_append 0 s i

taken_top : (w : World) (s : ℕ) (ls : List (List ℕ)) → heap_of (taken w s) ls ≡ heap_of w ls
unfolding taken
taken_top w s ls = refl

-- the tail of bucket 0 is taken after a step that led to m
pub record Taken (w : World) (ls : List (List ℕ)) (m : Moved) (r : Step ℕ) : Type 0 where
  pub slot : ℕ
  pub after : List (List ℕ)
  pub given' : r.given ≡ some slot
  pub tail : get_or m.to.last 0 0 ≡ suc slot
  pub good : Good (pop_tail m w.keys w.values).world after
  pub heap' : heap_of (pop_tail m w.keys w.values).world after ≡ r.heap
  pub free : get_or after free_chain [] ≡ slot ∷ get_or ls free_chain []
  pub outcome : (free : List ℕ) → get_or ls free_chain [] ≡ free → pop_tail m w.keys w.values ≡ popped (record {
    head = resized (head_after w r.moved) (w.head.len - 1);
    links = lay (with_free r.heap (slot ∷ free)) (size w);
    keys = store_key w.head.kind w.keys slot 0 0;
    values = set w.values slot 0;
  }) (length r.moved) (word0 w slot) (word1 w slot) (get_or w.values slot 0)

module _ {w : World} {ls : List (List ℕ)} (m : Moved) (r : Step ℕ) (c : Constrained w ls m r) (i : List ℕ) (s : ℕ) (e : get_or c.after 0 [] ≡ i ++ s ∷ []) where
  tail_is : pop_tail m w.keys w.values ≡ popped (taken (moved_to w m) s) m.moves (key_word0 m.head.kind w.keys s) (key_word1 m.head.kind w.keys s) (get_or w.values s 0)
  unfolding taken
  tail_is = take_tail_lem m s w.keys w.values (last_is c.good i s e)

  rule_take : (heap_in m.head.topped (top_key (moved_to w m)) (taken_chains c.after i s) ≡ (ruleTake r).heap) × ((ruleTake r).given ≡ some s) × ((ruleTake r).moved ≡ r.moved)
  rule_take = take_rule (moved_to w m) c.after r c.heap i s e

  the_links : (free : List ℕ) → get_or ls free_chain [] ≡ free → lay (with_free (ruleTake r).heap (s ∷ free)) (size w) ≡ (taken (moved_to w m) s).links
  the_links free f = lay_heap (t_laid c.good s i e) m.head.topped (top_key (moved_to w m)) (size w) (ruleTake r).heap (s ∷ free)
      rule_take.0 (t_free c.good s i e ∙ ap (λ (x : List ℕ). s ∷ x) (c.free ∙ f)) (t_size c.good s i e ∙ c.sized)

  pub taken_after : Taken w ls m (ruleTake r)
  unfolding taken
  taken_after = record {
    slot = s;
    after = taken_chains c.after i s;
    given' = rule_take.1;
    tail = last_is c.good i s e;
    good = subst (λ (o : Popped). Good o.world (taken_chains c.after i s)) (sym tail_is) (take_good c.good s i e);
    heap' = ap (λ (o : Popped). heap_of o.world (taken_chains c.after i s)) tail_is ∙ taken_heap ∙ rule_take.0;
    free = t_free c.good s i e ∙ ap (λ (x : List ℕ). s ∷ x) c.free;
    outcome = λ free f. tail_is ∙ whole free f;
  }
    where
      taken_heap : heap_of (taken (moved_to w m) s) (taken_chains c.after i s) ≡ heap_in m.head.topped (top_key (moved_to w m)) (taken_chains c.after i s)
      taken_heap = taken_top (moved_to w m) s (taken_chains c.after i s)

      hd : m.head ≡ head_after w (ruleTake r).moved
      hd = c.head ∙ ap (head_after w) (sym rule_take.2)

      kind : m.head.kind ≡ w.head.kind
      kind = ap (λ (h : Head). h.kind) hd ∙ head_kind w (ruleTake r).moved

      len : m.head.len ≡ w.head.len
      len = ap (λ (h : Head). h.len) hd ∙ head_len w (ruleTake r).moved

      whole : (free : List ℕ) → get_or ls free_chain [] ≡ free → popped (taken (moved_to w m) s) m.moves (key_word0 m.head.kind w.keys s) (key_word1 m.head.kind w.keys s) (get_or w.values s 0)
          ≡ popped (record {
            head = resized (head_after w (ruleTake r).moved) (w.head.len - 1);
            links = lay (with_free (ruleTake r).heap (s ∷ free)) (size w);
            keys = store_key w.head.kind w.keys s 0 0;
            values = set w.values s 0;
          }) (length (ruleTake r).moved) (word0 w s) (word1 w s) (get_or w.values s 0)
      whole free f = λ j. popped (record {
        head = resized (hd j) (len j - 1);
        links = sym (the_links free f) j;
        keys = store_key (kind j) w.keys s 0 0;
        values = set w.values s 0;
      }) ((c.moves ∙ ap length (sym rule_take.2)) j) (key_word0 (kind j) w.keys s) (key_word1 (kind j) w.keys s) (get_or w.values s 0)

module _ {w : World} {ls : List (List ℕ)} (g : Good w ls) (k : 1 ≤ w.head.len) where
  after_zero : (c : Constrained w ls (constrain_core w.head w.links w.keys) (ruleConstrain (width w.head.kind) (key_at w) keep (heap_of w ls))) → get_or ls 0 [] ≡ []
      → (i : List ℕ) × (s : ℕ) × (get_or c.after 0 [] ≡ i ++ s ∷ [])
  unfolding heap_in
  after_zero c e =
      let z = constrain_zero g w.head.topped refl k e in
      let o : On z.0 (get_or (take waiting_chain c.after) 0 []) = subst (λ (h : Heap ℕ). On z.0 (get_or h.buckets 0 [])) (sym c.heap) z.1 in
      let o' : On z.0 (get_or c.after 0 []) = subst (On z.0) (bucket0 c.after) o in
      go (get_or c.after 0 []) refl o'
    where
      go : (l : List ℕ) → get_or c.after 0 [] ≡ l → On (constrain_zero g w.head.topped refl k e).0 l → (i : List ℕ) × (s : ℕ) × (get_or c.after 0 [] ≡ i ++ s ∷ [])
      go [] q o = absurd (omega arith)
      go (x ∷ l) q o = let r = snoc_of x l in (r.0, r.1, q ∙ r.2)

  pop_of : (l : List ℕ) → get_or (take waiting_chain ls) 0 [] ≡ l → Taken w ls (readied (eqb (last_of w 0) 0) w.head w.links w.keys) (rulePop (width w.head.kind) (key_at w) keep (heap_of w ls))
  unfolding heap_in readied stay_constrained
  pop_of [] e =
      let e' : get_or ls 0 [] ≡ [] = sym (bucket0 ls) ∙ e in
      let c = constrain_rule g in
      let r = after_zero c e' in
      let z : last_of w 0 ≡ 0 = g.laid.ends 0 (omega arith) ∙ ap (last_from 0) e' in
      subst (λ (b : Bool). Taken w ls (readied b w.head w.links w.keys) (rulePop (width w.head.kind) (key_at w) keep (heap_of w ls))) (sym (eq-eqb (last_of w 0) 0 z))
      (subst (Taken w ls (constrain_core w.head w.links w.keys)) (sym (pop_by (width w.head.kind) (key_at w) (heap_of w ls) [] e))
      (taken_after (constrain_core w.head w.links w.keys) (ruleConstrain (width w.head.kind) (key_at w) keep (heap_of w ls)) c r.0 r.1 r.2))
  pop_of (x ∷ l) e =
      let r = snoc_of x l in
      let e' : get_or ls 0 [] ≡ r.0 ++ r.1 ∷ [] = sym (bucket0 ls) ∙ e ∙ r.2 in
      let z : last_of w 0 ≡ suc r.1 = last_is g r.0 r.1 e' in
      subst (λ (b : Bool). Taken w ls (readied b w.head w.links w.keys) (rulePop (width w.head.kind) (key_at w) keep (heap_of w ls))) (sym (not_none (last_of w 0) r.1 z))
      (subst (Taken w ls (record { head = w.head; to = w.links; moves = 0 })) (sym (pop_by (width w.head.kind) (key_at w) (heap_of w ls) (x ∷ l) e))
      (taken_after (record { head = w.head; to = w.links; moves = 0 }) (stay (heap_of w ls)) (stay_constrained g) r.0 r.1 e'))

  -- a pop of a pool that is not empty is the rule's
  pub pop_rule : Taken w ls (readied (eqb (last_of w 0) 0) w.head w.links w.keys) (rulePop (width w.head.kind) (key_at w) keep (heap_of w ls))
  pop_rule = pop_of (get_or (take waiting_chain ls) 0 []) refl
