-- The core's push, take and constrain are the rule's, with slots for entries.
use mathlib.Core.Path.{◌≡◌, refl, sym, ap, ap₂, ◌∙◌, subst}
use mathlib.Core.Logic.{◌≢◌}
use mathlib.Core.Bool.{Bool, true, false, cond, ◌||◌}
use mathlib.Core.List.{List, [], ◌∷◌, ◌++◌, drop_last}
use mathlib.Core.Option.{none, some}
use Prim.Native.Nat.{ℕ, zero, suc, ◌+◌, ◌≤◌, ◌<◌, zero-le}
use native.Mathlib.Nat.{zero-add, add-zero, le_refl}
use native.Mathlib.Omega.{arith}
use native.Mathlib.Decide.{dec_lt}
use borrow.Author.Tests.{eq-eqb, ne_eqb}
use lib.Dec.{eqb}
use lib.ListN.{length, get_or, set, take, length-set, get_or-eq_default}
use lib.Seq.{get_or-set_same, get_or-set_other, get_or-take, take-set-lt, take-set-le, length-take-le}
use Rattle.rule.specs.Width.{distance}
use Rattle.rule.specs.Lists.{last as lastIn}
use Rattle.rule.specs.Rule.{keep, Heap, Step, put, busy as ruleBusy, spread as ruleSpread, greatest as ruleGreatest, push as rulePush, drain as ruleDrain, drain_some as ruleDrainSome, drain_bucket as ruleDrainBucket, constrain as ruleConstrain, take_tail as ruleTake, stay}
use Rattle.rule.proofs.Width.{distance_le}
use Rattle.rule.proofs.Lists.{last_snoc, drop_last_snoc}
use Rattle.pool.specs.Chain.{Linked, On}
use Rattle.keys.specs.Ordered.{width, ordered}
use Rattle.pool.specs.World.{waiting_chain, free_chain, chain_count, World, topped_at, size, first_of, word0, word1, key_at, top_key, place}
use Rattle.pool.specs.Lay.{top_in, heap_in, heap_of, head_after}
use Rattle.pool.specs.Core.{place_in, Moved, moved_to, drain_chain, drain_unless, busy_from, constrain_by, constrain_core}
use Rattle.pool.proofs.Chains.{no_slots}
use Rattle.pool.proofs.Exam.{distance_at_le, home_topped, home_untopped}
use Rattle.pool.proofs.Laid.{Good}
use Rattle.pool.proofs.OnChains.{less_one, not_none}
use Rattle.keys.proofs.Ordered.{width_le}
use Rattle.pool.proofs.Push.{pushed_chains}
use Rattle.pool.proofs.Take.{taken_chains}
use Rattle.pool.proofs.Drain.{leader, drained_to, drained_chains, drain_good, drain_greatest, drain_moves, d_size, d_free, spread_past, spread_take, leading_is}

-- ---- push

push_lists : (B : ℕ) (key : ℕ → ℕ) (t : Bool) (top : ℕ) (ls : List (List ℕ)) (fs : List ℕ) (s : ℕ) → B ≤ 128 → length ls ≡ chain_count
    → heap_in t top (pushed_chains ls fs (place t (distance B (key s) top)) s) ≡ rulePush B key keep (heap_in t top ls) s
unfolding heap_in rulePush pushed_chains put place top_in
push_lists B key true top ls fs s h l =
    let d : ℕ = distance B (key s) top in
    let lt : d < waiting_chain = let q = distance_le B (key s) top in omega arith in
    λ i. record {
      top = some top;
      waiting = (get_or-set_other (set ls free_chain fs) d waiting_chain (get_or ls d [] ++ s ∷ []) [] (omega arith) ∙ get_or-set_other ls free_chain waiting_chain fs [] (omega arith)) i;
      buckets = (take-set-lt waiting_chain (set ls free_chain fs) d (get_or ls d [] ++ s ∷ []) lt
          ∙ ap (λ (x : List (List ℕ)). set x d (get_or ls d [] ++ s ∷ [])) (take-set-le waiting_chain ls free_chain fs (omega arith))
          ∙ ap (λ (x : List ℕ). set (take waiting_chain ls) d (x ++ s ∷ [])) (sym (get_or-take waiting_chain ls d [] lt))) i;
    }
push_lists B key false top ls fs s h l = λ i. record {
  top = none;
  waiting = get_or-set_same (set ls free_chain fs) waiting_chain (get_or ls waiting_chain [] ++ s ∷ []) [] (let q = length-set ls free_chain fs in omega arith) i;
  buckets = (take-set-le waiting_chain (set ls free_chain fs) waiting_chain (get_or ls waiting_chain [] ++ s ∷ []) (le_refl waiting_chain) ∙ take-set-le waiting_chain ls free_chain fs (omega arith)) i;
}

-- the pushed slot goes where the rule puts it
pub enter_rule : {w : World} {ls : List (List ℕ)} → Good w ls → (s : ℕ) (fs : List ℕ) (a b : ℕ)
    → heap_in w.head.topped (top_key w) (pushed_chains ls fs (place_in w.head a b) s) ≡ rulePush (width w.head.kind) (λ x. ordered w.head.kind a b) keep (heap_of w ls) s
unfolding place_in
enter_rule {w} {ls} g s fs a b = push_lists (width w.head.kind) (λ x. ordered w.head.kind a b) w.head.topped (top_key w) ls fs s (width_le w.head.kind) g.laid.many

-- ---- the tail of bucket 0

-- a chain that is not empty has a last slot
pub snoc_of : (x : ℕ) (l : List ℕ) → (i : List ℕ) × (s : ℕ) × (x ∷ l ≡ i ++ s ∷ [])
snoc_of x [] = ([], x, refl)
snoc_of x (y ∷ l) = let r = snoc_of y l in (x ∷ r.0, r.1, ap (λ (z : List ℕ). x ∷ z) r.2)

pub bucket0 : (ls : List (List ℕ)) → get_or (take waiting_chain ls) 0 [] ≡ get_or ls 0 []
bucket0 ls = get_or-take waiting_chain ls 0 [] (omega arith)

take_lists : (t : Bool) (top : ℕ) (ls : List (List ℕ)) (l : List ℕ) (s : ℕ) → get_or ls 0 [] ≡ l ++ s ∷ []
    → heap_in t top (taken_chains ls l s) ≡ record { top = top_in t top; waiting = get_or ls waiting_chain []; buckets = set (take waiting_chain ls) 0 (drop_last (get_or (take waiting_chain ls) 0 [])) }
unfolding heap_in taken_chains
take_lists t top ls l s e = λ i. record {
  top = top_in t top;
  waiting = (get_or-set_other (set ls 0 l) free_chain waiting_chain (s ∷ get_or ls free_chain []) [] (omega arith) ∙ get_or-set_other ls 0 waiting_chain l [] (omega arith)) i;
  buckets = (take-set-le waiting_chain (set ls 0 l) free_chain (s ∷ get_or ls free_chain []) (omega arith) ∙ take-set-lt waiting_chain ls 0 l (omega arith)
      ∙ ap (set (take waiting_chain ls) 0) (sym (ap drop_last (bucket0 ls ∙ e) ∙ drop_last_snoc l s))) i;
}

-- taking slot s, the tail of bucket 0, is the rule's taking, after whatever step led here
pub take_rule : (w : World) (ls : List (List ℕ)) (r : Step ℕ) → heap_of w ls ≡ r.heap → (l : List ℕ) (s : ℕ) → get_or ls 0 [] ≡ l ++ s ∷ []
    → (heap_in w.head.topped (top_key w) (taken_chains ls l s) ≡ (ruleTake r).heap) × ((ruleTake r).given ≡ some s) × ((ruleTake r).moved ≡ r.moved)
unfolding ruleTake heap_in
take_rule w ls r h l s e = (
  take_lists w.head.topped (top_key w) ls l s e ∙ ap (λ (x : Heap ℕ). record { top = x.top; waiting = x.waiting; buckets = set x.buckets 0 (drop_last (get_or x.buckets 0 [])) }) h,
  ap (λ (x : Heap ℕ). lastIn (get_or x.buckets 0 [])) (sym h) ∙ ap lastIn (bucket0 ls ∙ e) ∙ last_snoc l s,
  refl,
)

-- ---- constrain

-- the world with the head and the links that a constrain leaves
-- what a constrain with these results does, against a step of the rule
pub record Constrained (w : World) (ls : List (List ℕ)) (m : Moved) (r : Step ℕ) : Type 0 where
  pub after : List (List ℕ)
  pub good : Good (moved_to w m) after
  pub heap : heap_of (moved_to w m) after ≡ r.heap
  pub moves : m.moves ≡ length r.moved
  pub free : get_or after free_chain [] ≡ get_or ls free_chain []
  pub head : m.head ≡ head_after w r.moved
  pub sized : length m.to.next ≡ size w

unfoldable pub stay_constrained : {w : World} {ls : List (List ℕ)} → Good w ls → Constrained w ls (record { head = w.head; to = w.links; moves = 0 }) (stay (heap_of w ls))
unfolding stay head_after
stay_constrained {w} {ls} g = record { after = ls; good = g; heap = refl; moves = refl; free = refl; head = refl; sized = refl }

-- the waiting chain is empty if there is a top
pub no_waiting_lem : {w : World} {ls : List (List ℕ)} → Good w ls → w.head.topped ≡ true → get_or ls waiting_chain [] ≡ []
no_waiting_lem {w} {ls} g t = no_slots (get_or ls waiting_chain []) (λ s o. let a = g.filed.belongs waiting_chain (omega arith) s o in let b = home_topped w s t in let d = distance_at_le w s in omega arith)

-- the buckets are empty if there is none
pub no_buckets_lem : {w : World} {ls : List (List ℕ)} → Good w ls → w.head.topped ≡ false → (c : ℕ) → c < waiting_chain → get_or ls c [] ≡ []
no_buckets_lem {w} {ls} g t c k = no_slots (get_or ls c []) (λ s o. let a = g.filed.belongs c (omega arith) s o in let b = home_untopped w s t in omega arith)

unless_is : {w : World} {ls : List (List ℕ)} (g : Good w ls) (c s : ℕ) (ss : List ℕ) (k : c < free_chain) (e : get_or ls c [] ≡ s ∷ ss)
    (far : (d : ℕ) → d < free_chain → d ≢ c → (x : ℕ) → On x (get_or ls d []) → (w.head.topped ≡ true) × (c < d))
    → drain_unless false w.head w.links w.keys c ≡ record {
      head = topped_at w.head (word0 w (leader w s ss)) (word1 w (leader w s ss));
      to = (drained_to w c (leader w s ss)).links;
      moves = (drain_chain w.head.kind w.keys (key_at w (leader w s ss)) c w.links).moves;
    }
unfolding drain_unless drained_to
unless_is {w} {ls} g c s ss k e far = rw (drain_greatest g c s ss k e far, less_one (leader w s ss)) refl

drain_constrained : {w : World} {ls : List (List ℕ)} (g : Good w ls) (c s : ℕ) (ss : List ℕ) (k : c < free_chain) (e : get_or ls c [] ≡ s ∷ ss)
    (far : (d : ℕ) → d < free_chain → d ≢ c → (x : ℕ) → On x (get_or ls d []) → (w.head.topped ≡ true) × (c < d))
    (rest : Heap ℕ) → take waiting_chain (set ls c []) ≡ rest.buckets → get_or (set ls c []) waiting_chain [] ≡ rest.waiting
    → Constrained w ls (drain_unless false w.head w.links w.keys c) (ruleDrain (width w.head.kind) (key_at w) keep rest (s ∷ ss))
unfolding ruleDrain heap_in top_in drained_to drained_chains head_after
drain_constrained {w} {ls} g c s ss k e far rest b z = subst (λ (m : Moved). Constrained w ls m (ruleDrain (width w.head.kind) (key_at w) keep rest (s ∷ ss))) (sym is) (record {
  after = drained_chains w ls c (s ∷ ss);
  good = drain_good g c s ss k e far;
  heap = λ i. record {
    top = some ((leading_is (key_at w) s ss).0 i);
    waiting = (spread_past (width w.head.kind) (key_at w) (ruleGreatest (key_at w) (s ∷ ss)) (set ls c []) (s ∷ ss) waiting_chain (let q = width_le w.head.kind in omega arith) ∙ z) i;
    buckets = (spread_take (width w.head.kind) (key_at w) (ruleGreatest (key_at w) (s ∷ ss)) waiting_chain (set ls c []) (s ∷ ss) (let q = width_le w.head.kind in omega arith)
        ∙ ap (λ (x : List (List ℕ)). ruleSpread (width w.head.kind) (key_at w) keep (ruleGreatest (key_at w) (s ∷ ss)) x (s ∷ ss)) b) i;
  };
  moves = drain_moves g c s ss k e far (key_at w (leader w s ss));
  free = d_free g c s ss k e far;
  head = refl;
  sized = d_size g c s ss k e far;
})
  where
    one : Moved
    one = record {
      head = topped_at w.head (word0 w (leader w s ss)) (word1 w (leader w s ss));
      to = (drained_to w c (leader w s ss)).links;
      moves = (drain_chain w.head.kind w.keys (key_at w (leader w s ss)) c w.links).moves;
    }

    is : drain_unless false w.head w.links w.keys c ≡ one
    is = unless_is g c s ss k e far

-- ---- the first bucket that is not empty

busy_step : (k c : ℕ) (first : List ℕ) (t : Bool) → eqb (get_or first c 0) 0 ≡ t → busy_from (suc k) first c ≡ cond t (busy_from k first (c + 1)) c
unfolding busy_from
busy_step k c first t e = rw e refl

busy_first : (next first : List ℕ) (k c : ℕ) (bs : List (List ℕ)) → length bs ≡ k → ((i : ℕ) → i < k → Linked next (get_or first (c + i) 0) (get_or bs i [])) → busy_from k first c ≡ c + ruleBusy bs
unfolding busy_from ruleBusy
busy_first next first zero c [] e h = omega arith
busy_first next first (suc k) c [] e h = absurd (omega arith)
busy_first next first zero c (b ∷ bs) e h = absurd (omega arith)
busy_first next first (suc k) c ([] ∷ bs) e h =
    let z : get_or first (c + 0) 0 ≡ 0 = h 0 (omega arith) in
    busy_step k c first true (eq-eqb (get_or first c 0) 0 (ap (λ (x : ℕ). get_or first x 0) (sym (add-zero c)) ∙ z))
    ∙ busy_first next first k (c + 1) bs (omega arith) (λ i q. subst (λ (x : ℕ). Linked next (get_or first x 0) (get_or bs i [])) (omega arith) (h (suc i) (omega arith)))
    ∙ omega arith
busy_first next first (suc k) c ((x ∷ l) ∷ bs) e h =
    let z : get_or first (c + 0) 0 ≡ suc x = (h 0 (omega arith)).0 in
    busy_step k c first false (not_none (get_or first c 0) x (ap (λ (y : ℕ). get_or first y 0) (sym (add-zero c)) ∙ z)) ∙ omega arith

pub busy_le : (bs : List (List ℕ)) → ruleBusy bs ≤ length bs
unfolding ruleBusy
busy_le [] = zero-le
busy_le ([] ∷ bs) = let h = busy_le bs in omega arith
busy_le ((x ∷ l) ∷ bs) = zero-le

pub busy_before : (bs : List (List ℕ)) (i : ℕ) → i < ruleBusy bs → get_or bs i [] ≡ []
unfolding ruleBusy
busy_before [] i h = refl
busy_before ([] ∷ bs) zero h = refl
busy_before ([] ∷ bs) (suc i) h = busy_before bs i (omega arith)
busy_before ((x ∷ l) ∷ bs) i h = absurd (omega arith)

pub busy_at : (bs : List (List ℕ)) → ruleBusy bs < length bs → (s : ℕ) × (ss : List ℕ) × (get_or bs (ruleBusy bs) [] ≡ s ∷ ss)
unfolding ruleBusy
busy_at [] h = absurd (omega arith)
busy_at ([] ∷ bs) h = busy_at bs (omega arith)
busy_at ((x ∷ l) ∷ bs) h = (x, l, refl)

module _ {w : World} {ls : List (List ℕ)} (g : Good w ls) where
  first_at : (c s : ℕ) (ss : List ℕ) → c < chain_count → get_or ls c [] ≡ s ∷ ss → first_of w c ≡ suc s
  first_at c s ss k e = (subst (Linked w.links.next (first_of w c)) e (g.laid.linked c k)).0

  first_none : (c : ℕ) → c < chain_count → get_or ls c [] ≡ [] → first_of w c ≡ 0
  first_none c k e = subst (Linked w.links.next (first_of w c)) e (g.laid.linked c k)

  -- with no top
  constrain_waiting : w.head.topped ≡ false → (es : List ℕ) → get_or ls waiting_chain [] ≡ es
      → Constrained w ls (drain_unless (eqb (first_of w waiting_chain) 0) w.head w.links w.keys waiting_chain) (ruleDrainSome (width w.head.kind) (key_at w) keep (heap_of w ls) (record { top = none; waiting = []; buckets = take waiting_chain ls }) es)
  unfolding drain_unless ruleDrain ruleDrainSome heap_in
  constrain_waiting t [] e = subst (λ (b : Bool). Constrained w ls (drain_unless b w.head w.links w.keys waiting_chain) (stay (heap_of w ls))) (sym (eq-eqb (first_of w waiting_chain) 0 (first_none waiting_chain (omega arith) e))) (stay_constrained g)
  constrain_waiting t (s ∷ ss) e =
      subst (λ (b : Bool). Constrained w ls (drain_unless b w.head w.links w.keys waiting_chain) (ruleDrain (width w.head.kind) (key_at w) keep (record { top = none; waiting = []; buckets = take waiting_chain ls }) (s ∷ ss))) (sym (not_none (first_of w waiting_chain) s (first_at waiting_chain s ss (omega arith) e)))
      (drain_constrained g waiting_chain s ss (omega arith) e
      (λ d q n x o. let z : On x [] = subst (On x) (no_buckets_lem g t d (omega arith)) o in absurd (omega arith))
      (record { top = none; waiting = []; buckets = take waiting_chain ls }) (take-set-le waiting_chain ls waiting_chain [] (le_refl waiting_chain)) (get_or-set_same ls waiting_chain [] [] (let m = g.laid.many in omega arith)))

  busy_is : busy_from waiting_chain w.links.first 0 ≡ ruleBusy (take waiting_chain ls)
  busy_is = busy_first w.links.next w.links.first waiting_chain 0 (take waiting_chain ls) (length-take-le waiting_chain ls (let m = g.laid.many in omega arith))
      (λ i q. subst (λ (x : ℕ). Linked w.links.next (first_of w x) (get_or (take waiting_chain ls) i [])) (sym (zero-add i)) (subst (Linked w.links.next (first_of w i)) (sym (get_or-take waiting_chain ls i [] q)) (g.laid.linked i (omega arith))))
      ∙ zero-add (ruleBusy (take waiting_chain ls))

  pub taken_length : length (take waiting_chain ls) ≡ waiting_chain
  taken_length = length-take-le waiting_chain ls (let m = g.laid.many in omega arith)

  -- with a top
  constrain_more : w.head.topped ≡ true → (c : ℕ) → ruleBusy (take waiting_chain ls) ≡ suc c → (es : List ℕ) → get_or (take waiting_chain ls) (suc c) [] ≡ es
      → Constrained w ls (drain_unless (eqb (suc c) 0 || eqb (suc c) waiting_chain) w.head w.links w.keys (suc c)) (ruleDrainSome (width w.head.kind) (key_at w) keep (heap_of w ls) (record { top = (heap_of w ls).top; waiting = get_or ls waiting_chain []; buckets = set (take waiting_chain ls) (suc c) [] }) es)
  unfolding drain_unless ruleDrain ruleDrainSome heap_in
  constrain_more t c e [] f =
      let full : suc c ≡ waiting_chain = no_more (suc c) e f in
      subst (λ (x : Bool). Constrained w ls (drain_unless x w.head w.links w.keys (suc c)) (stay (heap_of w ls))) (sym (test true (eq-eqb (suc c) waiting_chain full))) (stay_constrained g)
    where
      test : (x : Bool) → eqb (suc c) waiting_chain ≡ x → eqb (suc c) 0 || eqb (suc c) waiting_chain ≡ x
      test x p = ap₂ ◌||◌ (not_none (suc c) c refl) p

      no_more : (b : ℕ) → ruleBusy (take waiting_chain ls) ≡ b → get_or (take waiting_chain ls) b [] ≡ [] → b ≡ waiting_chain
      no_more b p q = elim (dec_lt (ruleBusy (take waiting_chain ls)) (length (take waiting_chain ls))) [
        | yes h ↦ (let r = busy_at (take waiting_chain ls) h in
            let n : length (get_or (take waiting_chain ls) (ruleBusy (take waiting_chain ls)) []) ≡ suc (length r.1) = ap length r.2 in
            let m : length (get_or (take waiting_chain ls) (ruleBusy (take waiting_chain ls)) []) ≡ 0 = ap (λ (x : ℕ). length (get_or (take waiting_chain ls) x [])) p ∙ ap length q in
            absurd (omega (arith, n, m)))
        | no h ↦ (let l = busy_le (take waiting_chain ls) in let z = taken_length in omega (arith, l, z))
      ]
  constrain_more t c e (s ∷ ss) f =
      let lt : suc c < waiting_chain = short (suc c) s ss f in
      let f' : get_or ls (suc c) [] ≡ s ∷ ss = sym (get_or-take waiting_chain ls (suc c) [] lt) ∙ f in
      subst (λ (x : Bool). Constrained w ls (drain_unless x w.head w.links w.keys (suc c)) (ruleDrain (width w.head.kind) (key_at w) keep (record { top = (heap_of w ls).top; waiting = get_or ls waiting_chain []; buckets = set (take waiting_chain ls) (suc c) [] }) (s ∷ ss)))
      (sym (test false (ne_eqb (suc c) waiting_chain (λ q. absurd (omega arith)))))
      (drain_constrained g (suc c) s ss (omega arith) f' (others (suc c) e)
      (record { top = (heap_of w ls).top; waiting = get_or ls waiting_chain []; buckets = set (take waiting_chain ls) (suc c) [] }) (take-set-lt waiting_chain ls (suc c) [] lt) (get_or-set_other ls (suc c) waiting_chain [] [] (omega arith)))
    where
      test : (x : Bool) → eqb (suc c) waiting_chain ≡ x → eqb (suc c) 0 || eqb (suc c) waiting_chain ≡ x
      test x p = ap₂ ◌||◌ (not_none (suc c) c refl) p

      short : (b s : ℕ) (ss : List ℕ) → get_or (take waiting_chain ls) b [] ≡ s ∷ ss → b < waiting_chain
      short b s ss q = elim (dec_lt b waiting_chain) [
        | yes h ↦ h
        | no h ↦ (let n : length (get_or (take waiting_chain ls) b []) ≡ suc (length ss) = ap length q in
            let m : length (get_or (take waiting_chain ls) b []) ≡ 0 = ap length (get_or-eq_default (take waiting_chain ls) [] (let z = taken_length in omega arith)) in
            absurd (omega (arith, n, m)))
      ]

      others : (b : ℕ) → ruleBusy (take waiting_chain ls) ≡ b → (d : ℕ) → d < free_chain → d ≢ b → (x : ℕ) → On x (get_or ls d []) → (w.head.topped ≡ true) × (b < d)
      others b p d q n x o = (
        t,
        elim (dec_lt b d) [
          | yes h ↦ h
          | no h ↦ (let bl : b ≤ waiting_chain = (let l = busy_le (take waiting_chain ls) in let z = taken_length in omega (arith, l, z)) in
              let u : get_or ls d [] ≡ [] = sym (get_or-take waiting_chain ls d [] (omega arith)) ∙ busy_before (take waiting_chain ls) d (omega arith) in
              let z : On x [] = subst (On x) u o in absurd (omega arith))
        ],
      )

  constrain_bucket : w.head.topped ≡ true → (b : ℕ) → ruleBusy (take waiting_chain ls) ≡ b
      → Constrained w ls (drain_unless (eqb b 0 || eqb b waiting_chain) w.head w.links w.keys b) (ruleDrainBucket (width w.head.kind) (key_at w) keep (heap_of w ls) b)
  unfolding drain_unless ruleDrainBucket heap_in
  constrain_bucket t zero e = stay_constrained g
  constrain_bucket t (suc c) e = constrain_more t c e (get_or (take waiting_chain ls) (suc c) []) refl

  -- a constrain of the core is the rule's
  constrain_by_lem : (t : Bool) → w.head.topped ≡ t → Constrained w ls (constrain_by t w.head w.links w.keys) (ruleConstrain (width w.head.kind) (key_at w) keep (heap_in t (top_key w) ls))
  unfolding constrain_by ruleConstrain heap_in top_in
  constrain_by_lem true t =
      subst (λ (x : Bool). Constrained w ls (constrain_by true w.head w.links w.keys) (ruleDrainBucket (width w.head.kind) (key_at w) keep (heap_in x (top_key w) ls) (ruleBusy (take waiting_chain ls)))) t
      (subst (λ (b : ℕ). Constrained w ls (drain_unless (eqb b 0 || eqb b waiting_chain) w.head w.links w.keys b) (ruleDrainBucket (width w.head.kind) (key_at w) keep (heap_of w ls) (ruleBusy (take waiting_chain ls)))) (sym busy_is)
      (constrain_bucket t (ruleBusy (take waiting_chain ls)) refl))
  constrain_by_lem false t =
      subst (λ (x : Bool). Constrained w ls (constrain_by false w.head w.links w.keys) (ruleDrainSome (width w.head.kind) (key_at w) keep (heap_in x (top_key w) ls) (record { top = none; waiting = []; buckets = take waiting_chain ls }) (get_or ls waiting_chain []))) t
      (constrain_waiting t (get_or ls waiting_chain []) refl)

  pub constrain_rule : Constrained w ls (constrain_core w.head w.links w.keys) (ruleConstrain (width w.head.kind) (key_at w) keep (heap_of w ls))
  unfolding constrain_core
  constrain_rule = constrain_by_lem w.head.topped refl
