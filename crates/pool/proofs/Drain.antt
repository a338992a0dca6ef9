-- A drain: the top becomes the chain's greatest key, and each entry goes to the tail of its new bucket.
use mathlib.Core.Path.{◌≡◌, refl, sym, ap, ◌∙◌, subst}
use mathlib.Core.Logic.{◌≢◌, ◌⊎◌, inl, inr}
use mathlib.Core.Bool.{Bool, true, false, cond, true≢false}
use mathlib.Core.List.{List, [], ◌∷◌, ◌++◌}
use Prim.Native.Nat.{ℕ, zero, suc, ◌+◌, ◌*◌, ◌≤◌, ◌<◌, max}
use native.Mathlib.Nat.{zero-add, le_of_lt}
use borrow.Author.Tests.{ltb-true, ltb-false}
use native.Mathlib.Omega.{arith}
use native.Mathlib.Decide.{ℕ_discrete}
use lib.Dec.{ltb, leb}
use lib.ListN.{length, get_or, set, take, length-set}
use lib.Seq.{get_or-set_same, get_or-set_other, get_or-take, take-set-lt}
use Rattle.rule.specs.Width.{distance}
use Rattle.rule.proofs.Width.{distance_le}
use Rattle.rule.specs.Rule.{keep, put, spread as ruleSpread, greatest as ruleGreatest}
use Rattle.keys.specs.declared.kind.Kind.{Kind}
use Rattle.keys.specs.Ordered.{proper}
use Rattle.pool.specs.Chain.{hit, Linked, On}
use Rattle.pool.proofs.Chains.{hit_same, hit_cases, tally_ge, count_append, linked_agree, total_ge}
use Rattle.keys.specs.Ordered.{width, words}
use Rattle.pool.specs.World.{free_chain, Links, World, topped_at, slot_key, size, first_of, word0, word1, key_at, top_key, place, within, home, under}
use Rattle.pool.specs.Sound.{limit, Fit}
use Rattle.pool.proofs.Exam.{home_topped, under_proper, under_topped, and_both, is_leb}
use Rattle.pool.proofs.Laid.{Laid, Filed, Good, laid_most, touch_laid, laid_total}
use Rattle.pool.specs.Core.{appended, emptied, greatest_from, greatest_of, drain_from, drain_chain}
use Rattle.pool.specs.Lay.{leading}
use Rattle.pool.proofs.OnChains.{append_touch, append_next, empty_touch, not_hit, less_one, not_none, appended_next, appended_back}
use Rattle.keys.proofs.Ordered.{width_le}
use Rattle.rule.proofs.Width.{nearer, unmoved}

-- ---- the loop of the drain

pub far_lt : (kind : Kind) (a b : ℕ) → distance (width kind) a b < free_chain
far_lt kind a b = let h = distance_le (width kind) a b in let k = width_le kind in omega arith

module _ (kind : Kind) (keys : List ℕ) (t : ℕ) where
  pub drain_laid : (f : ℕ) (lk : Links) (ls : List (List ℕ)) (l m : ℕ) (off : List ℕ) → Laid lk ls off → Linked lk.next l off → length off ≤ f
      → Laid (drain_from f kind keys t l m lk).to (ruleSpread (width kind) (slot_key kind keys) keep t ls off) [] × ((drain_from f kind keys t l m lk).moves ≡ m + length off)
  unfolding drain_from ruleSpread put
  drain_laid zero lk ls l m [] h k b = (h, omega arith)
  drain_laid zero lk ls l m (s ∷ ss) h k b = absurd (omega arith)
  drain_laid (suc f) lk ls l m [] h k b = rw k (h, omega arith)
  drain_laid (suc f) lk ls l m (s ∷ ss) h k b =
      let d : ℕ = distance (width kind) (slot_key kind keys s) t in
      let lt : d < free_chain = far_lt kind (slot_key kind keys s) t in
      let h' : Laid (appended lk d s) (set ls d (get_or ls d [] ++ s ∷ [])) ss = touch_laid h (omega arith) (append_touch d lt h) in
      let k' : Linked (appended lk d s).next (get_or lk.next s 0) ss = linked_agree lk.next (appended lk d s).next (get_or lk.next s 0) ss
      (λ x o. append_next d lt h x (not_hit x s (let q = laid_most h x in omega arith)) (let q = laid_most h x in let r = tally_ge x ls d in omega arith)) k.1 in
      let r = drain_laid f (appended lk d s) (set ls d (get_or ls d [] ++ s ∷ [])) (get_or lk.next s 0) (m + 1) ss h' k' (omega arith) in
      rw k.0 (r.0, r.1 ∙ one_more m (length ss))
    where
      one_more : (a b : ℕ) → (a + 1) + b ≡ a + suc b
      one_more a b = omega arith

  pub drain_next : (f : ℕ) (lk : Links) (l m : ℕ) → length (drain_from f kind keys t l m lk).to.next ≡ length lk.next
  unfolding drain_from
  drain_next zero lk l m = refl
  drain_next (suc f) lk zero m = refl
  drain_next (suc f) lk (suc s) m =
      drain_next f (appended lk (distance (width kind) (slot_key kind keys s) t) s) (get_or lk.next s 0) (m + 1) ∙ appended_next lk (distance (width kind) (slot_key kind keys s) t) s

  pub drain_back : (f : ℕ) (lk : Links) (l m : ℕ) → length (drain_from f kind keys t l m lk).to.back ≡ length lk.back
  unfolding drain_from
  drain_back zero lk l m = refl
  drain_back (suc f) lk zero m = refl
  drain_back (suc f) lk (suc s) m =
      drain_back f (appended lk (distance (width kind) (slot_key kind keys s) t) s) (get_or lk.next s 0) (m + 1) ∙ appended_back lk (distance (width kind) (slot_key kind keys s) t) s

-- ---- who stands where after the rule's spread

module _ (B : ℕ) (key : ℕ → ℕ) (t : ℕ) where
  pub spread_length : (ls : List (List ℕ)) (ss : List ℕ) → length (ruleSpread B key keep t ls ss) ≡ length ls
  unfolding ruleSpread put
  spread_length ls [] = refl
  spread_length ls (s ∷ ss) =
      spread_length (set ls (distance B (key s) t) (get_or ls (distance B (key s) t) [] ++ s ∷ [])) ss
      ∙ length-set ls (distance B (key s) t) (get_or ls (distance B (key s) t) [] ++ s ∷ [])

  -- past the width nothing changes
  pub spread_past : (ls : List (List ℕ)) (ss : List ℕ) (d : ℕ) → B < d → get_or (ruleSpread B key keep t ls ss) d [] ≡ get_or ls d []
  unfolding ruleSpread put
  spread_past ls [] d h = refl
  spread_past ls (s ∷ ss) d h =
      spread_past (set ls (distance B (key s) t) (get_or ls (distance B (key s) t) [] ++ s ∷ [])) ss d h
      ∙ get_or-set_other ls (distance B (key s) t) d (get_or ls (distance B (key s) t) [] ++ s ∷ []) [] (let q = distance_le B (key s) t in omega arith)

  put_who : (ls : List (List ℕ)) (c s d x : ℕ) → c < length ls → On x (get_or (set ls c (get_or ls c [] ++ s ∷ [])) d []) → ((x ≡ s) × (c ≡ d)) ⊎ On x (get_or ls d [])
  put_who ls c s d x k o = go (ℕ_discrete d c) (hit_cases x s)
    where
      go : Dec (d ≡ c) → (x ≡ s) ⊎ (hit x s ≡ 0) → ((x ≡ s) × (c ≡ d)) ⊎ On x (get_or ls d [])
      go (yes e) (inl q) = inl (q, sym e)
      go (yes e) (inr q) =
          let o1 : On x (get_or ls c [] ++ s ∷ []) = subst (On x) (ap (λ (i : ℕ). get_or (set ls c (get_or ls c [] ++ s ∷ [])) i []) e ∙ get_or-set_same ls c (get_or ls c [] ++ s ∷ []) [] k) o in
          let a = count_append x (get_or ls c []) (s ∷ []) in
          let o2 : On x (get_or ls c []) = omega arith in
          inr (subst (λ (i : ℕ). On x (get_or ls i [])) (sym e) o2)
      go (no n) q = inr (subst (On x) (get_or-set_other ls c d (get_or ls c [] ++ s ∷ []) [] n) o)

  pub spread_who : (ls : List (List ℕ)) (ss : List ℕ) (d x : ℕ) → B < length ls → On x (get_or (ruleSpread B key keep t ls ss) d [])
      → (On x ss × (distance B (key x) t ≡ d)) ⊎ On x (get_or ls d [])
  unfolding ruleSpread put
  spread_who ls [] d x k o = inr o
  spread_who ls (s ∷ ss) d x k o =
      let c : ℕ = distance B (key s) t in
      let ls' : List (List ℕ) = set ls c (get_or ls c [] ++ s ∷ []) in
      let lt : c < length ls = let q = distance_le B (key s) t in omega arith in
      go (spread_who ls' ss d x (let q = length-set ls c (get_or ls c [] ++ s ∷ []) in omega (arith, q)) o) (put_who ls c s d x lt)
    where
      go : (On x ss × (distance B (key x) t ≡ d)) ⊎ On x (get_or (set ls (distance B (key s) t) (get_or ls (distance B (key s) t) [] ++ s ∷ [])) d [])
          → (On x (get_or (set ls (distance B (key s) t) (get_or ls (distance B (key s) t) [] ++ s ∷ [])) d []) → ((x ≡ s) × (distance B (key s) t ≡ d)) ⊎ On x (get_or ls d []))
          → (On x (s ∷ ss) × (distance B (key x) t ≡ d)) ⊎ On x (get_or ls d [])
      go (inl r) p = let q = r.0 in inl (omega arith, r.1)
      go (inr r) p = elim (p r) [
        | inl q ↦ inl ((let z : hit x s ≡ 1 = ap (λ (i : ℕ). hit i s) q.0 ∙ hit_same s in omega arith), ap (λ (i : ℕ). distance B (key i) t) q.0 ∙ q.1)
        | inr q ↦ inr q
      ]

  pub greatest_ge : (ss : List ℕ) (x : ℕ) → On x ss → key x ≤ ruleGreatest key ss
  unfolding ruleGreatest
  greatest_ge [] x o = absurd (omega arith)
  greatest_ge (s ∷ ss) x o = go (hit_cases x s) (greatest_ge ss x)
    where
      go : (x ≡ s) ⊎ (hit x s ≡ 0) → (On x ss → key x ≤ ruleGreatest key ss) → key x ≤ max (key s) (ruleGreatest key ss)
      go (inl e) ih = let q : key x ≡ key s = ap key e in omega arith
      go (inr e) ih = let q = ih (omega arith) in omega arith

-- ---- the greatest key of a chain

leading_less : (key : ℕ → ℕ) (s x : ℕ) (xs : List ℕ) → ltb (key s) (key x) ≡ true → leading key s (x ∷ xs) ≡ leading key x xs
unfolding leading
leading_less key s x xs e = ap (λ (b : Bool). elim b as (λ y. ℕ) [ true ↦ leading key x xs | false ↦ leading key s xs ]) e

leading_more : (key : ℕ → ℕ) (s x : ℕ) (xs : List ℕ) → ltb (key s) (key x) ≡ false → leading key s (x ∷ xs) ≡ leading key s xs
unfolding leading
leading_more key s x xs e = ap (λ (b : Bool). elim b as (λ y. ℕ) [ true ↦ leading key x xs | false ↦ leading key s xs ]) e

pub leading_is : (key : ℕ → ℕ) (s : ℕ) (ss : List ℕ) → (key (leading key s ss) ≡ ruleGreatest key (s ∷ ss)) × On (leading key s ss) (s ∷ ss)
unfolding leading ruleGreatest
leading_is key s [] = (omega arith, let e = hit_same s in omega arith)
leading_is key s (x ∷ xs) = go (ltb (key s) (key x)) refl (leading_is key x xs) (leading_is key s xs)
  where
    three : (g s x m : ℕ) → s < x → g ≡ max x m → g ≡ max s (max x m)
    three g s x m p q = omega arith

    three' : (g s x m : ℕ) → x ≤ s → g ≡ max s m → g ≡ max s (max x m)
    three' g s x m p q = omega arith

    go : (b : Bool) → ltb (key s) (key x) ≡ b
        → (key (leading key x xs) ≡ max (key x) (ruleGreatest key xs)) × On (leading key x xs) (x ∷ xs)
        → (key (leading key s xs) ≡ max (key s) (ruleGreatest key xs)) × On (leading key s xs) (s ∷ xs)
        → (key (leading key s (x ∷ xs)) ≡ max (key s) (max (key x) (ruleGreatest key xs))) × On (leading key s (x ∷ xs)) (s ∷ x ∷ xs)
    go true e p q = subst (λ (g : ℕ). (key g ≡ max (key s) (max (key x) (ruleGreatest key xs))) × On g (s ∷ x ∷ xs)) (sym (leading_less key s x xs e))
        (three (key (leading key x xs)) (key s) (key x) (ruleGreatest key xs) (ltb-true (key s) (key x) e) p.0, let o = p.1 in omega arith)
    go false e p q = subst (λ (g : ℕ). (key g ≡ max (key s) (max (key x) (ruleGreatest key xs))) × On g (s ∷ x ∷ xs)) (sym (leading_more key s x xs e))
        (three' (key (leading key s xs)) (key s) (key x) (ruleGreatest key xs) (ltb-false (key s) (key x) e) q.0, let o = q.1 in omega arith)

greatest_step : (f : ℕ) (kind : Kind) (keys next : List ℕ) (s x : ℕ)
    → greatest_from (suc f) kind keys next (suc x) (suc s) ≡ greatest_from f kind keys next (get_or next x 0) (cond (ltb (slot_key kind keys s) (slot_key kind keys x)) (suc x) (suc s))
unfolding greatest_from
greatest_step f kind keys next s x = rw (not_none (suc x) x refl, less_one x, less_one s) refl

pub greatest_from_lem : (f : ℕ) (kind : Kind) (keys next : List ℕ) (s l : ℕ) (ss : List ℕ) → Linked next l ss → length ss ≤ f → greatest_from f kind keys next l (suc s) ≡ suc (leading (slot_key kind keys) s ss)
unfolding leading greatest_from
greatest_from_lem zero kind keys next s l [] k b = refl
greatest_from_lem zero kind keys next s l (x ∷ xs) k b = absurd (omega arith)
greatest_from_lem (suc f) kind keys next s l [] k b = rw k refl
greatest_from_lem (suc f) kind keys next s l (x ∷ xs) k b =
    rw k.0 (greatest_step f kind keys next s x
    ∙ go (ltb (slot_key kind keys s) (slot_key kind keys x)) refl (greatest_from_lem f kind keys next x (get_or next x 0) xs k.1 (omega arith)) (greatest_from_lem f kind keys next s (get_or next x 0) xs k.1 (omega arith)))
  where
    go : (t : Bool) → ltb (slot_key kind keys s) (slot_key kind keys x) ≡ t
        → greatest_from f kind keys next (get_or next x 0) (suc x) ≡ suc (leading (slot_key kind keys) x xs)
        → greatest_from f kind keys next (get_or next x 0) (suc s) ≡ suc (leading (slot_key kind keys) s xs)
        → greatest_from f kind keys next (get_or next x 0) (cond (ltb (slot_key kind keys s) (slot_key kind keys x)) (suc x) (suc s)) ≡ suc (leading (slot_key kind keys) s (x ∷ xs))
    go true e p q = ap (λ (t : Bool). greatest_from f kind keys next (get_or next x 0) (cond t (suc x) (suc s))) e ∙ p ∙ ap suc (sym (leading_less (slot_key kind keys) s x xs e))
    go false e p q = ap (λ (t : Bool). greatest_from f kind keys next (get_or next x 0) (cond t (suc x) (suc s))) e ∙ q ∙ ap suc (sym (leading_more (slot_key kind keys) s x xs e))

-- ---- the drain of one chain

-- the world after chain c is drained, its greatest key standing in slot g
unfoldable pub drained_to : World → ℕ → ℕ → World
unfolding drain_chain
drained_to w c g = record {
  head = topped_at w.head (word0 w g) (word1 w g);
  links = (drain_chain w.head.kind w.keys (key_at w g) c w.links).to;
  keys = w.keys;
  values = w.values;
}

-- the chains after the chain s ∷ ss, number c, is drained, by the rule
unfoldable pub drained_chains : World → List (List ℕ) → ℕ → List ℕ → List (List ℕ)
drained_chains w ls c ss = ruleSpread (width w.head.kind) (key_at w) keep (ruleGreatest (key_at w) ss) (set ls c []) ss

abbrev pub leader : World → ℕ → List ℕ → ℕ
leader w s ss = leading (key_at w) s ss

module _ {w : World} {ls : List (List ℕ)} (g : Good w ls) (c s : ℕ) (ss : List ℕ) (k : c < free_chain) (e : get_or ls c [] ≡ s ∷ ss)
    (far : (d : ℕ) → d < free_chain → d ≢ c → (x : ℕ) → On x (get_or ls d []) → (w.head.topped ≡ true) × (c < d)) where
  d_link : Linked w.links.next (first_of w c) (s ∷ ss)
  d_link = subst (Linked w.links.next (first_of w c)) e (g.laid.linked c (omega arith))

  d_short : length (s ∷ ss) ≤ size w
  d_short =
      let a = total_ge ls c in
      let b = laid_total g.laid in
      let f : length (get_or ls c []) ≡ suc (length ss) = ap length e in
      omega (arith, a, b, f)

  d_lead : (key_at w (leader w s ss) ≡ ruleGreatest (key_at w) (s ∷ ss)) × On (leader w s ss) (s ∷ ss)
  d_lead = leading_is (key_at w) s ss

  -- the link that the core finds
  pub drain_greatest : greatest_of w.head.kind w.keys w.links.next (first_of w c) ≡ suc (leader w s ss)
  unfolding greatest_of
  drain_greatest = rw (d_link.0, less_one s) (greatest_from_lem (size w) w.head.kind w.keys w.links.next s (get_or w.links.next s 0) ss d_link.1 (let b = d_short in omega arith))

  d_empty : Laid (emptied w.links c) (set ls c []) (s ∷ ss)
  d_empty = subst (Laid (emptied w.links c) (set ls c [])) e (touch_laid g.laid (omega arith) (empty_touch c k g.laid))

  d_run : (t : ℕ) → Laid (drain_chain w.head.kind w.keys t c w.links).to (ruleSpread (width w.head.kind) (key_at w) keep t (set ls c []) (s ∷ ss)) [] × ((drain_chain w.head.kind w.keys t c w.links).moves ≡ 0 + length (s ∷ ss))
  unfolding drain_chain emptied
  d_run t = drain_laid w.head.kind w.keys t (size w) (emptied w.links c) (set ls c []) (first_of w c) 0 (s ∷ ss) d_empty d_link d_short

  d_laid : Laid (drained_to w c (leader w s ss)).links (drained_chains w ls c (s ∷ ss)) []
  unfolding drained_chains drained_to
  d_laid = subst (λ (t : ℕ). Laid (drained_to w c (leader w s ss)).links (ruleSpread (width w.head.kind) (key_at w) keep t (set ls c []) (s ∷ ss)) []) d_lead.0 (d_run (key_at w (leader w s ss))).0

  pub drain_moves : (t : ℕ) → (drain_chain w.head.kind w.keys t c w.links).moves ≡ length (s ∷ ss)
  drain_moves t = (d_run t).1 ∙ zero-add (length (s ∷ ss))

  pub d_size : size (drained_to w c (leader w s ss)) ≡ size w
  unfolding drained_to drain_chain emptied
  d_size = drain_next w.head.kind w.keys (key_at w (leader w s ss)) (size w) (emptied w.links c) (first_of w c) 0

  d_back : length (drained_to w c (leader w s ss)).links.back ≡ length w.links.back
  unfolding drained_to drain_chain emptied
  d_back = drain_back w.head.kind w.keys (key_at w (leader w s ss)) (size w) (emptied w.links c) (first_of w c) 0

  d_fit : Fit (drained_to w c (leader w s ss))
  unfolding drained_to
  d_fit = record {
    kind_ok = g.fit.kind_ok;
    some_keys = g.fit.some_keys ∙ ap (λ (b : ℕ). words w.head.kind * b) (sym d_size);
    some_values = g.fit.some_values ∙ sym d_size;
    some_backs = d_back ∙ g.fit.some_backs ∙ sym d_size;
    small = subst (λ (n : ℕ). n ≤ limit) (sym d_size) g.fit.small;
  }

  d_who : (d : ℕ) → (x : ℕ) → On x (get_or (drained_chains w ls c (s ∷ ss)) d [])
      → (On x (s ∷ ss) × (distance (width w.head.kind) (key_at w x) (key_at w (leader w s ss)) ≡ d)) ⊎ ((d ≢ c) × On x (get_or ls d []))
  unfolding drained_chains
  d_who d x o = go (spread_who (width w.head.kind) (key_at w) (ruleGreatest (key_at w) (s ∷ ss)) (set ls c []) (s ∷ ss) d x wide o)
    where
      wide : width w.head.kind < length (set ls c [])
      wide = let a = length-set ls c [] in let b = g.laid.many in let q = width_le w.head.kind in omega (arith, a, b, q)

      go : (On x (s ∷ ss) × (distance (width w.head.kind) (key_at w x) (ruleGreatest (key_at w) (s ∷ ss)) ≡ d)) ⊎ On x (get_or (set ls c []) d [])
          → (On x (s ∷ ss) × (distance (width w.head.kind) (key_at w x) (key_at w (leader w s ss)) ≡ d)) ⊎ ((d ≢ c) × On x (get_or ls d []))
      go (inl r) = inl (r.0, ap (distance (width w.head.kind) (key_at w x)) d_lead.0 ∙ r.1)
      go (inr r) = elim (ℕ_discrete d c) [
        | yes q ↦ (let z : On x [] = subst (On x) (ap (λ (i : ℕ). get_or (set ls c []) i []) q ∙ get_or-set_same ls c [] [] (let b = g.laid.many in omega arith)) r in absurd (omega arith))
        | no q ↦ inr (q, subst (On x) (get_or-set_other ls c d [] [] q) r)
      ]

  pub d_free : get_or (drained_chains w ls c (s ∷ ss)) free_chain [] ≡ get_or ls free_chain []
  unfolding drained_chains
  d_free =
      spread_past (width w.head.kind) (key_at w) (ruleGreatest (key_at w) (s ∷ ss)) (set ls c []) (s ∷ ss) free_chain (let q = width_le w.head.kind in omega arith)
      ∙ get_or-set_other ls c free_chain [] [] (omega arith)

  -- the leader stands in the drained chain
  d_chain : (x : ℕ) → On x (s ∷ ss) → On x (get_or ls c [])
  d_chain x o = subst (On x) (sym e) o

  d_dist : (x : ℕ) → w.head.topped ≡ true → (d : ℕ) → d < free_chain → On x (get_or ls d []) → distance (width w.head.kind) (key_at w x) (top_key w) ≡ d
  d_dist x t d q o = sym (home_topped w x t) ∙ g.filed.belongs d q x o

  d_nearer : (x d : ℕ) → d < free_chain → d ≢ c → On x (get_or ls d []) → distance (width w.head.kind) (key_at w (leader w s ss)) (top_key w) < distance (width w.head.kind) (key_at w x) (top_key w)
  d_nearer x d q n o =
      let f = far d q n x o in
      let a = d_dist x f.0 d q o in
      let b = d_dist (leader w s ss) f.0 c k (d_chain (leader w s ss) d_lead.1) in
      omega (arith, f.1, a, b)

  d_belongs : (d : ℕ) → d < free_chain → (x : ℕ) → On x (get_or (drained_chains w ls c (s ∷ ss)) d []) → home (drained_to w c (leader w s ss)) x ≡ d
  unfolding drained_to place
  d_belongs d q x o = go (d_who d x o)
    where
      go : (On x (s ∷ ss) × (distance (width w.head.kind) (key_at w x) (key_at w (leader w s ss)) ≡ d)) ⊎ ((d ≢ c) × On x (get_or ls d []))
          → distance (width w.head.kind) (key_at w x) (key_at w (leader w s ss)) ≡ d
      go (inl r) = r.1
      go (inr r) =
          unmoved (width w.head.kind) (key_at w x) (key_at w (leader w s ss)) (top_key w) (d_nearer x d q r.0 r.1)
          ∙ d_dist x (far d q r.0 x r.1).0 d q r.1

  -- every key is still one of the kind
  d_kept : (x : ℕ) → On x (s ∷ ss) → proper w.head.kind (word0 w x) (word1 w x) ≡ true
  d_kept x o = under_proper w x (g.filed.below c k x (subst (On x) (sym e) o))

  d_proper : (d : ℕ) → d < free_chain → (x : ℕ) → (On x (s ∷ ss) × (distance (width w.head.kind) (key_at w x) (key_at w (leader w s ss)) ≡ d)) ⊎ ((d ≢ c) × On x (get_or ls d []))
      → proper w.head.kind (word0 w x) (word1 w x) ≡ true
  d_proper d q x (inl r) = d_kept x r.0
  d_proper d q x (inr r) = under_proper w x (g.filed.below d q x r.1)

  d_below : (d : ℕ) → d < free_chain → (x : ℕ) → On x (get_or (drained_chains w ls c (s ∷ ss)) d []) → under (drained_to w c (leader w s ss)) x ≡ true
  unfolding drained_to within
  d_below d q x o = and_both (proper w.head.kind (word0 w x) (word1 w x)) (leb (key_at w x) (key_at w (leader w s ss))) (d_proper d q x (d_who d x o)) (is_leb (key_at w x) (key_at w (leader w s ss)) (go (d_who d x o)))
    where
      go : (On x (s ∷ ss) × (distance (width w.head.kind) (key_at w x) (key_at w (leader w s ss)) ≡ d)) ⊎ ((d ≢ c) × On x (get_or ls d []))
          → key_at w x ≤ key_at w (leader w s ss)
      go (inl r) = let a = greatest_ge (width w.head.kind) (key_at w) 0 (s ∷ ss) x r.0 in let b = d_lead.0 in omega (arith, a, b)
      go (inr r) =
          let t = (far d q r.0 x r.1).0 in
          le_of_lt (nearer (width w.head.kind) {a = key_at w (leader w s ss)} {b = key_at w x} {t = top_key w}
          (under_topped w x t (g.filed.below d q x r.1)) (d_nearer x d q r.0 r.1))

  d_filed : Filed (drained_to w c (leader w s ss)) (drained_chains w ls c (s ∷ ss))
  unfolding drained_to
  d_filed = record {
    belongs = d_belongs;
    below = d_below;
    zero0 = λ x o. g.filed.zero0 x (subst (On x) d_free o);
    zero1 = λ x o. g.filed.zero1 x (subst (On x) d_free o);
    zero_value = λ x o. g.filed.zero_value x (subst (On x) d_free o);
    counted = ap (λ (b : List ℕ). w.head.len + length b) d_free ∙ g.filed.counted ∙ sym d_size;
    no_top0 = λ f. absurd (true≢false f);
    no_top1 = λ f. absurd (true≢false f);
    top_of_kind = d_kept (leader w s ss) d_lead.1;
  }

  pub drain_good : Good (drained_to w c (leader w s ss)) (drained_chains w ls c (s ∷ ss))
  drain_good = record { fit = d_fit; laid = d_laid; filed = d_filed }

pub spread_take : (B : ℕ) (key : ℕ → ℕ) (t n : ℕ) (ls : List (List ℕ)) (ss : List ℕ) → B < n → take n (ruleSpread B key keep t ls ss) ≡ ruleSpread B key keep t (take n ls) ss
unfolding ruleSpread put
spread_take B key t n ls [] h = refl
spread_take B key t n ls (s ∷ ss) h =
    let d : ℕ = distance B (key s) t in
    let lt : d < n = let q = distance_le B (key s) t in omega arith in
    spread_take B key t n (set ls d (get_or ls d [] ++ s ∷ [])) ss h
    ∙ ap (λ (x : List (List ℕ)). ruleSpread B key keep t x ss) (take-set-lt n ls d (get_or ls d [] ++ s ∷ []) lt ∙ ap (λ (x : List ℕ). set (take n ls) d (x ++ s ∷ [])) (sym (get_or-take n ls d [] lt)))
