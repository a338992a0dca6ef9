-- A sound pool's links are those that its chains are laid out as.
use mathlib.Core.Path.{◌≡◌, refl, sym, ap, ◌∙◌, subst, ap₂}
use mathlib.Core.Logic.{inl, inr}
use mathlib.Core.Bool.{Bool, cond}
use mathlib.Core.List.{List, [], ◌∷◌, ◌++◌, map}
use Prim.Native.Nat.{ℕ, zero, suc, ◌+◌, ◌≤◌, ◌<◌}
use native.Mathlib.Nat.{zero-add}
use native.Mathlib.Omega.{arith}
use native.Mathlib.Decide.{ℕ_discrete, dec_le}
use lib.Dec.{eqb}
use borrow.Author.Tests.{eq-eqb, ne_eqb}
use lib.ListN.{length, get_or, take, length-map, get_or-map}
use lib.Seq.{ext_get_or, get_or-take, length-take-le}
use Rattle.rule.specs.Rule.{Heap}
use Rattle.pool.specs.Chain.{hit, count, tally, tab, Linked, Backed, last_from, On}
use Rattle.pool.specs.World.{waiting_chain, free_chain, chain_count, Links, World, size, chains}
use Rattle.pool.specs.Sound.{Whole}
use Rattle.pool.specs.Marks.{summary}
use Rattle.pool.specs.Lay.{heap_in, with_free, first_in, after, before, next_in, back_in, lay}
use Rattle.pool.proofs.Chains.{hit_same, hit_cases, length_tab, get_d_tab}
use Rattle.pool.proofs.Laid.{Laid, sound_laid}

-- ---- one slot on one chain

after_off : (s : ℕ) (l : List ℕ) → count s l ≡ 0 → after s l ≡ 0
unfolding after
after_off s [] z = refl
after_off s (x ∷ xs) z = rw (ne_eqb s x (λ e. let h : hit s x ≡ 1 = ap (λ (y : ℕ). hit y x) e ∙ hit_same x in absurd (omega arith))) (after_off s xs (omega arith))

first_linked : (next : List ℕ) (l : ℕ) (ss : List ℕ) → Linked next l ss → first_in ss ≡ l
unfolding first_in
first_linked next l [] h = sym h
first_linked next l (s ∷ ss) h = sym h.0

after_on : (next : List ℕ) (l s : ℕ) (ss : List ℕ) → Linked next l ss → On s ss → after s ss ≡ get_or next s 0
unfolding after
after_on next l s [] h o = absurd (omega arith)
after_on next l s (x ∷ xs) h o = go (ℕ_discrete s x) (after_on next (get_or next x 0) s xs h.1)
  where
    go : Dec (s ≡ x) → (On s xs → after s xs ≡ get_or next s 0) → cond (eqb s x) (first_in xs) (after s xs) ≡ get_or next s 0
    go (yes e) ih = rw (eq-eqb s x e) (first_linked next (get_or next x 0) xs h.1 ∙ ap (λ (y : ℕ). get_or next y 0) (sym e))
    go (no n) ih = rw (ne_eqb s x n) (ih (elim (hit_cases s x) [ inl e ↦ absurd (n e) | inr z ↦ omega arith ]))

before_off : (p s : ℕ) (l : List ℕ) → count s l ≡ 0 → before p s l ≡ 0
unfolding before
before_off p s [] z = refl
before_off p s (x ∷ xs) z = rw (ne_eqb s x (λ e. let h : hit s x ≡ 1 = ap (λ (y : ℕ). hit y x) e ∙ hit_same x in absurd (omega arith))) (before_off (suc x) s xs (omega arith))

before_on : (back : List ℕ) (p s : ℕ) (ss : List ℕ) → Backed back p ss → On s ss → before p s ss ≡ get_or back s 0
unfolding before
before_on back p s [] h o = absurd (omega arith)
before_on back p s (x ∷ xs) h o = go (ℕ_discrete s x) (before_on back (suc x) s xs h.1)
  where
    go : Dec (s ≡ x) → (On s xs → before (suc x) s xs ≡ get_or back s 0) → cond (eqb s x) p (before (suc x) s xs) ≡ get_or back s 0
    go (yes e) ih = rw (eq-eqb s x e) (sym h.0 ∙ ap (λ (y : ℕ). get_or back y 0) (sym e))
    go (no n) ih = rw (ne_eqb s x n) (ih (elim (hit_cases s x) [ inl e ↦ absurd (n e) | inr z ↦ omega arith ]))

-- ---- one slot among all chains

next_off : (s : ℕ) (ls : List (List ℕ)) → tally s ls ≡ 0 → next_in s ls ≡ 0
unfolding next_in
next_off s [] z = refl
next_off s (l ∷ ls) z = let a = after_off s l (omega arith) in let b = next_off s ls (omega arith) in omega (arith, a, b)

next_on : (next : List ℕ) (f : ℕ → ℕ) (s : ℕ) (ls : List (List ℕ)) → ((c : ℕ) → c < length ls → Linked next (f c) (get_or ls c [])) → tally s ls ≡ 1 → next_in s ls ≡ get_or next s 0
unfolding next_in
next_on next f s [] h t = absurd (omega arith)
next_on next f s (l ∷ ls) h t = go (dec_le 1 (count s l)) (next_on next (λ c. f (suc c)) s ls (λ c k. h (suc c) (omega arith)))
  where
    go : Dec (1 ≤ count s l) → (tally s ls ≡ 1 → next_in s ls ≡ get_or next s 0) → after s l + next_in s ls ≡ get_or next s 0
    go (yes o) ih = let a = after_on next (f 0) s l (h 0 (omega arith)) o in let b = next_off s ls (omega arith) in omega (arith, a, b)
    go (no o) ih = let a = after_off s l (omega arith) in let b = ih (omega arith) in omega (arith, a, b)

back_off : (s : ℕ) (ls : List (List ℕ)) → tally s ls ≡ 0 → back_in s ls ≡ 0
unfolding back_in
back_off s [] z = refl
back_off s (l ∷ ls) z = let a = before_off 0 s l (omega arith) in let b = back_off s ls (omega arith) in omega (arith, a, b)

back_on : (back : List ℕ) (s : ℕ) (ls : List (List ℕ)) → ((c : ℕ) → c < length ls → Backed back 0 (get_or ls c [])) → tally s ls ≡ 1 → back_in s ls ≡ get_or back s 0
unfolding back_in
back_on back s [] h t = absurd (omega arith)
back_on back s (l ∷ ls) h t = go (dec_le 1 (count s l)) (back_on back s ls (λ c k. h (suc c) (omega arith)))
  where
    go : Dec (1 ≤ count s l) → (tally s ls ≡ 1 → back_in s ls ≡ get_or back s 0) → before 0 s l + back_in s ls ≡ get_or back s 0
    go (yes o) ih = let a = before_on back 0 s l (h 0 (omega arith)) o in let b = back_off s ls (omega arith) in omega (arith, a, b)
    go (no o) ih = let a = before_off 0 s l (omega arith) in let b = ih (omega arith) in omega (arith, a, b)

-- all but the last of k + 1 chains
tally_take : (s k : ℕ) (ls : List (List ℕ)) → length ls ≡ suc k → tally s (take k ls) + count s (get_or ls k []) ≡ tally s ls
tally_take s k [] e = absurd (omega arith)
tally_take s zero (l ∷ []) e = omega arith
tally_take s zero (l ∷ m ∷ ls) e = absurd (omega arith)
tally_take s (suc k) (l ∷ ls) e = let ih = tally_take s k ls (omega arith) in omega arith

-- ---- the law

module _ {lk : Links} {ls : List (List ℕ)} (h : Laid lk ls []) where
  once : (s : ℕ) → s < length lk.next → tally s ls ≡ 1
  once s k = let a = h.once s k in omega arith

  lay_first : map first_in ls ≡ lk.first
  unfolding first_in
  lay_first = ext_get_or 0 (map first_in ls) lk.first (length-map ls first_in ∙ h.many ∙ sym h.typed.firsts)
      (λ c k. let b : c < chain_count = subst (λ (n : ℕ). c < n) (length-map ls first_in ∙ h.many) k in
      get_or-map first_in ls c [] ∙ first_linked lk.next (get_or lk.first c 0) (get_or ls c []) (h.linked c b))

  lay_last : map (last_from 0) ls ≡ lk.last
  lay_last = ext_get_or 0 (map (last_from 0) ls) lk.last (length-map ls (last_from 0) ∙ h.many ∙ sym h.typed.lasts)
      (λ c k. let b : c < chain_count = subst (λ (n : ℕ). c < n) (length-map ls (last_from 0) ∙ h.many) k in
      get_or-map (last_from 0) ls c [] ∙ sym (h.ends c b))

  lay_next : tab (λ s. next_in s ls) 0 (length lk.next) ≡ lk.next
  lay_next = ext_get_or 0 (tab (λ s. next_in s ls) 0 (length lk.next)) lk.next (length_tab (λ s. next_in s ls) 0 (length lk.next))
      (λ s k. let b : s < length lk.next = subst (λ (n : ℕ). s < n) (length_tab (λ x. next_in x ls) 0 (length lk.next)) k in
      get_d_tab (λ x. next_in x ls) 0 (length lk.next) s 0 b ∙ ap (λ (x : ℕ). next_in x ls) (zero-add s)
      ∙ next_on lk.next (λ c. get_or lk.first c 0) s ls (λ c q. h.linked c (subst (λ (n : ℕ). c < n) h.many q)) (once s b))

  back_at : (s : ℕ) → s < length lk.next → back_in s (take free_chain ls) ≡ get_or lk.back s 0
  back_at s k = go (dec_le 1 (count s (get_or ls free_chain [])))
    where
      all : tally s (take free_chain ls) + count s (get_or ls free_chain []) ≡ tally s ls
      all = tally_take s free_chain ls h.many

      go : Dec (1 ≤ count s (get_or ls free_chain [])) → back_in s (take free_chain ls) ≡ get_or lk.back s 0
      go (yes o) = let a = all in let b = once s k in back_off s (take free_chain ls) (omega (arith, a, b)) ∙ sym (h.freed s o)
      go (no o) =
          let a = all in
          let b = once s k in
          let l : length (take free_chain ls) ≡ free_chain = length-take-le free_chain ls (let m = h.many in omega arith) in
          back_on lk.back s (take free_chain ls) (λ c q. let r : c < free_chain = subst (λ (n : ℕ). c < n) l q in subst (Backed lk.back 0) (sym (get_or-take free_chain ls c [] r)) (h.backed c r)) (omega (arith, a, b))

  lay_back : tab (λ s. back_in s (take free_chain ls)) 0 (length lk.next) ≡ lk.back
  lay_back = ext_get_or 0 (tab (λ s. back_in s (take free_chain ls)) 0 (length lk.next)) lk.back (length_tab (λ s. back_in s (take free_chain ls)) 0 (length lk.next) ∙ sym h.sized)
      (λ s k. let b : s < length lk.next = subst (λ (n : ℕ). s < n) (length_tab (λ x. back_in x (take free_chain ls)) 0 (length lk.next)) k in
      get_d_tab (λ x. back_in x (take free_chain ls)) 0 (length lk.next) s 0 b ∙ ap (λ (x : ℕ). back_in x (take free_chain ls)) (zero-add s) ∙ back_at s b)

  -- links laid out as given chains are the layout of these chains
  pub lay_laid : lay ls (length lk.next) ≡ lk
  unfolding lay
  lay_laid = λ i. record { first = lay_first i; last = lay_last i; next = lay_next i; back = lay_back i; busy = (ap summary lay_first ∙ sym h.marks) i }

-- the links of a fit and sound world are the layout of its chains
pub lay_chains : {w : World} → Whole w → lay (chains w) (size w) ≡ w.links
lay_chains {w} h = lay_laid (sound_laid w h.fit h.typed h.sound)

-- No second layout: sound worlds with as many slots and the same chains have the same links. So head, keys, values and the 131
-- chains determine a world.
pub laid_out_once : {w v : World} → Whole w → Whole v → size w ≡ size v → chains w ≡ chains v → w.links ≡ v.links
laid_out_once h k e f = sym (lay_chains h) ∙ ap₂ lay f e ∙ lay_chains k

-- ---- the chains of a heap

take_two : (k : ℕ) (ls : List (List ℕ)) → length ls ≡ suc (suc k) → take k ls ++ get_or ls k [] ∷ get_or ls (suc k) [] ∷ [] ≡ ls
take_two k [] e = absurd (omega arith)
take_two zero (a ∷ []) e = absurd (omega arith)
take_two zero (a ∷ b ∷ []) e = refl
take_two zero (a ∷ b ∷ c ∷ ls) e = absurd (omega arith)
take_two (suc k) (a ∷ ls) e = ap (λ (x : List (List ℕ)). a ∷ x) (take_two k ls (omega arith))

-- reading 131 chains as a heap and its free slots loses nothing
pub with_free_lem : (t : Bool) (top : ℕ) (ls : List (List ℕ)) → length ls ≡ chain_count → with_free (heap_in t top ls) (get_or ls free_chain []) ≡ ls
unfolding with_free heap_in
with_free_lem t top ls e = take_two waiting_chain ls e

-- links that are laid out as the chains of the heap h with these free slots
pub lay_heap : {lk : Links} {ls : List (List ℕ)} → Laid lk ls [] → (t : Bool) (top n : ℕ) (h : Heap ℕ) (free : List ℕ)
    → heap_in t top ls ≡ h → get_or ls free_chain [] ≡ free → length lk.next ≡ n → lay (with_free h free) n ≡ lk
lay_heap {lk} {ls} l t top n h free eh ef en =
    (λ i. lay (with_free (sym eh i) (sym ef i)) (sym en i)) ∙ ap (λ (x : List (List ℕ)). lay x (length lk.next)) (with_free_lem t top ls l.many) ∙ lay_laid l
