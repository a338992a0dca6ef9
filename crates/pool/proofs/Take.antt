-- The tail of bucket 0 is taken: its slot goes to the front of the free chain.
use mathlib.Core.Path.{◌≡◌, refl, sym, ap, ap₂, ◌∙◌, subst}
use mathlib.Core.Logic.{◌≢◌, ◌⊎◌, inl, inr}
use mathlib.Core.List.{List, [], ◌∷◌, ◌++◌}
use Prim.Native.Nat.{ℕ, suc, ◌+◌, ◌-◌, ◌*◌, ◌≤◌, ◌<◌}
use native.Mathlib.Numerals.{add-one}
use native.Mathlib.Omega.{arith}
use native.Mathlib.Decide.{ℕ_discrete}
use lib.ListN.{length, get_or, set, length-set, length-append}
use lib.Seq.{get_or-set_same, get_or-set_other}
use Rattle.rule.specs.Width.{distance}
use Rattle.pool.specs.Chain.{hit, count, On}
use Rattle.pool.proofs.Chains.{hit_same, hit_cases, tally_ge, count_append, total_ge2}
use Rattle.keys.specs.Ordered.{width, words, ordered}
use Rattle.pool.specs.World.{free_chain, Links, World, resized, store_key, key_word0, key_word1, size, word0, word1, top_key, place, admits, home, under}
use Rattle.pool.specs.Sound.{limit, Fit}
use Rattle.pool.proofs.Laid.{Laid, Filed, Good, laid_most, laid_inside, laid_apart, touch_laid, laid_total}
use Rattle.pool.specs.Core.{cut, freed, Moved, tail_unhooked, released, popped, pop_tail}
use Rattle.pool.proofs.OnChains.{detach_touch, release_touch, not_hit}
use Rattle.pool.proofs.Keys.{store_length, store_word0_other, store_word1_other, store_word0_same, store_word1_same}
use lib.Dec.{eqb}

-- the links and the world after slot s, the tail of bucket 0, was given out
unfoldable pub taken_links : Links → ℕ → Links
unfolding cut freed
taken_links lk s =
    let p : ℕ = get_or lk.back s 0 in
    let t : Links = cut (eqb p 0) lk p in
    freed (eqb (get_or t.first free_chain 0) 0) t s (suc s)

unfoldable pub taken : World → ℕ → World
unfolding taken_links
taken w s = record { head = resized w.head (w.head.len - 1); links = taken_links w.links s; keys = store_key w.head.kind w.keys s 0 0; values = set w.values s 0 }

pub take_tail_lem : (m : Moved) (s : ℕ) (keys values : List ℕ) → get_or m.to.last 0 0 ≡ suc s → pop_tail m keys values ≡ popped
    (record { head = resized m.head (m.head.len - 1); links = taken_links m.to s; keys = store_key m.head.kind keys s 0 0; values = set values s 0 })
    m.moves (key_word0 m.head.kind keys s) (key_word1 m.head.kind keys s) (get_or values s 0)
unfolding pop_tail tail_unhooked released taken_links
take_tail_lem m s keys values e = rw (e, less s, add-one s) refl
  where
    less : (t : ℕ) → suc t - 1 ≡ t
    less t = omega arith

-- the chains after slot s, the last of bucket 0, l ++ s ∷ [], went to the front of the free chain
unfoldable pub taken_chains : List (List ℕ) → List ℕ → ℕ → List (List ℕ)
taken_chains ls l s = set (set ls 0 l) free_chain (s ∷ get_or ls free_chain [])

module _ {w : World} {ls : List (List ℕ)} (g : Good w ls) (s : ℕ) (l : List ℕ) (e : get_or ls 0 [] ≡ l ++ s ∷ []) where
  t_laid1 : Laid (cut (eqb (get_or w.links.back s 0) 0) w.links (get_or w.links.back s 0)) (set ls 0 l) (s ∷ [])
  t_laid1 = touch_laid g.laid (omega arith) (detach_touch l g.laid e)

  pub t_laid : Laid (taken w s).links (taken_chains ls l s) []
  unfolding taken taken_chains
  t_laid = subst (λ (f : List ℕ). Laid (taken w s).links (set (set ls 0 l) free_chain (s ∷ f)) []) (get_or-set_other ls 0 free_chain l [] (omega arith))
      (touch_laid t_laid1 (omega arith) (release_touch t_laid1))

  t_cnt : (x : ℕ) → count x (get_or ls 0 []) ≡ count x l + hit x s
  t_cnt x = let a : count x (get_or ls 0 []) ≡ count x (l ++ s ∷ []) = ap (count x) e in let b = count_append x l (s ∷ []) in omega arith

  pub t_size : size (taken w s) ≡ size w
  unfolding taken
  t_size = (release_touch t_laid1).sized ∙ (detach_touch l g.laid e).sized

  t_back : length (taken w s).links.back ≡ length w.links.back
  unfolding taken
  t_back = (release_touch t_laid1).back_sized ∙ (detach_touch l g.laid e).back_sized

  t_inside : s < size w
  t_inside = laid_inside g.laid s (let a = tally_ge s ls 0 in let b = t_cnt s in let c = hit_same s in omega arith)

  t_fit : Fit (taken w s)
  unfolding taken
  t_fit = record {
    kind_ok = g.fit.kind_ok;
    some_keys = store_length w.head.kind w.keys s 0 0 ∙ g.fit.some_keys ∙ ap (λ (n : ℕ). words w.head.kind * n) (sym t_size);
    some_values = length-set w.values s 0 ∙ g.fit.some_values ∙ sym t_size;
    some_backs = t_back ∙ g.fit.some_backs ∙ sym t_size;
    small = subst (λ (n : ℕ). n ≤ limit) (sym t_size) g.fit.small;
  }

  -- the other slots keep what they hold
  pub take_word0 : (x : ℕ) → x ≢ s → word0 (taken w s) x ≡ word0 w x
  unfolding taken
  take_word0 x n = store_word0_other w.head.kind w.keys s 0 0 x n

  pub take_word1 : (x : ℕ) → x ≢ s → word1 (taken w s) x ≡ word1 w x
  unfolding taken
  take_word1 x n = store_word1_other w.head.kind w.keys s 0 0 x n

  pub take_value : (x : ℕ) → x ≢ s → get_or (taken w s).values x 0 ≡ get_or w.values x 0
  unfolding taken
  take_value x n = get_or-set_other w.values s x 0 0 n

  t_zero0 : word0 (taken w s) s ≡ 0
  unfolding taken
  t_zero0 = store_word0_same w.head.kind w.keys s 0 0 (size w) g.fit.some_keys t_inside

  t_zero1 : word1 (taken w s) s ≡ 0
  unfolding taken
  t_zero1 = store_word1_same w.head.kind w.keys s 0 0 (size w) g.fit.some_keys t_inside (λ n. refl)

  t_zero_value : get_or (taken w s).values s 0 ≡ 0
  unfolding taken
  t_zero_value = get_or-set_same w.values s 0 0 (let k = t_inside in let q = g.fit.some_values in omega arith)

  t_home : (x : ℕ) → x ≢ s → home (taken w s) x ≡ home w x
  unfolding taken
  t_home x n = ap₂ (λ (p q : ℕ). place w.head.topped (distance (width w.head.kind) (ordered w.head.kind p q) (top_key w))) (take_word0 x n) (take_word1 x n)

  t_under : (x : ℕ) → x ≢ s → under (taken w s) x ≡ under w x
  unfolding taken
  t_under x n = ap₂ (λ (p q : ℕ). admits w.head p q) (take_word0 x n) (take_word1 x n)

  t_who : (d : ℕ) → d < free_chain → (x : ℕ) → On x (get_or (taken_chains ls l s) d []) → (x ≢ s) × On x (get_or ls d [])
  unfolding taken_chains
  t_who d k x o = go (ℕ_discrete d 0)
    where
      o1 : On x (get_or (set ls 0 l) d [])
      o1 = subst (On x) (get_or-set_other (set ls 0 l) free_chain d (s ∷ get_or ls free_chain []) [] (omega arith)) o

      go : Dec (d ≡ 0) → (x ≢ s) × On x (get_or ls d [])
      go (yes q) =
          let o2 : On x l = subst (On x) (ap (λ (i : ℕ). get_or (set ls 0 l) i []) q ∙ get_or-set_same ls 0 l [] (let m = g.laid.many in omega arith)) o1 in
          let a = t_cnt x in
          let b = tally_ge x ls 0 in
          let c = laid_most g.laid x in
          let z : On x (get_or ls 0 []) = omega arith in
          (not_hit x s (omega arith), subst (λ (i : ℕ). On x (get_or ls i [])) (sym q) z)
      go (no n) =
          let o2 : On x (get_or ls d []) = subst (On x) (get_or-set_other ls 0 d l [] n) o1 in
          let r = laid_apart g.laid 0 d x n o2 in
          let a = t_cnt x in
          (not_hit x s (omega (arith, r.0)), o2)

  pub t_free : get_or (taken_chains ls l s) free_chain [] ≡ s ∷ get_or ls free_chain []
  unfolding taken_chains
  t_free = get_or-set_same (set ls 0 l) free_chain (s ∷ get_or ls free_chain []) [] (let m = g.laid.many in let n = length-set ls 0 l in omega arith)

  t_who_free : (x : ℕ) → On x (get_or (taken_chains ls l s) free_chain []) → (x ≡ s) ⊎ ((x ≢ s) × On x (get_or ls free_chain []))
  t_who_free x o =
      let o1 : On x (s ∷ get_or ls free_chain []) = subst (On x) t_free o in
      elim (hit_cases x s) [ inl q ↦ inl q | inr q ↦ inr (not_hit x s q, omega arith) ]

  pub t_some : 1 ≤ w.head.len
  t_some =
      let a = total_ge2 ls 0 free_chain (omega arith) in
      let b = laid_total g.laid in
      let c : length (get_or ls 0 []) ≡ length (l ++ s ∷ []) = ap length e in
      let d = length-append l (s ∷ []) in
      let f = g.filed.counted in
      omega (arith, a, b, c, d, f)

  t_counted : (taken w s).head.len + length (get_or (taken_chains ls l s) free_chain []) ≡ size (taken w s)
  unfolding taken
  t_counted =
      let p : length (get_or (taken_chains ls l s) free_chain []) ≡ suc (length (get_or ls free_chain [])) = ap length t_free in
      count_down w.head.len (length (get_or (taken_chains ls l s) free_chain [])) (length (get_or ls free_chain [])) (size w) t_some p g.filed.counted ∙ sym t_size
    where
      count_down : (n x y m : ℕ) → 1 ≤ n → x ≡ suc y → n + y ≡ m → (n - 1) + x ≡ m
      count_down n x y m k p q = omega arith

  t_filed : Filed (taken w s) (taken_chains ls l s)
  unfolding taken
  t_filed = record {
    belongs = λ d k x o. let r = t_who d k x o in t_home x r.0 ∙ g.filed.belongs d k x r.1;
    below = λ d k x o. let r = t_who d k x o in t_under x r.0 ∙ g.filed.below d k x r.1;
    zero0 = λ x o. elim (t_who_free x o) [ inl q ↦ ap (word0 (taken w s)) q ∙ t_zero0 | inr r ↦ take_word0 x r.0 ∙ g.filed.zero0 x r.1 ];
    zero1 = λ x o. elim (t_who_free x o) [ inl q ↦ ap (word1 (taken w s)) q ∙ t_zero1 | inr r ↦ take_word1 x r.0 ∙ g.filed.zero1 x r.1 ];
    zero_value = λ x o. elim (t_who_free x o) [ inl q ↦ ap (λ (i : ℕ). get_or (taken w s).values i 0) q ∙ t_zero_value | inr r ↦ take_value x r.0 ∙ g.filed.zero_value x r.1 ];
    counted = t_counted;
    no_top0 = g.filed.no_top0;
    no_top1 = g.filed.no_top1;
    top_of_kind = g.filed.top_of_kind;
  }

  pub take_good : Good (taken w s) (taken_chains ls l s)
  take_good = record { fit = t_fit; laid = t_laid; filed = t_filed }
