-- A push: the first free slot goes to the tail of its chain.
use mathlib.Core.Path.{◌≡◌, sym, ap, ap₂, ◌∙◌, subst}
use mathlib.Core.Logic.{◌≢◌, ◌⊎◌, inl, inr}
use mathlib.Core.Bool.{Bool, true, false}
use mathlib.Core.List.{List, [], ◌∷◌, ◌++◌}
use Prim.Native.Nat.{ℕ, suc, ◌+◌, ◌*◌, ◌≤◌, ◌<◌}
use native.Mathlib.Omega.{arith}
use native.Mathlib.Decide.{ℕ_discrete}
use lib.ListN.{length, get_or, set, length-set}
use lib.Seq.{get_or-set_same, get_or-set_other}
use Rattle.rule.specs.Width.{distance}
use Rattle.rule.proofs.Width.{distance_le}
use Rattle.keys.specs.declared.kind.Kind.{Kind}
use Rattle.keys.specs.Ordered.{proper}
use Rattle.keys.proofs.Ordered.{width_le, proper_second}
use Rattle.pool.specs.Chain.{hit, count, On}
use Rattle.pool.proofs.Chains.{hit_same, hit_cases, tally_ge, count_append}
use Rattle.keys.specs.Ordered.{width, words, ordered}
use Rattle.pool.specs.declared.state.Head.{Head}
use Rattle.pool.specs.World.{free_chain, World, top_of, size, word0, word1, top_key, place, within, admits, home, under}
use Rattle.pool.specs.Sound.{limit, Fit}
use Rattle.pool.proofs.Exam.{and_both}
use Rattle.pool.proofs.Laid.{Laid, Filed, Good, laid_most, laid_inside, laid_apart, touch_laid}
use Rattle.pool.specs.Core.{unhooked, place_in, entered}
use Rattle.pool.proofs.OnChains.{append_touch, unhook_touch, not_hit}
use Rattle.pool.proofs.Keys.{store_length, store_word0_other, store_word1_other, store_word0_same, store_word1_same}

pub place_lt : (t : Bool) (kind : Kind) (a b : ℕ) → place t (distance (width kind) a b) < free_chain
unfolding place
place_lt true kind a b = let h = distance_le (width kind) a b in let k = width_le kind in omega arith
place_lt false kind a b = omega arith

pub place_in_lt : (h : Head) (a b : ℕ) → place_in h a b < free_chain
unfolding place_in
place_in_lt h a b = place_lt h.topped h.kind (ordered h.kind a b) (top_of h)

-- the chains after slot s, the first of the free chain s ∷ fs, went to the tail of chain c
unfoldable pub pushed_chains : List (List ℕ) → List ℕ → ℕ → ℕ → List (List ℕ)
pushed_chains ls fs c s = set (set ls free_chain fs) c (get_or ls c [] ++ s ∷ [])

module _ {w : World} {ls : List (List ℕ)} (g : Good w ls) {s : ℕ} (fs : List ℕ) (e : get_or ls free_chain [] ≡ s ∷ fs)
    (a b v : ℕ) (one : proper w.head.kind a b ≡ true) (fits : within w.head.topped (ordered w.head.kind a b) (top_key w) ≡ true) where
  e_lt : place_in w.head a b < free_chain
  e_lt = place_in_lt w.head a b

  e_other : (d : ℕ) → d < free_chain → get_or (set ls free_chain fs) d [] ≡ get_or ls d []
  e_other d k = get_or-set_other ls free_chain d fs [] (omega arith)

  e_laid1 : Laid (unhooked w.links s) (set ls free_chain fs) (s ∷ [])
  e_laid1 = touch_laid g.laid (omega arith) (unhook_touch fs g.laid e)

  pub e_laid : Laid (entered w s a b v).links (pushed_chains ls fs (place_in w.head a b) s) []
  unfolding entered pushed_chains
  e_laid = subst (λ (l : List ℕ). Laid (entered w s a b v).links (set (set ls free_chain fs) (place_in w.head a b) (l ++ s ∷ [])) []) (e_other (place_in w.head a b) e_lt)
      (touch_laid e_laid1 (let k = e_lt in omega arith) (append_touch (place_in w.head a b) e_lt e_laid1))

  pub e_size : size (entered w s a b v) ≡ size w
  unfolding entered
  e_size = (append_touch (place_in w.head a b) e_lt e_laid1).sized ∙ (unhook_touch fs g.laid e).sized

  e_back : length (entered w s a b v).links.back ≡ length w.links.back
  unfolding entered
  e_back = (append_touch (place_in w.head a b) e_lt e_laid1).back_sized ∙ (unhook_touch fs g.laid e).back_sized

  e_inside : s < size w
  e_inside = laid_inside g.laid s (let x = tally_ge s ls free_chain in let y : count s (get_or ls free_chain []) ≡ hit s s + count s fs = ap (count s) e in let z = hit_same s in omega arith)

  e_fit : Fit (entered w s a b v)
  unfolding entered
  e_fit = record {
    kind_ok = g.fit.kind_ok;
    some_keys = store_length w.head.kind w.keys s a b ∙ g.fit.some_keys ∙ ap (λ (n : ℕ). words w.head.kind * n) (sym e_size);
    some_values = length-set w.values s v ∙ g.fit.some_values ∙ sym e_size;
    some_backs = e_back ∙ g.fit.some_backs ∙ sym e_size;
    small = subst (λ (n : ℕ). n ≤ limit) (sym e_size) g.fit.small;
  }

  pub e_word0 : (x : ℕ) → x ≢ s → word0 (entered w s a b v) x ≡ word0 w x
  unfolding entered
  e_word0 x n = store_word0_other w.head.kind w.keys s a b x n

  pub e_word1 : (x : ℕ) → x ≢ s → word1 (entered w s a b v) x ≡ word1 w x
  unfolding entered
  e_word1 x n = store_word1_other w.head.kind w.keys s a b x n

  pub e_value : (x : ℕ) → x ≢ s → get_or (entered w s a b v).values x 0 ≡ get_or w.values x 0
  unfolding entered
  e_value x n = get_or-set_other w.values s x v 0 n

  -- what is read from the slot afterwards
  pub enter_word0 : word0 (entered w s a b v) s ≡ a
  unfolding entered
  enter_word0 = store_word0_same w.head.kind w.keys s a b (size w) g.fit.some_keys e_inside

  pub enter_word1 : word1 (entered w s a b v) s ≡ b
  unfolding entered
  enter_word1 = store_word1_same w.head.kind w.keys s a b (size w) g.fit.some_keys e_inside (proper_second w.head.kind a b one)

  e_home : (x : ℕ) → x ≢ s → home (entered w s a b v) x ≡ home w x
  unfolding entered
  e_home x n = ap₂ (λ (p q : ℕ). place w.head.topped (distance (width w.head.kind) (ordered w.head.kind p q) (top_key w))) (e_word0 x n) (e_word1 x n)

  e_under : (x : ℕ) → x ≢ s → under (entered w s a b v) x ≡ under w x
  unfolding entered
  e_under x n = ap₂ (λ (p q : ℕ). admits w.head p q) (e_word0 x n) (e_word1 x n)

  e_home_new : home (entered w s a b v) s ≡ place_in w.head a b
  unfolding entered place_in
  e_home_new = ap₂ (λ (p q : ℕ). place w.head.topped (distance (width w.head.kind) (ordered w.head.kind p q) (top_key w))) enter_word0 enter_word1

  e_under_new : under (entered w s a b v) s ≡ true
  unfolding entered
  e_under_new = ap₂ (λ (p q : ℕ). admits w.head p q) enter_word0 enter_word1 ∙ and_both (proper w.head.kind a b) (within w.head.topped (ordered w.head.kind a b) (top_key w)) one fits

  -- who stands on a chain that is not free
  e_who : (d : ℕ) → d < free_chain → (x : ℕ) → On x (get_or (pushed_chains ls fs (place_in w.head a b) s) d []) → ((x ≡ s) × (d ≡ place_in w.head a b)) ⊎ ((x ≢ s) × On x (get_or ls d []))
  unfolding pushed_chains
  e_who d k x o = go (ℕ_discrete d (place_in w.head a b)) (hit_cases x s)
    where
      long : place_in w.head a b < length (set ls free_chain fs)
      long = let p = length-set ls free_chain fs in let q = g.laid.many in let r = e_lt in omega arith

      new : d ≡ place_in w.head a b → On x (get_or ls (place_in w.head a b) [] ++ s ∷ [])
      new q = subst (On x) (ap (λ (i : ℕ). get_or (set (set ls free_chain fs) (place_in w.head a b) (get_or ls (place_in w.head a b) [] ++ s ∷ [])) i []) q ∙ get_or-set_same (set ls free_chain fs) (place_in w.head a b) (get_or ls (place_in w.head a b) [] ++ s ∷ []) [] long) o

      old : d ≢ place_in w.head a b → On x (get_or ls d [])
      old n = subst (On x) (get_or-set_other (set ls free_chain fs) (place_in w.head a b) d (get_or ls (place_in w.head a b) [] ++ s ∷ []) [] n ∙ e_other d k) o

      apart : On x (get_or ls d []) → x ≢ s
      apart p q =
          let r = laid_apart g.laid free_chain d x (omega arith) p in
          let y : count x (get_or ls free_chain []) ≡ hit x s + count x fs = ap (count x) e in
          let z : hit x s ≡ 1 = ap (λ (i : ℕ). hit i s) q ∙ hit_same s in
          omega (arith, r.0)

      go : Dec (d ≡ place_in w.head a b) → (x ≡ s) ⊎ (hit x s ≡ 0) → ((x ≡ s) × (d ≡ place_in w.head a b)) ⊎ ((x ≢ s) × On x (get_or ls d []))
      go (yes q) (inl p) = inl (p, q)
      go (yes q) (inr p) =
          let c = count_append x (get_or ls (place_in w.head a b) []) (s ∷ []) in
          let n = new q in
          let m : On x (get_or ls (place_in w.head a b) []) = omega arith in
          inr (not_hit x s p, subst (λ (i : ℕ). On x (get_or ls i [])) (sym q) m)
      go (no n) h = inr (apart (old n), old n)

  e_free : (x : ℕ) → On x (get_or (pushed_chains ls fs (place_in w.head a b) s) free_chain []) → (x ≢ s) × On x (get_or ls free_chain [])
  unfolding pushed_chains
  e_free x o =
      let n : free_chain ≢ place_in w.head a b = let k = e_lt in omega arith in
      let p : On x fs = subst (On x) (get_or-set_other (set ls free_chain fs) (place_in w.head a b) free_chain (get_or ls (place_in w.head a b) [] ++ s ∷ []) [] n ∙ get_or-set_same ls free_chain fs [] (let q = g.laid.many in omega arith)) o in
      let y : count x (get_or ls free_chain []) ≡ hit x s + count x fs = ap (count x) e in
      let t = tally_ge x ls free_chain in
      let m = laid_most g.laid x in
      (not_hit x s (omega arith), omega arith)

  pub e_free_length : get_or (pushed_chains ls fs (place_in w.head a b) s) free_chain [] ≡ fs
  unfolding pushed_chains
  e_free_length =
      get_or-set_other (set ls free_chain fs) (place_in w.head a b) free_chain (get_or ls (place_in w.head a b) [] ++ s ∷ []) [] (let k = e_lt in omega arith)
      ∙ get_or-set_same ls free_chain fs [] (let q = g.laid.many in omega arith)

  e_counted : (entered w s a b v).head.len + length (get_or (pushed_chains ls fs (place_in w.head a b) s) free_chain []) ≡ size (entered w s a b v)
  unfolding entered
  e_counted =
      let p : length (get_or (pushed_chains ls fs (place_in w.head a b) s) free_chain []) ≡ length fs = ap length e_free_length in
      let q = e_size in
      let r : length (get_or ls free_chain []) ≡ suc (length fs) = ap length e in
      let t = g.filed.counted in
      count_up w.head.len (length (get_or (pushed_chains ls fs (place_in w.head a b) s) free_chain [])) (length fs) (length (get_or ls free_chain [])) (size w) p r t ∙ sym q
    where
      count_up : (n x y z m : ℕ) → x ≡ y → z ≡ suc y → n + z ≡ m → (n + 1) + x ≡ m
      count_up n x y z m p q r = omega arith

  e_filed : Filed (entered w s a b v) (pushed_chains ls fs (place_in w.head a b) s)
  unfolding entered
  e_filed = record {
    belongs = λ d k x o. elim (e_who d k x o) [
      | inl r ↦ ap (home (entered w s a b v)) r.0 ∙ e_home_new ∙ sym r.1
      | inr r ↦ e_home x r.0 ∙ g.filed.belongs d k x r.1
    ];
    below = λ d k x o. elim (e_who d k x o) [
      | inl r ↦ ap (under (entered w s a b v)) r.0 ∙ e_under_new
      | inr r ↦ e_under x r.0 ∙ g.filed.below d k x r.1
    ];
    zero0 = λ x o. let r = e_free x o in e_word0 x r.0 ∙ g.filed.zero0 x r.1;
    zero1 = λ x o. let r = e_free x o in e_word1 x r.0 ∙ g.filed.zero1 x r.1;
    zero_value = λ x o. let r = e_free x o in e_value x r.0 ∙ g.filed.zero_value x r.1;
    counted = e_counted;
    no_top0 = g.filed.no_top0;
    no_top1 = g.filed.no_top1;
    top_of_kind = g.filed.top_of_kind;
  }

  pub enter_good : Good (entered w s a b v) (pushed_chains ls fs (place_in w.head a b) s)
  enter_good = record { fit = e_fit; laid = e_laid; filed = e_filed }
