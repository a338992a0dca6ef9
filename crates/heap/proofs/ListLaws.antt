-- The core lists the entries in document 01's order.
use mathlib.Core.Path.{◌≡◌, refl, sym, ap, ap₂, ◌∙◌, subst}
use mathlib.Core.Bool.{Bool, true, false, cond, ◌&&◌, true≢false}
use mathlib.Core.List.{List, [], ◌∷◌, ◌++◌, map}
use Prim.Native.Nat.{ℕ, zero, suc, ◌+◌, ◌-◌, ◌*◌, ◌≤◌, ◌<◌}
use native.Mathlib.Nat.{zero-add, add-zero}
use native.Mathlib.Numerals.{add-one}
use native.Mathlib.Omega.{arith}
use borrow.Author.Tests.{leb-true}
use lib.Dec.{leb}
use lib.ListN.{length, get_or, set, take, drop, length-map, length-append}
use lib.Seq.{sets, sets-eq, get_or-take, length-take-le}
use Rattle.rule.specs.Lists.{join}
use Rattle.rule.specs.Rule.{held}
use Rattle.pool.specs.Chain.{total, Linked}
use Rattle.keys.specs.declared.kind.Kind.{Kind}
use Rattle.keys.specs.Ordered.{words, is_wide}
use Rattle.pool.specs.World.{waiting_chain, chain_count, World, key_word0, key_word1, word0, word1, chains, first_of}
use Rattle.pool.specs.Sound.{Whole}
use Rattle.pool.specs.Lay.{heap, heap_in}
use Rattle.engine.specs.Outcome.{Listing, listing, room_for}
use Rattle.heap.specs.Calls.{over, words_at, list}
use Rattle.engine.specs.Core.{Written, written, list_from, list_chain, list_chains, list_entries, list_all, list_core}
use Rattle.pool.proofs.Chains.{length_join}
use Rattle.pool.proofs.Keys.{store_wide, store_slim}
use Rattle.pool.proofs.Follows.{whole_good, held_len}

module _ (kind : Kind) (keys values : List ℕ) where
  -- the slots are written one after the other
  writes : List ℕ → Written → Written
  writes [] o = o
  writes (s ∷ ss) o = writes ss (written kind keys values s o)

  writes_append : (a b : List ℕ) (o : Written) → writes (a ++ b) o ≡ writes b (writes a o)
  unfolding writes
  writes_append [] b o = refl
  writes_append (s ∷ a) b o = writes_append a b (written kind keys values s o)

  list_from_lem : (m : ℕ) (next : List ℕ) (l : ℕ) (ss : List ℕ) (o : Written) → Linked next l ss → length ss ≤ m → list_from m kind keys values next l o ≡ writes ss o
  unfolding list_from writes
  list_from_lem zero next l [] o h k = refl
  list_from_lem zero next l (s ∷ ss) o h k = absurd (omega arith)
  list_from_lem (suc m) next l [] o h k = rw h refl
  list_from_lem (suc m) next l (s ∷ ss) o h k = rw h.0 (list_from_lem m next (get_or next s 0) ss (written kind keys values s o) h.1 (omega arith))

  writes_count : (l : List ℕ) (o : Written) → (writes l o).count ≡ o.count + length l
  unfolding writes written
  writes_count [] o = omega arith
  writes_count (s ∷ l) o = writes_count l (written kind keys values s o) ∙ more o.count (length l)
    where
      more : (a b : ℕ) → (a + 1) + b ≡ a + suc b
      more a b = omega arith

  list_chain_lem : (len : ℕ) (next : List ℕ) (l : ℕ) (ss : List ℕ) (o : Written) → Linked next l ss → length ss + o.count ≤ len → list_chain len kind keys values next l o ≡ writes ss o
  unfolding list_chain
  list_chain_lem len next l ss o h k = list_from_lem (len - o.count) next l ss o h (omega arith)

  list_chains_lem : (m len : ℕ) (first next : List ℕ) (c : ℕ) (ls : List (List ℕ)) (o : Written) → length ls ≡ m → ((i : ℕ) → i < m → Linked next (get_or first (c + i) 0) (get_or ls i []))
      → total ls + o.count ≤ len → list_chains m len kind keys values first next c o ≡ writes (join ls) o
  unfolding list_chains writes
  list_chains_lem zero len first next c [] o e h s = refl
  list_chains_lem zero len first next c (l ∷ ls) o e h s = absurd (omega arith)
  list_chains_lem (suc m) len first next c [] o e h s = absurd (omega arith)
  list_chains_lem (suc m) len first next c (l ∷ ls) o e h s =
      ap (list_chains m len kind keys values first next (c + 1)) (list_chain_lem len next (get_or first c 0) l o (subst (λ (x : ℕ). Linked next (get_or first x 0) l) (add-zero c) (h 0 (omega arith))) (omega arith))
      ∙ list_chains_lem m len first next (c + 1) ls (writes l o) (omega arith) (λ i q. subst (λ (x : ℕ). Linked next (get_or first x 0) (get_or ls i [])) (omega arith) (h (suc i) (omega arith))) (let n = writes_count l o in omega arith)
      ∙ sym (writes_append l (join ls) o)

  writes_values : (l : List ℕ) (o : Written) → (writes l o).values ≡ sets o.values o.count (map (λ s. get_or values s 0) l)
  unfolding writes written
  writes_values [] o = refl
  writes_values (s ∷ l) o = writes_values l (written kind keys values s o) ∙ ap (λ (i : ℕ). sets (set o.values o.count (get_or values s 0)) i (map (λ s. get_or values s 0) l)) (add-one o.count)

  writes_slim : is_wide kind ≡ false → (l : List ℕ) (o : Written) → (writes l o).keys ≡ sets o.keys o.count (join (map (λ s. key_word0 kind keys s ∷ []) l))
  unfolding writes written
  writes_slim e [] o = refl
  writes_slim e (s ∷ l) o = writes_slim e l (written kind keys values s o)
      ∙ ap₂ (λ (x : List ℕ) (i : ℕ). sets x i (join (map (λ s. key_word0 kind keys s ∷ []) l))) (store_slim kind o.keys o.count (key_word0 kind keys s) (key_word1 kind keys s) e) (add-one o.count)

  writes_wide : is_wide kind ≡ true → (l : List ℕ) (o : Written) → (writes l o).keys ≡ sets o.keys (2 * o.count) (join (map (λ s. key_word0 kind keys s ∷ key_word1 kind keys s ∷ []) l))
  unfolding writes written
  writes_wide e [] o = refl
  writes_wide e (s ∷ l) o = writes_wide e l (written kind keys values s o)
      ∙ ap₂ (λ (x : List ℕ) (i : ℕ). sets x i (join (map (λ s. key_word0 kind keys s ∷ key_word1 kind keys s ∷ []) l)))
      (store_wide kind o.keys o.count (key_word0 kind keys s) (key_word1 kind keys s) e ∙ ap (λ (i : ℕ). set (set o.keys (2 * o.count) (key_word0 kind keys s)) i (key_word1 kind keys s)) (add-one (2 * o.count)))
      (two o.count)
    where
      two : (a : ℕ) → 2 * (a + 1) ≡ suc (suc (2 * a))
      two a = omega arith

length_ones : (f : ℕ → ℕ) (l : List ℕ) → length (join (map (λ s. f s ∷ []) l)) ≡ 1 * length l
length_ones f [] = refl
length_ones f (s ∷ l) = let ih = length_ones f l in omega arith

length_twos : (f g : ℕ → ℕ) (l : List ℕ) → length (join (map (λ s. f s ∷ g s ∷ []) l)) ≡ 2 * length l
length_twos f g [] = refl
length_twos f g (s ∷ l) = let ih = length_twos f g l in omega arith

pub sets_over : (new old : List ℕ) → length new ≤ length old → sets old 0 new ≡ over new old
unfolding over
sets_over new old k = sets-eq new old 0 (subst (λ (n : ℕ). n ≤ length old) (sym (zero-add (length new))) k) ∙ ap (λ (n : ℕ). new ++ drop n old) (zero-add (length new))

words_by : (w : World) (x : Bool) → is_wide w.head.kind ≡ x → (l : List ℕ) → join (map (words_at w) l) ≡ join (map (λ s. elim x as (λ y. List ℕ) [ true ↦ word0 w s ∷ word1 w s ∷ [] | false ↦ word0 w s ∷ [] ]) l)
unfolding words_at
words_by w x e l = λ i. join (map (λ s. elim (e i) as (λ y. List ℕ) [ true ↦ word0 w s ∷ word1 w s ∷ [] | false ↦ word0 w s ∷ [] ]) l)

room_by : (kind : Kind) (x : Bool) → is_wide kind ≡ x → words kind ≡ cond x 2 1
unfolding words
room_by kind x e = λ i. cond (e i) 2 1

-- rooms that are not refused are long enough
pub room_enough : (kind : Kind) (len ks vs : ℕ) → room_for kind len ks vs ≡ true → (words kind * len ≤ ks) × (len ≤ vs)
unfolding room_for
room_enough kind len ks vs e =
    let r = both (leb (words kind * len) ks) (leb len vs) e in
    (leb-true (words kind * len) ks r.0, leb-true len vs r.1)
  where
    both : (x y : Bool) → x && y ≡ true → (x ≡ true) × (y ≡ true)
    both true true q = (refl, refl)
    both true false q = absurd (true≢false (sym q))
    both false y q = absurd (true≢false (sym q))

module _ {w : World} (h : Whole w) (ks vs : List ℕ) where
  start : Written
  start = record { keys = ks; values = vs; count = 0 }

  linked : (i : ℕ) → i < chain_count → Linked w.links.next (first_of w i) (get_or (chains w) i [])
  linked i k = (whole_good h).laid.linked i k

  -- the waiting chain and the buckets are as long as the length says
  full : length (get_or (chains w) waiting_chain []) + total (take waiting_chain (chains w)) ≡ w.head.len
  unfolding held heap heap_in
  full =
      let a = length-append (get_or (chains w) waiting_chain []) (join (take waiting_chain (chains w))) in
      let b = length_join (take waiting_chain (chains w)) in
      let c = held_len h in
      omega (arith, a, b, c)

  all_written : list_all w ks vs ≡ writes w.head.kind w.keys w.values (held (heap w)) start
  unfolding list_all list_entries heap heap_in held start
  all_written =
      let first = writes w.head.kind w.keys w.values (get_or (chains w) waiting_chain []) start in
      let n = writes_count w.head.kind w.keys w.values (get_or (chains w) waiting_chain []) start in
      let f = full in
      ap (list_chains waiting_chain w.head.len w.head.kind w.keys w.values w.links.first w.links.next 0)
      (list_chain_lem w.head.kind w.keys w.values w.head.len w.links.next (first_of w waiting_chain) (get_or (chains w) waiting_chain []) start (linked waiting_chain (omega arith)) (omega (arith, f)))
      ∙ list_chains_lem w.head.kind w.keys w.values waiting_chain w.head.len w.links.first w.links.next 0 (take waiting_chain (chains w)) first
      (length-take-le waiting_chain (chains w) (let m = (whole_good h).laid.many in omega arith))
      (λ i q. subst (λ (x : ℕ). Linked w.links.next (first_of w x) (get_or (take waiting_chain (chains w)) i [])) (sym (zero-add i)) (subst (Linked w.links.next (first_of w i)) (sym (get_or-take waiting_chain (chains w) i [] q)) (linked i (omega arith))))
      (omega (arith, f, n))
      ∙ sym (writes_append w.head.kind w.keys w.values (get_or (chains w) waiting_chain []) (join (take waiting_chain (chains w))) start)

  module _ (room0 : words w.head.kind * w.head.len ≤ length ks) (room1 : w.head.len ≤ length vs) where
    values_is : (list_all w ks vs).values ≡ over (map (λ s. get_or w.values s 0) (held (heap w))) vs
    unfolding start
    values_is =
        ap (λ (o : Written). o.values) all_written ∙ writes_values w.head.kind w.keys w.values (held (heap w)) start
        ∙ sets_over (map (λ s. get_or w.values s 0) (held (heap w))) vs (let a = length-map (held (heap w)) (λ s. get_or w.values s 0) in let b = held_len h in omega (arith, a, b))

    keys_is : (x : Bool) → is_wide w.head.kind ≡ x → (list_all w ks vs).keys ≡ over (join (map (words_at w) (held (heap w)))) ks
    unfolding start
    keys_is true e =
        ap (λ (o : Written). o.keys) all_written ∙ writes_wide w.head.kind w.keys w.values e (held (heap w)) start
        ∙ sets_over (join (map (λ s. word0 w s ∷ word1 w s ∷ []) (held (heap w)))) ks
        (let a = length_twos (word0 w) (word1 w) (held (heap w)) in let b = held_len h in let c : 2 * w.head.len ≤ length ks = subst (λ (n : ℕ). n * w.head.len ≤ length ks) (room_by w.head.kind true e) room0 in omega (arith, a, b, c))
        ∙ ap (λ (l : List ℕ). over l ks) (sym (words_by w true e (held (heap w))))
    keys_is false e =
        ap (λ (o : Written). o.keys) all_written ∙ writes_slim w.head.kind w.keys w.values e (held (heap w)) start
        ∙ sets_over (join (map (λ s. word0 w s ∷ []) (held (heap w)))) ks
        (let a = length_ones (word0 w) (held (heap w)) in let b = held_len h in let c : 1 * w.head.len ≤ length ks = subst (λ (n : ℕ). n * w.head.len ≤ length ks) (room_by w.head.kind false e) room0 in omega (arith, a, b, c))
        ∙ ap (λ (l : List ℕ). over l ks) (sym (words_by w false e (held (heap w))))

  pub core_by : (x : Bool) → room_for w.head.kind w.head.len (length ks) (length vs) ≡ x → list_core w ks vs ≡ (elim x as (λ y. Listing) [ false ↦ listing 4 w ks vs 0 | true ↦ listing 0 w (list_all w ks vs).keys (list_all w ks vs).values w.head.len ])
  unfolding list_core
  core_by x e = ap (λ (b : Bool). elim b as (λ y. Listing) [ false ↦ listing 4 w ks vs 0 | true ↦ listing 0 w (list_all w ks vs).keys (list_all w ks vs).values w.head.len ]) e

  list_by : (x : Bool) → room_for w.head.kind w.head.len (length ks) (length vs) ≡ x → list w ks vs ≡ (elim x as (λ y. Listing) [
    | false ↦ listing 4 w ks vs 0
    | true ↦ listing 0 w (over (join (map (words_at w) (held (heap w)))) ks) (over (map (λ s. get_or w.values s 0) (held (heap w))) vs) w.head.len
  ])
  unfolding list
  list_by x e = ap (λ (b : Bool). elim b as (λ y. Listing) [
    | false ↦ listing 4 w ks vs 0
    | true ↦ listing 0 w (over (join (map (words_at w) (held (heap w)))) ks) (over (map (λ s. get_or w.values s 0) (held (heap w))) vs) w.head.len
  ]) e

  -- the core lists what document 01 says
  pub list_core_lem : list_core w ks vs ≡ list w ks vs
  list_core_lem = go (room_for w.head.kind w.head.len (length ks) (length vs)) refl
    where
      go : (x : Bool) → room_for w.head.kind w.head.len (length ks) (length vs) ≡ x → list_core w ks vs ≡ list w ks vs
      go false e = core_by false e ∙ sym (list_by false e)
      go true e =
          let r = room_enough w.head.kind w.head.len (length ks) (length vs) e in
          core_by true e ∙ (λ i. listing 0 w (keys_is r.0 r.1 (is_wide w.head.kind) refl i) (values_is r.0 r.1 i) w.head.len) ∙ sym (list_by true e)
