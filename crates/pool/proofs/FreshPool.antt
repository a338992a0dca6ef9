-- A fresh pool is sound: every chain is empty but the free chain, which is 0, 1, 2 and so on.
use mathlib.Core.Path.{◌≡◌, refl, sym, ap, ◌∙◌, subst}
use mathlib.Core.Logic.{◌≢◌, ◌⊎◌, inl, inr}
use mathlib.Core.Bool.{Bool, true, false}
use mathlib.Core.List.{List, []}
use Prim.Native.Nat.{ℕ, zero, suc, ◌+◌, ◌*◌, ◌≤◌, ◌<◌, zero-le}
use native.Mathlib.Nat.{zero-add, add-zero}
use native.Mathlib.Omega.{arith}
use native.Mathlib.Decide.{ℕ_discrete}
use lib.ListN.{length, get_or, set, length-set, replicate, length-replicate}
use lib.Seq.{get_or-set_same, get_or-set_other}
use Rattle.keys.specs.declared.kind.Kind.{Kind}
use Rattle.keys.specs.Ordered.{is_wide}
use Rattle.keys.specs.Table.{kind_fits}
use Rattle.keys.specs.Ordered.{proper}
use Rattle.pool.specs.Chain.{hit, count, tally, tab, Linked, Backed, last_from, On}
use Rattle.pool.proofs.Chains.{hit_same, hit_other, hit_cases, tally_set, length_tab}
use Rattle.keys.specs.Ordered.{words}
use Rattle.pool.specs.World.{free_chain, chain_count, size, first_of, last_of, key_word0, key_word1, word0, word1}
use Rattle.pool.specs.Sound.{limit, Typed, Fit}
use Rattle.pool.specs.Marks.{summary}
use Rattle.pool.proofs.Marks.{summary_none}
use Rattle.pool.proofs.Laid.{Laid, Filed, Good, summed_typed}
use Rattle.pool.specs.Core.{fresh_next, fresh_first, fresh_core}
use Rattle.pool.proofs.Keys.{word0_wide, word0_slim, word1_wide, word1_slim}

-- i, i + 1 and so on, k of them
abbrev pub run : ℕ → ℕ → List ℕ
run i k = tab (λ x. x) i k

run_none : (s i k : ℕ) → (s < i) ⊎ (i + k ≤ s) → count s (run i k) ≡ 0
run_none s i zero h = refl
run_none s i (suc k) (inl h) = let a = hit_other s i (omega arith) in let b = run_none s (suc i) k (inl (omega arith)) in omega arith
run_none s i (suc k) (inr h) = let a = hit_other s i (omega arith) in let b = run_none s (suc i) k (inr (omega arith)) in omega arith

run_count : (s i k : ℕ) → i ≤ s → s < i + k → count s (run i k) ≡ 1
run_count s i zero h k = absurd (omega arith)
run_count s i (suc n) h k = go (hit_cases s i) (run_count s (suc i) n)
  where
    go : (s ≡ i) ⊎ (hit s i ≡ 0) → (suc i ≤ s → s < suc i + n → count s (run (suc i) n) ≡ 1) → hit s i + count s (run (suc i) n) ≡ 1
    go (inl e) ih =
        let a = run_none s (suc i) n (inl (omega arith)) in
        let b : hit s i ≡ 1 = ap (λ (x : ℕ). hit x i) e ∙ hit_same i in
        omega arith
    go (inr e) ih = go2 (ℕ_discrete s i)
      where
        go2 : Dec (s ≡ i) → hit s i + count s (run (suc i) n) ≡ 1
        go2 (yes q) = let b : hit s i ≡ 1 = ap (λ (x : ℕ). hit x i) q ∙ hit_same i in absurd (omega arith)
        go2 (no q) = let a = ih (omega arith) (omega arith) in omega arith

run_last : (i k : ℕ) → last_from i (run i k) ≡ i + k
run_last i zero = omega arith
run_last i (suc k) = run_last (suc i) k ∙ omega arith

pub length_fresh : (i k : ℕ) → length (fresh_next i k) ≡ k
unfolding fresh_next
length_fresh i zero = refl
length_fresh i (suc zero) = refl
length_fresh i (suc (suc k)) = ap suc (length_fresh (suc i) (suc k))

pub fresh_mid : (i k j : ℕ) → suc j < k → get_or (fresh_next i k) j 0 ≡ suc (suc (i + j))
unfolding fresh_next
fresh_mid i zero j h = absurd (omega arith)
fresh_mid i (suc zero) j h = absurd (omega arith)
fresh_mid i (suc (suc k)) zero h = omega arith
fresh_mid i (suc (suc k)) (suc j) h = fresh_mid (suc i) (suc k) j (omega arith) ∙ omega arith

pub fresh_end : (i k j : ℕ) → suc j ≡ k → get_or (fresh_next i k) j 0 ≡ 0
unfolding fresh_next
fresh_end i zero j h = refl
fresh_end i (suc zero) zero h = refl
fresh_end i (suc zero) (suc j) h = absurd (omega arith)
fresh_end i (suc (suc k)) zero h = absurd (omega arith)
fresh_end i (suc (suc k)) (suc j) h = fresh_end (suc i) (suc k) j (omega arith)

fresh_linked : (n i k : ℕ) → i + suc k ≡ n → Linked (fresh_next 0 n) (suc i) (run i (suc k))
fresh_linked n i zero e = (refl, fresh_end 0 n i (omega arith))
fresh_linked n i (suc k) e = (refl, subst (λ (x : ℕ). Linked (fresh_next 0 n) x (run (suc i) (suc k))) (sym (fresh_mid 0 n i (omega arith) ∙ omega arith)) (fresh_linked n (suc i) k (omega arith)))

fresh_linked0 : (n : ℕ) → Linked (fresh_next 0 n) (fresh_first n) (run 0 n)
unfolding fresh_first
fresh_linked0 zero = refl
fresh_linked0 (suc n) = fresh_linked (suc n) 0 n (omega arith)

zeros : (n i : ℕ) → ◌≡◌ {A = ℕ} (get_or (replicate n 0) i 0) 0
zeros zero i = refl
zeros (suc n) zero = refl
zeros (suc n) (suc i) = zeros n i

tally_empty : (s k : ℕ) → tally s (replicate k []) ≡ 0
tally_empty s zero = refl
tally_empty s (suc k) = let ih = tally_empty s k in omega arith

empty_at_lem : (k c : ℕ) → ◌≡◌ {A = List ℕ} (get_or (replicate k []) c []) []
empty_at_lem zero c = refl
empty_at_lem (suc k) zero = refl
empty_at_lem (suc k) (suc c) = empty_at_lem k c

-- the chains of a fresh pool
unfoldable pub fresh_chains : ℕ → List (List ℕ)
fresh_chains n = set (replicate chain_count []) free_chain (run 0 n)

pub free_at : (n : ℕ) → get_or (fresh_chains n) free_chain [] ≡ run 0 n
unfolding fresh_chains
free_at n = get_or-set_same (replicate chain_count []) free_chain (run 0 n) [] (let e = length-replicate {A = List ℕ} chain_count [] in omega arith)

pub other_at : (n c : ℕ) → c ≢ free_chain → get_or (fresh_chains n) c [] ≡ []
unfolding fresh_chains
other_at n c h = get_or-set_other (replicate chain_count []) free_chain c (run 0 n) [] h ∙ empty_at_lem chain_count c

fresh_tally : (s n : ℕ) → tally s (fresh_chains n) ≡ count s (run 0 n)
unfolding fresh_chains
fresh_tally s n = go (replicate chain_count []) (tally_empty s chain_count) (length-replicate {A = List ℕ} chain_count []) (empty_at_lem chain_count free_chain)
  where
    go : (ls : List (List ℕ)) → tally s ls ≡ 0 → length ls ≡ chain_count → get_or ls free_chain [] ≡ [] → tally s (set ls free_chain (run 0 n)) ≡ count s (run 0 n)
    go ls e l z =
        let a = tally_set s ls free_chain (run 0 n) (omega arith) in
        let b : count s (get_or ls free_chain []) ≡ 0 = ap (count s) z in
        omega arith

set_first : (v : ℕ) (xs : List ℕ) → length xs ≡ chain_count → get_or (set xs free_chain v) free_chain 0 ≡ v
set_first v xs l = get_or-set_same xs free_chain v 0 (omega arith)

set_rest : (c v : ℕ) → c ≢ free_chain → get_or (set (replicate chain_count 0) free_chain v) c 0 ≡ 0
set_rest c v h = get_or-set_other (replicate chain_count 0) free_chain c v 0 h ∙ zeros chain_count c

module _ (kind : Kind) (n : ℕ) (t : Bool) (a b : ℕ) where
  f_first : first_of (fresh_core kind n t a b) free_chain ≡ fresh_first n
  unfolding fresh_core
  f_first = set_first (fresh_first n) (replicate chain_count 0) (length-replicate {A = ℕ} chain_count 0)

  f_last : last_of (fresh_core kind n t a b) free_chain ≡ n
  unfolding fresh_core
  f_last = set_first n (replicate chain_count 0) (length-replicate {A = ℕ} chain_count 0)

  f_firsts : (c : ℕ) → c ≢ free_chain → first_of (fresh_core kind n t a b) c ≡ 0
  unfolding fresh_core
  f_firsts c h = set_rest c (fresh_first n) h

  f_lasts : (c : ℕ) → c ≢ free_chain → last_of (fresh_core kind n t a b) c ≡ 0
  unfolding fresh_core
  f_lasts c h = set_rest c n h

  pub f_size : size (fresh_core kind n t a b) ≡ n
  unfolding fresh_core
  f_size = length_fresh 0 n

  f_back : (s : ℕ) → get_or (fresh_core kind n t a b).links.back s 0 ≡ 0
  unfolding fresh_core
  f_back s = zeros n s

  f_value : (s : ℕ) → get_or (fresh_core kind n t a b).values s 0 ≡ 0
  unfolding fresh_core
  f_value s = zeros n s

  f_word0 : (s : ℕ) → word0 (fresh_core kind n t a b) s ≡ 0
  unfolding fresh_core
  f_word0 s = go (is_wide kind) refl
    where
      go : (x : Bool) → is_wide kind ≡ x → key_word0 kind (replicate (words kind * n) 0) s ≡ 0
      go true e = word0_wide kind (replicate (words kind * n) 0) s e ∙ zeros (words kind * n) (2 * s)
      go false e = word0_slim kind (replicate (words kind * n) 0) s e ∙ zeros (words kind * n) s

  f_word1 : (s : ℕ) → word1 (fresh_core kind n t a b) s ≡ 0
  unfolding fresh_core
  f_word1 s = go (is_wide kind) refl
    where
      go : (x : Bool) → is_wide kind ≡ x → key_word1 kind (replicate (words kind * n) 0) s ≡ 0
      go true e = word1_wide kind (replicate (words kind * n) 0) s e ∙ zeros (words kind * n) (2 * s + 1)
      go false e = word1_slim kind (replicate (words kind * n) 0) s e

  f_marks : (fresh_core kind n t a b).links.busy ≡ summary (fresh_core kind n t a b).links.first
  unfolding fresh_core
  f_marks = summary_none (set (replicate chain_count 0) free_chain (fresh_first n)) (λ c k. set_rest c (fresh_first n) (omega arith))

  f_typed : Typed (fresh_core kind n t a b).links
  unfolding fresh_core
  f_typed =
      summed_typed (length-set (replicate chain_count 0) free_chain (fresh_first n) ∙ length-replicate {A = ℕ} chain_count 0)
      (length-set (replicate chain_count 0) free_chain n ∙ length-replicate {A = ℕ} chain_count 0) f_marks

  f_many : length (fresh_chains n) ≡ chain_count
  unfolding fresh_chains
  f_many = length-set (replicate chain_count []) free_chain (run 0 n) ∙ length-replicate {A = List ℕ} chain_count []

  f_sized : length (fresh_core kind n t a b).links.back ≡ size (fresh_core kind n t a b)
  unfolding fresh_core
  f_sized = length-replicate {A = ℕ} n 0 ∙ sym (length_fresh 0 n)

  f_link : Linked (fresh_core kind n t a b).links.next (fresh_first n) (run 0 n)
  unfolding fresh_core
  f_link = fresh_linked0 n

  f_linked : (c : ℕ) → c < chain_count → Dec (c ≡ free_chain) → Linked (fresh_core kind n t a b).links.next (first_of (fresh_core kind n t a b) c) (get_or (fresh_chains n) c [])
  f_linked c k (yes e) = rw (e, free_at n, f_first) f_link
  f_linked c k (no h) = rw (other_at n c h) (f_firsts c h)

  f_ends : (c : ℕ) → c < chain_count → Dec (c ≡ free_chain) → last_of (fresh_core kind n t a b) c ≡ last_from 0 (get_or (fresh_chains n) c [])
  f_ends c k (yes e) = rw (e, free_at n) (f_last ∙ sym (run_last 0 n ∙ zero-add n))
  f_ends c k (no h) = rw (other_at n c h) (f_lasts c h)

  f_backed : (c : ℕ) → c < free_chain → Backed (fresh_core kind n t a b).links.back 0 (get_or (fresh_chains n) c [])
  f_backed c k = subst (Backed (fresh_core kind n t a b).links.back 0) (sym (other_at n c (omega arith))) tt

  f_laid : Laid (fresh_core kind n t a b).links (fresh_chains n) []
  f_laid = record {
    typed = f_typed;
    sized = f_sized;
    many = f_many;
    linked = λ c k. f_linked c k (ℕ_discrete c free_chain);
    ends = λ c k. f_ends c k (ℕ_discrete c free_chain);
    backed = f_backed;
    freed = λ s o. f_back s;
    once = λ s k. add-zero (tally s (fresh_chains n)) ∙ fresh_tally s n ∙ run_count s 0 n zero-le (let e = f_size in omega arith);
    only = λ s k. add-zero (tally s (fresh_chains n)) ∙ fresh_tally s n ∙ run_none s 0 n (inr (let e = f_size in omega arith));
    marks = f_marks;
  }

  f_empty : {A : Type 0} (c : ℕ) → c < free_chain → (s : ℕ) → On s (get_or (fresh_chains n) c []) → A
  f_empty c k s o = let p : On s [] = subst (On s) (other_at n c (omega arith)) o in absurd (omega arith)

  module _ (ok : kind_fits kind ≡ true) (small : n ≤ limit) (z0 : t ≡ false → a ≡ 0) (z1 : t ≡ false → b ≡ 0) (z2 : proper kind a b ≡ true) where
    f_fit : Fit (fresh_core kind n t a b)
    unfolding fresh_core
    f_fit = record {
      kind_ok = ok;
      some_keys = length-replicate {A = ℕ} (words kind * n) 0 ∙ ap (λ (m : ℕ). words kind * m) (sym (length_fresh 0 n));
      some_values = length-replicate {A = ℕ} n 0 ∙ sym (length_fresh 0 n);
      some_backs = length-replicate {A = ℕ} n 0 ∙ sym (length_fresh 0 n);
      small = subst (λ (m : ℕ). m ≤ limit) (sym (length_fresh 0 n)) small;
    }

    f_filed : Filed (fresh_core kind n t a b) (fresh_chains n)
    unfolding fresh_core
    f_filed = record {
      belongs = λ c k s o. f_empty c k s o;
      below = λ c k s o. f_empty c k s o;
      zero0 = λ s o. f_word0 s;
      zero1 = λ s o. f_word1 s;
      zero_value = λ s o. f_value s;
      counted = zero-add _ ∙ ap length (free_at n) ∙ length_tab (λ x. x) 0 n ∙ sym (length_fresh 0 n);
      no_top0 = z0;
      no_top1 = z1;
      top_of_kind = z2;
    }

    pub fresh_good : Good (fresh_core kind n t a b) (fresh_chains n)
    fresh_good = record { fit = f_fit; laid = f_laid; filed = f_filed }
