-- A sound world is fine, and every step of the core keeps the links fine, sound or not. What a loop's turn does.
use Prim.Native.Nat.{◌*◌, ℕ, zero, suc, ◌+◌, ◌-◌, ◌^◌, ◌≤◌, ◌<◌, zero-le}
use mathlib.Core.Path.{ap, ◌≡◌, refl, sym, ◌∙◌, subst}
use mathlib.Core.Logic.{◌⊎◌, inl, inr}
use mathlib.Core.Bool.{Bool, true, false, cond}
use mathlib.Core.List.{List, [], ◌∷◌}
use native.Mathlib.Omega.{arith}
use native.Mathlib.Numerals.{sub-one}
use native.Mathlib.Decide.{ℕ_discrete, dec_lt}
use borrow.Author.Tests.{eq-eqb, ne_eqb}
use lib.Dec.{eqb}
use lib.ListN.{length, get_or, set, length-set, get_or-eq_default}
use Rattle.rule.specs.Width.{distance}
use Rattle.keys.specs.declared.kind.Kind.{Kind}
use Rattle.pool.specs.Chain.{hit, Linked, Backed, last_from, On}
use Rattle.keys.specs.Ordered.{words, width}
use Rattle.pool.specs.World.{free_chain, chain_count, Links, World, slot_key, size, first_of, chains}
use Rattle.pool.specs.Sound.{Fit, Whole, limit}
use Rattle.pool.specs.Fine.{Under, FineAt, Fine, Room, Holds, Ready}
use Rattle.pool.specs.Core.{appended_by, appended, unhooked_by, unhooked, cut, emptied, better, greatest_from, drained, drain_from}
use Rattle.pool.proofs.Chains.{hit_same, hit_cases, tally_ge, tally_find, last_on0}
use Rattle.pool.proofs.Marks.{mark_summary, unmark_summary, summary_past}
use Rattle.pool.proofs.Laid.{Good, laid_inside}
use Rattle.pool.proofs.Follows.{whole_good, free_len}

-- ---- stores

under_at : (xs : List ℕ) (i v n : ℕ) → ((k : ℕ) → get_or xs k 0 ≤ n) → v ≤ n → (k : ℕ) → get_or (set xs i v) k 0 ≤ n
under_at [] i v n u h k = u k
under_at (x ∷ xs) zero v n u h zero = h
under_at (x ∷ xs) zero v n u h (suc k) = u (suc k)
under_at (x ∷ xs) (suc i) v n u h zero = u zero
under_at (x ∷ xs) (suc i) v n u h (suc k) = under_at xs i v n (λ j. u (suc j)) h k

pub under_set : {xs : List ℕ} {n : ℕ} (i v : ℕ) → Under n xs → v ≤ n → Under n (set xs i v)
under_set {xs} {n} i v u h = record { at = under_at xs i v n u.at h }

appended_by_fine : (none : Bool) (n : ℕ) (s : Links) (c i : ℕ) → FineAt n s → i < n → FineAt n (appended_by none s c i)
unfolding appended_by
appended_by_fine true n s c i f h = record {
  small = f.small;
  firsts = simp length-set f.firsts;
  lasts = simp length-set f.lasts;
  nexts = simp length-set f.nexts;
  backs = simp length-set f.backs;
  first = under_set _ _ f.first (omega arith);
  last = under_set _ _ f.last (omega arith);
  next = under_set _ _ f.next (omega arith);
  back = under_set _ _ f.back (f.last.at c);
  marks = mark_summary s.first f.marks c (i + 1) (omega (arith, f.firsts)) (omega arith);
}
appended_by_fine false n s c i f h = record {
  small = f.small;
  firsts = f.firsts;
  lasts = simp length-set f.lasts;
  nexts = simp length-set f.nexts;
  backs = simp length-set f.backs;
  first = f.first;
  last = under_set _ _ f.last (omega arith);
  next = under_set _ _ (under_set _ _ f.next (omega arith)) zero-le;
  back = under_set _ _ f.back (f.last.at c);
  marks = f.marks;
}

pub appended_fine : (n : ℕ) (s : Links) (c i : ℕ) → FineAt n s → i < n → FineAt n (appended s c i)
unfolding appended
appended_fine n s c i = appended_by_fine (eqb (get_or s.last c 0) 0) n s c i

unhooked_by_fine : (none : Bool) (n : ℕ) (s : Links) (r : ℕ) → FineAt n s → r ≤ n → FineAt n (unhooked_by none s r)
unfolding unhooked_by
unhooked_by_fine true n s r f h = record {
  small = f.small;
  firsts = simp length-set f.firsts;
  lasts = simp length-set f.lasts;
  nexts = f.nexts;
  backs = f.backs;
  first = under_set _ _ f.first h;
  last = under_set _ _ f.last zero-le;
  next = f.next;
  back = f.back;
  marks = summary_past s.first f.marks free_chain r (omega arith);
}
unhooked_by_fine false n s r f h = record {
  small = f.small;
  firsts = simp length-set f.firsts;
  lasts = f.lasts;
  nexts = f.nexts;
  backs = f.backs;
  first = under_set _ _ f.first h;
  last = f.last;
  next = f.next;
  back = f.back;
  marks = summary_past s.first f.marks free_chain r (omega arith);
}

pub unhooked_fine : (n : ℕ) (s : Links) (i : ℕ) → FineAt n s → FineAt n (unhooked s i)
unfolding unhooked
unhooked_fine n s i f = unhooked_by_fine (eqb (get_or s.next i 0) 0) n s (get_or s.next i 0) f (f.next.at i)

pub cut_fine : (none : Bool) (n : ℕ) (s : Links) (p : ℕ) → FineAt n s → p ≤ n → FineAt n (cut none s p)
unfolding cut
cut_fine true n s p f h = record {
  small = f.small;
  firsts = simp length-set f.firsts;
  lasts = simp length-set f.lasts;
  nexts = f.nexts;
  backs = f.backs;
  first = under_set _ _ f.first zero-le;
  last = under_set _ _ f.last h;
  next = f.next;
  back = f.back;
  marks = unmark_summary s.first f.marks 0 (omega (arith, f.firsts));
}
cut_fine false n s p f h = record {
  small = f.small;
  firsts = f.firsts;
  lasts = simp length-set f.lasts;
  nexts = simp length-set f.nexts;
  backs = f.backs;
  first = f.first;
  last = under_set _ _ f.last h;
  next = under_set _ _ f.next zero-le;
  back = f.back;
  marks = f.marks;
}

pub emptied_fine : (n : ℕ) (s : Links) (c : ℕ) → FineAt n s → FineAt n (emptied s c)
unfolding emptied
emptied_fine n s c f = record {
  small = f.small;
  firsts = simp length-set f.firsts;
  lasts = simp length-set f.lasts;
  nexts = f.nexts;
  backs = f.backs;
  first = under_set _ _ f.first zero-le;
  last = under_set _ _ f.last zero-le;
  next = f.next;
  back = f.back;
  marks = unmark_summary s.first f.marks c (omega (arith, f.firsts));
}

pub drained_fine : (n m : ℕ) (kind : Kind) (keys : List ℕ) (t at moves : ℕ) (s : Links) → FineAt n s → at ≤ n → FineAt n (drain_from m kind keys t at moves s).to
unfolding drain_from
drained_fine n zero kind keys t at moves s f h = f
drained_fine n (suc m) kind keys t zero moves s f h = f
drained_fine n (suc m) kind keys t (suc i) moves s f h =
    drained_fine n m kind keys t (get_or s.next i 0) (moves + 1) (appended s (distance (width kind) (slot_key kind keys i) t) i)
    (appended_fine n s (distance (width kind) (slot_key kind keys i) t) i f (omega arith)) (f.next.at i)

-- ---- turns of the loops, as the code takes them

module _ (kind : Kind) (keys : List ℕ) (t at moves : ℕ) (s : Links) where
  pub drain_on : (m k : ℕ) → m ≡ suc k → (at ≡ 0 → ⊥)
      → drain_from m kind keys t at moves s ≡ drain_from k kind keys t (get_or s.next (at - 1) 0) (moves + 1) (appended s (distance (width kind) (slot_key kind keys (at - 1)) t) (at - 1))
  unfolding drain_from
  drain_on m k e z = go at z
    where
      go : (a : ℕ) → (a ≡ 0 → ⊥) → drain_from m kind keys t a moves s ≡ drain_from k kind keys t (get_or s.next (a - 1) 0) (moves + 1) (appended s (distance (width kind) (slot_key kind keys (a - 1)) t) (a - 1))
      go zero y = absurd (y refl)
      go (suc i) y = rw (e, sub-one)

  -- with the number d and the links r that the calls gave
  pub drain_turn : (n d : ℕ) (r : Links) → moves < n → (at ≡ 0 → ⊥) → d ≡ distance (width kind) (slot_key kind keys (at - 1)) t → r ≡ appended s d (at - 1)
      → drain_from (n - moves) kind keys t at moves s ≡ drain_from (n - (moves + 1)) kind keys t (get_or s.next (at - 1) 0) (moves + 1) r
  drain_turn n d r l z e f = drain_on (n - moves) (n - (moves + 1)) (omega arith) z ∙ cc

  pub drain_stop : (m : ℕ) → at ≡ 0 → drain_from m kind keys t at moves s ≡ drained s moves
  unfolding drain_from
  drain_stop zero z = refl
  drain_stop (suc m) z = rw z

  pub drain_end : (m : ℕ) → m ≡ 0 → drain_from m kind keys t at moves s ≡ drained s moves
  unfolding drain_from
  drain_end m z = rw z

module _ (kind : Kind) (keys next : List ℕ) (at best : ℕ) where
  -- with the link b that the branch left
  pub greatest_turn : (n turns b : ℕ) → turns < n → (at ≡ 0 → ⊥) → b ≡ better kind keys at best
      → greatest_from (n - turns) kind keys next at best ≡ greatest_from (n - (turns + 1)) kind keys next (get_or next (at - 1) 0) b
  unfolding greatest_from
  greatest_turn n turns b l z e = let h : n - turns ≡ suc (n - (turns + 1)) = omega arith in rw (h, ne_eqb at 0 z, e)

  pub greatest_stop : (m : ℕ) → at ≡ 0 → greatest_from m kind keys next at best ≡ best
  unfolding greatest_from
  greatest_stop zero z = refl
  greatest_stop (suc m) z = rw (eq-eqb at 0 z)

  pub greatest_end : (m : ℕ) → m ≡ 0 → greatest_from m kind keys next at best ≡ best
  unfolding greatest_from
  greatest_end m z = rw z

-- ---- a sound world is fine

link_le : (next : List ℕ) (n l : ℕ) (ss : List ℕ) → Linked next l ss → ((x : ℕ) → On x ss → x < n) → l ≤ n
link_le next n l [] h u = omega arith
link_le next n l (s ∷ ss) h u = let k = u s (let o = hit_same s in omega arith) in let e = h.0 in omega (arith, k, e)

next_le : (next : List ℕ) (n l s : ℕ) (ss : List ℕ) → Linked next l ss → ((x : ℕ) → On x ss → x < n) → On s ss → get_or next s 0 ≤ n
next_le next n l s [] h u o = absurd (omega arith)
next_le next n l s (x ∷ ss) h u o = go (hit_cases s x) (next_le next n (get_or next x 0) s ss h.1 (λ y q. u y (omega arith)))
  where
    go : (s ≡ x) ⊎ (hit s x ≡ 0) → (On s ss → get_or next s 0 ≤ n) → get_or next s 0 ≤ n
    go (inl e) ih = subst (λ (y : ℕ). get_or next y 0 ≤ n) (sym e) (link_le next n (get_or next x 0) ss h.1 (λ y q. u y (omega arith)))
    go (inr e) ih = ih (omega arith)

back_le : (back : List ℕ) (n p s : ℕ) (ss : List ℕ) → Backed back p ss → p ≤ n → ((x : ℕ) → On x ss → x < n) → On s ss → get_or back s 0 ≤ n
back_le back n p s [] h k u o = absurd (omega arith)
back_le back n p s (x ∷ ss) h k u o = go (hit_cases s x) (back_le back n (suc x) s ss h.1 (u x (let q = hit_same x in omega arith)) (λ y q. u y (omega arith)))
  where
    go : (s ≡ x) ⊎ (hit s x ≡ 0) → (On s ss → get_or back s 0 ≤ n) → get_or back s 0 ≤ n
    go (inl e) ih = subst (λ (y : ℕ). get_or back y 0 ≤ n) (sym e) (let q = h.0 in omega (arith, q))
    go (inr e) ih = ih (omega arith)

last_le : (n : ℕ) (ss : List ℕ) → ((x : ℕ) → On x ss → x < n) → last_from 0 ss ≤ n
last_le n ss u = go (last_from 0 ss) refl
  where
    go : (l : ℕ) → last_from 0 ss ≡ l → last_from 0 ss ≤ n
    go zero e = omega (arith, e)
    go (suc t) e = let k = u t (last_on0 t ss e) in omega (arith, e, k)

-- what is read past the end is 0
past : (xs : List ℕ) (n m : ℕ) → length xs ≡ m → ((k : ℕ) → k < m → get_or xs k 0 ≤ n) → Under n xs
past xs n m e u = record { at = λ k. elim (dec_lt k m) [ yes q ↦ u k q | no q ↦ subst (λ (x : ℕ). x ≤ n) (sym (get_or-eq_default xs 0 {n = k} (omega arith))) zero-le ] }

small_limit : (n : ℕ) → n ≤ limit → n < 2 ^ 32
unfolding limit
small_limit n h = omega arith

pub whole_fine : {w : World} → Whole w → Fine w.links
whole_fine {w} h = record {
  small = low;
  firsts = h.typed.firsts;
  lasts = h.typed.lasts;
  nexts = refl;
  backs = h.fit.some_backs;
  first = past w.links.first (size w) chain_count h.typed.firsts (λ c k. link_le w.links.next (size w) (first_of w c) (get_or (chains w) c []) (g.laid.linked c k) (inside c));
  last = past w.links.last (size w) chain_count h.typed.lasts (λ c k. subst (λ (x : ℕ). x ≤ size w) (sym (g.laid.ends c k)) (last_le (size w) (get_or (chains w) c []) (inside c)));
  next = past w.links.next (size w) (size w) refl (λ s k. let r = find s k in next_le w.links.next (size w) (first_of w r.0) s (get_or (chains w) r.0 []) (g.laid.linked r.0 r.1) (inside r.0) r.2);
  back = past w.links.back (size w) (size w) h.fit.some_backs (λ s k. let r = find s k in back_at s r.0 r.1 r.2 (ℕ_discrete r.0 free_chain));
  marks = g.laid.marks;
}
  where
    g : Good w (chains w)
    g = whole_good h

    inside : (c x : ℕ) → On x (get_or (chains w) c []) → x < size w
    inside c x o = laid_inside (whole_good h).laid x (let t = tally_ge x (chains w) c in omega arith)

    find : (s : ℕ) → s < size w → (c : ℕ) × (c < chain_count) × On s (get_or (chains w) c [])
    find s k =
        let r = tally_find s (chains w) (let e = (whole_good h).laid.once s k in omega arith) in
        (r.0, subst (λ (n : ℕ). r.0 < n) (whole_good h).laid.many r.1, r.2)

    back_at : (s c : ℕ) → c < chain_count → On s (get_or (chains w) c []) → Dec (c ≡ free_chain) → get_or w.links.back s 0 ≤ size w
    back_at s c k o (yes e) = subst (λ (x : ℕ). x ≤ size w) (sym ((whole_good h).laid.freed s (subst (λ (d : ℕ). On s (get_or (chains w) d [])) e o))) zero-le
    back_at s c k o (no n) = back_le w.links.back (size w) 0 s (get_or (chains w) c []) ((whole_good h).laid.backed c (omega arith)) zero-le
        (λ x q. laid_inside (whole_good h).laid x (let t = tally_ge x (chains w) c in omega arith)) o

    low : size w < 2 ^ 32
    low = small_limit (size w) h.fit.small

-- and its keys have room
pub fit_room : {w : World} → Fit w → Room w.head.kind (size w) w.keys
unfolding words
fit_room {w} f = record {
  wide = λ e. f.some_keys ∙ ap (λ (x : Bool). cond x 2 1 * size w) e;
  narrow = λ n. f.some_keys ∙ ap (λ (x : Bool). cond x 2 1 * size w) n ∙ one (size w);
}
  where
    one : (n : ℕ) → 1 * n ≡ n
    one n = omega arith

pub whole_room : {w : World} → Whole w → Room w.head.kind (size w) w.keys
whole_room h = fit_room h.fit

-- ---- what premises give

-- a slot below n has its words, and fine links are fine at their own length
pub room_holds : {kind : Kind} {n : ℕ} {keys : List ℕ} (i : ℕ) → Room kind n keys → i < n → Holds kind keys i
room_holds i r h = record { wide = λ e. omega (arith, r.wide e); narrow = λ q. omega (arith, r.narrow q) }

pub fine_of : {n : ℕ} {s : Links} → FineAt n s → Fine s
fine_of {n} {s} f = subst (λ (m : ℕ). FineAt m s) (sym f.nexts) f

-- an examined pool is ready for the calls
pub whole_ready : {w : World} → Whole w → Ready w.head w.links w.keys w.values
whole_ready {w} h = record {
  fine = whole_fine h;
  room = whole_room h;
  sized = h.fit.some_values;
  counted = let e = free_len h in omega arith;
  small = h.fit.small;
}
