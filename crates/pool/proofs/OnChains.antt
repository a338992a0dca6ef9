-- Slots put on chains and taken off them.
use mathlib.Core.Path.{◌≡◌, refl, sym, ap, ◌∙◌, subst}
use mathlib.Core.Logic.{◌≢◌, inl, inr}
use mathlib.Core.Bool.{false}
use mathlib.Core.List.{List, [], ◌∷◌, ◌++◌}
use Prim.Native.Nat.{ℕ, zero, suc, ◌+◌, ◌-◌, ◌≤◌, ◌<◌}
use native.Mathlib.Omega.{arith}
use lib.ListN.{length, get_or, set, length-set}
use native.Mathlib.Numerals.{add-one}
use lib.Dec.{eqb}
use borrow.Author.Tests.{eq-eqb, ne_eqb}
use lib.Seq.{get_or-set_same, get_or-set_other}
use Rattle.pool.specs.Chain.{hit, count, Linked, Backed, last_from, On}
use Rattle.pool.proofs.Chains.{hit_same, hit_cases, tally_ge, count_append, last_on0, last_on, last_some, last_append, linked_agree, backed_agree, linked_snoc, linked_unsnoc, backed_snoc, backed_unsnoc}
use Rattle.pool.specs.World.{free_chain, Links, links}
use Rattle.pool.specs.Marks.{summary, marked, unmarked}
use Rattle.pool.proofs.Marks.{mark_summary, unmark_summary, summary_past}
use Rattle.pool.proofs.Laid.{Laid, Touch, summed_typed, laid_most, laid_inside}
use Rattle.pool.specs.Core.{appended, unhooked, cut, freed, emptied}

-- ---- the core's stores once more, with the link itself in place of the test

-- a store at place c if the link is none; a store at the link's slot if there is one
abbrev set_if_none : ℕ → List ℕ → ℕ → ℕ → List ℕ
set_if_none zero l c v = set l c v
set_if_none (suc t) l c v = l

abbrev set_if_some : ℕ → List ℕ → ℕ → List ℕ
set_if_some zero l v = l
set_if_some (suc t) l v = set l t v

-- the bit of chain c is set, or cleared, if the link is none
abbrev mark_if_none : ℕ → List ℕ → ℕ → List ℕ
mark_if_none zero words c = marked words c
mark_if_none (suc t) words c = words

abbrev unmark_if_none : ℕ → List ℕ → ℕ → List ℕ
unmark_if_none zero words c = unmarked words c
unmark_if_none (suc t) words c = words

abbrev on_tail : Links → ℕ → ℕ → Links
on_tail lk c s = links (set_if_none (get_or lk.last c 0) lk.first c (suc s)) (set lk.last c (suc s)) (set (set_if_some (get_or lk.last c 0) lk.next (suc s)) s 0) (set lk.back s (get_or lk.last c 0)) (mark_if_none (get_or lk.last c 0) lk.busy c)

abbrev off_free : Links → ℕ → Links
off_free lk s = links (set lk.first free_chain (get_or lk.next s 0)) (set_if_none (get_or lk.next s 0) lk.last free_chain 0) lk.next lk.back lk.busy

abbrev off_tail : Links → ℕ → Links
off_tail lk s = links (set_if_none (get_or lk.back s 0) lk.first 0 0) (set lk.last 0 (get_or lk.back s 0)) (set_if_some (get_or lk.back s 0) lk.next 0) lk.back (unmark_if_none (get_or lk.back s 0) lk.busy 0)

abbrev to_free : Links → ℕ → Links
to_free lk s = links (set lk.first free_chain (suc s)) (set_if_none (get_or lk.first free_chain 0) lk.last free_chain (suc s)) (set lk.next s (get_or lk.first free_chain 0)) (set lk.back s 0) lk.busy

pub less_one : (t : ℕ) → suc t - 1 ≡ t
less_one t = omega arith

pub not_none : (n t : ℕ) → n ≡ suc t → eqb n 0 ≡ false
not_none n t e = ne_eqb n 0 (λ z. absurd (omega arith))

appended_is : (lk : Links) (c s : ℕ) → appended lk c s ≡ on_tail lk c s
unfolding appended
appended_is lk c s = go (get_or lk.last c 0) refl
  where
    go : (l : ℕ) → get_or lk.last c 0 ≡ l → appended lk c s ≡ on_tail lk c s
    go zero e = rw (eq-eqb (get_or lk.last c 0) 0 e, e, add-one s) refl
    go (suc t) e = rw (not_none (get_or lk.last c 0) t e, e, less_one t, add-one s) refl

unhooked_is : (lk : Links) (s : ℕ) → unhooked lk s ≡ off_free lk s
unfolding unhooked
unhooked_is lk s = go (get_or lk.next s 0) refl
  where
    go : (l : ℕ) → get_or lk.next s 0 ≡ l → unhooked lk s ≡ off_free lk s
    go zero e = rw (eq-eqb (get_or lk.next s 0) 0 e, e) refl
    go (suc t) e = rw (not_none (get_or lk.next s 0) t e, e) refl

cut_is : (lk : Links) (s p : ℕ) → p ≡ get_or lk.back s 0 → cut (eqb p 0) lk p ≡ off_tail lk s
unfolding cut
cut_is lk s zero q = rw (← q) refl
cut_is lk s (suc t) q = rw (not_none (suc t) t refl, ← q, less_one t) refl

freed_is : (lk : Links) (s l : ℕ) → l ≡ get_or lk.first free_chain 0 → freed (eqb l 0) lk s (suc s) ≡ to_free lk s
unfolding freed
freed_is lk s zero q = rw (← q) refl
freed_is lk s (suc t) q = rw (not_none (suc t) t refl, ← q) refl

-- ---- the conditional stores

length_set_if_none : (l : ℕ) (xs : List ℕ) (c v : ℕ) → length (set_if_none l xs c v) ≡ length xs
length_set_if_none zero xs c v = length-set xs c v
length_set_if_none (suc t) xs c v = refl

length_set_if_some : (l : ℕ) (xs : List ℕ) (v : ℕ) → length (set_if_some l xs v) ≡ length xs
length_set_if_some zero xs v = refl
length_set_if_some (suc t) xs v = length-set xs t v

set_if_none_other : (l : ℕ) (xs : List ℕ) (c v d : ℕ) → d ≢ c → get_or (set_if_none l xs c v) d 0 ≡ get_or xs d 0
set_if_none_other zero xs c v d n = get_or-set_other xs c d v 0 n
set_if_none_other (suc t) xs c v d n = refl

set_if_some_other : (l : ℕ) (xs : List ℕ) (v d : ℕ) → l ≢ suc d → get_or (set_if_some l xs v) d 0 ≡ get_or xs d 0
set_if_some_other zero xs v d n = refl
set_if_some_other (suc t) xs v d n = get_or-set_other xs t d v 0 (λ e. n (ap suc (sym e)))

-- a slot is not among those that are not hit
pub not_hit : (s x : ℕ) → hit s x ≡ 0 → s ≢ x
not_hit s x h e = let a : hit s x ≡ 1 = ap (λ (y : ℕ). hit y x) e ∙ hit_same x in omega arith

-- ---- append

append_linked : (next first l : List ℕ) (tail c s : ℕ) → Linked next (get_or first c 0) l → tail ≡ last_from 0 l → count s l ≡ 0
    → s < length next → ((t : ℕ) → On t l → t < length next) → ((t : ℕ) → count t l ≤ 1) → c < length first
    → Linked (set (set_if_some tail next (suc s)) s 0) (get_or (set_if_none tail first c (suc s)) c 0) (l ++ s ∷ [])
append_linked next first [] zero c s h e z k b o f = (get_or-set_same first c (suc s) 0 f, get_or-set_same next s 0 0 k)
append_linked next first [] (suc t) c s h e z k b o f = absurd (omega arith)
append_linked next first (x ∷ l) zero c s h e z k b o f = let r = last_some x l in absurd (omega (arith, r.1))
append_linked next first (x ∷ l) (suc t) c s h e z k b o f =
    let on : On t (x ∷ l) = last_on x t l (sym e) in
    let ts : t ≢ s = λ q. let a : count t (x ∷ l) ≡ count s (x ∷ l) = ap (λ (y : ℕ). count y (x ∷ l)) q in omega arith in
    let big : t < length next = b t on in
    linked_snoc next (set (set next t (suc s)) s 0) (get_or first c 0) s t x l h (sym e)
    (λ y n p. get_or-set_other (set next t (suc s)) s y 0 0 (λ q. let a : count y (x ∷ l) ≡ count s (x ∷ l) = ap (λ (i : ℕ). count i (x ∷ l)) q in omega arith)
    ∙ get_or-set_other next t y (suc s) 0 n)
    (get_or-set_other (set next t (suc s)) s t 0 0 ts ∙ get_or-set_same next t (suc s) 0 big)
    (get_or-set_same (set next t (suc s)) s 0 0 (rw (length-set next t (suc s)) k))
    (o t)

module _ {lk : Links} {ls : List (List ℕ)} {off : List ℕ} {s : ℕ} (c : ℕ) (k : c < free_chain) (h : Laid lk ls (s ∷ off)) where
  a_alone : count s (get_or ls c []) ≡ 0
  a_alone = let a = tally_ge s ls c in let b = laid_most h s in let e = hit_same s in omega arith

  a_inside : s < length lk.next
  a_inside = laid_inside h s (let e = hit_same s in omega arith)

  a_tail : (x : ℕ) → count x (get_or ls c []) ≡ 0 → get_or lk.last c 0 ≢ suc x
  a_tail x z e = let o = last_on0 x (get_or ls c []) (sym (h.ends c (omega arith)) ∙ e) in omega arith

  a_back : (x : ℕ) → x ≢ s → get_or (set lk.back s (get_or lk.last c 0)) x 0 ≡ get_or lk.back x 0
  a_back x n = get_or-set_other lk.back s x (get_or lk.last c 0) 0 n

  a_marks : (on_tail lk c s).busy ≡ summary (on_tail lk c s).first
  a_marks = go (get_or lk.last c 0)
    where
      go : (t : ℕ) → mark_if_none t lk.busy c ≡ summary (set_if_none t lk.first c (suc s))
      go zero = mark_summary lk.first h.marks c (suc s) (omega (arith, h.typed.firsts)) (omega arith)
      go (suc t) = h.marks

  on_touch : Touch lk (on_tail lk c s) ls (s ∷ off) c (get_or ls c [] ++ s ∷ []) off
  on_touch = record {
    typed = summed_typed (length_set_if_none (get_or lk.last c 0) lk.first c (suc s) ∙ h.typed.firsts) (length-set lk.last c (suc s) ∙ h.typed.lasts) a_marks;
    sized = length-set (set_if_some (get_or lk.last c 0) lk.next (suc s)) s 0 ∙ length_set_if_some (get_or lk.last c 0) lk.next (suc s);
    back_sized = length-set lk.back s (get_or lk.last c 0);
    first = λ d n. set_if_none_other (get_or lk.last c 0) lk.first c (suc s) d n;
    last = λ d n. get_or-set_other lk.last c d (suc s) 0 n;
    next = λ x z y. get_or-set_other (set_if_some (get_or lk.last c 0) lk.next (suc s)) s x 0 0 (not_hit x s (omega arith)) ∙ set_if_some_other (get_or lk.last c 0) lk.next (suc s) x (a_tail x z);
    back = λ x z y. a_back x (not_hit x s (omega arith));
    linked = append_linked lk.next lk.first (get_or ls c []) (get_or lk.last c 0) c s (h.linked c (omega arith)) (h.ends c (omega arith)) a_alone a_inside
        (λ t o. laid_inside h t (let a = tally_ge t ls c in omega arith)) (λ t. let a = tally_ge t ls c in let b = laid_most h t in omega arith)
        (let e = h.typed.firsts in omega arith);
    ends = get_or-set_same lk.last c (suc s) 0 (let e = h.typed.lasts in omega arith) ∙ sym (last_append 0 s (get_or ls c []));
    backed = λ q. backed_snoc (set lk.back s (get_or lk.last c 0)) 0 s (get_or ls c [])
        (backed_agree lk.back (set lk.back s (get_or lk.last c 0)) 0 (get_or ls c [])
        (λ x o. a_back x (λ e. let a : count x (get_or ls c []) ≡ 0 = ap (λ (y : ℕ). count y (get_or ls c [])) e ∙ a_alone in omega arith)) (h.backed c k))
        (get_or-set_same lk.back s (get_or lk.last c 0) 0 (let e = h.sized in let i = a_inside in omega arith) ∙ h.ends c (omega arith));
    freed = λ e. absurd (omega arith);
    counts = λ x. let a = count_append x (get_or ls c []) (s ∷ []) in omega arith;
    marks = a_marks;
  }

  pub append_touch : Touch lk (appended lk c s) ls (s ∷ off) c (get_or ls c [] ++ s ∷ []) off
  append_touch = subst (λ (x : Links). Touch lk x ls (s ∷ off) c (get_or ls c [] ++ s ∷ []) off) (sym (appended_is lk c s)) on_touch

-- the lists keep their lengths, whatever stands in them
pub appended_next : (lk : Links) (c s : ℕ) → length (appended lk c s).next ≡ length lk.next
appended_next lk c s = ap (λ (x : Links). length x.next) (appended_is lk c s) ∙ length-set (set_if_some (get_or lk.last c 0) lk.next (suc s)) s 0 ∙ length_set_if_some (get_or lk.last c 0) lk.next (suc s)

pub appended_back : (lk : Links) (c s : ℕ) → length (appended lk c s).back ≡ length lk.back
appended_back lk c s = ap (λ (x : Links). length x.back) (appended_is lk c s) ∙ length-set lk.back s (get_or lk.last c 0)

pub append_next : {lk : Links} {ls : List (List ℕ)} {off : List ℕ} {s : ℕ} (c : ℕ) (k : c < free_chain) → Laid lk ls (s ∷ off) → (x : ℕ) → x ≢ s → count x (get_or ls c []) ≡ 0
    → get_or (appended lk c s).next x 0 ≡ get_or lk.next x 0
append_next {lk} {ls} {off} {s} c k h x n z =
    ap (λ (y : Links). get_or y.next x 0) (appended_is lk c s)
    ∙ get_or-set_other (set_if_some (get_or lk.last c 0) lk.next (suc s)) s x 0 0 n ∙ set_if_some_other (get_or lk.last c 0) lk.next (suc s) x (a_tail c k h x z)

-- ---- the free chain

unhook_ends : (next last fs : List ℕ) (n s : ℕ) → Linked next n fs → get_or last free_chain 0 ≡ last_from (suc s) fs → free_chain < length last → get_or (set_if_none n last free_chain 0) free_chain 0 ≡ last_from 0 fs
unhook_ends next last [] zero s h e k = get_or-set_same last free_chain 0 0 k
unhook_ends next last [] (suc t) s h e k = absurd (omega arith)
unhook_ends next last (x ∷ fs) zero s h e k = absurd (omega arith)
unhook_ends next last (x ∷ fs) (suc t) s h e k = e

off_free_touch : {lk : Links} {ls : List (List ℕ)} {off : List ℕ} {s : ℕ} (fs : List ℕ) → Laid lk ls off → get_or ls free_chain [] ≡ s ∷ fs → Touch lk (off_free lk s) ls off free_chain fs (s ∷ off)
off_free_touch {lk} {ls} {off} {s} fs h e =
    let link : Linked lk.next (get_or lk.first free_chain 0) (s ∷ fs) = subst (Linked lk.next (get_or lk.first free_chain 0)) e (h.linked free_chain (omega arith)) in
    let fl : free_chain < length lk.first = let q = h.typed.firsts in omega arith in
    let ll : free_chain < length lk.last = let q = h.typed.lasts in omega arith in
    record {
      typed = record {
        firsts = length-set lk.first free_chain (get_or lk.next s 0) ∙ h.typed.firsts;
        lasts = length_set_if_none (get_or lk.next s 0) lk.last free_chain 0 ∙ h.typed.lasts;
        busies = h.typed.busies;
        busy_fits = h.typed.busy_fits;
      };
      sized = refl;
      back_sized = refl;
      first = λ d n. get_or-set_other lk.first free_chain d (get_or lk.next s 0) 0 n;
      last = λ d n. set_if_none_other (get_or lk.next s 0) lk.last free_chain 0 d n;
      next = λ x z y. refl;
      back = λ x z y. refl;
      linked = rw (get_or-set_same lk.first free_chain (get_or lk.next s 0) 0 fl) link.1;
      ends = unhook_ends lk.next lk.last fs (get_or lk.next s 0) s link.1 (h.ends free_chain (omega arith) ∙ ap (last_from 0) e) ll;
      backed = λ q. absurd (omega arith);
      freed = λ q x o. h.freed x (let a : count x (get_or ls free_chain []) ≡ hit x s + count x fs = ap (count x) e in omega arith);
      counts = λ x. let a : count x (get_or ls free_chain []) ≡ hit x s + count x fs = ap (count x) e in omega arith;
      marks = summary_past lk.first h.marks free_chain (get_or lk.next s 0) (omega arith);
    }

pub unhook_touch : {lk : Links} {ls : List (List ℕ)} {off : List ℕ} {s : ℕ} (fs : List ℕ) → Laid lk ls off → get_or ls free_chain [] ≡ s ∷ fs → Touch lk (unhooked lk s) ls off free_chain fs (s ∷ off)
unhook_touch {lk} {ls} {off} {s} fs h e = subst (λ (x : Links). Touch lk x ls off free_chain fs (s ∷ off)) (sym (unhooked_is lk s)) (off_free_touch fs h e)

release_ends : (next last fs : List ℕ) (n s : ℕ) → Linked next n fs → get_or last free_chain 0 ≡ last_from 0 fs → free_chain < length last → get_or (set_if_none n last free_chain (suc s)) free_chain 0 ≡ last_from (suc s) fs
release_ends next last [] zero s h e k = get_or-set_same last free_chain (suc s) 0 k
release_ends next last [] (suc t) s h e k = absurd (omega arith)
release_ends next last (x ∷ fs) zero s h e k = absurd (omega arith)
release_ends next last (x ∷ fs) (suc t) s h e k = e

to_free_touch : {lk : Links} {ls : List (List ℕ)} {off : List ℕ} {s : ℕ} → Laid lk ls (s ∷ off) → Touch lk (to_free lk s) ls (s ∷ off) free_chain (s ∷ get_or ls free_chain []) off
to_free_touch {lk} {ls} {off} {s} h =
    let fl : free_chain < length lk.first = let q = h.typed.firsts in omega arith in
    let ll : free_chain < length lk.last = let q = h.typed.lasts in omega arith in
    let inside : s < length lk.next = laid_inside h s (let e = hit_same s in omega arith) in
    let bl : s < length lk.back = let q = h.sized in omega arith in
    let alone : count s (get_or ls free_chain []) ≡ 0 = let a = tally_ge s ls free_chain in let b = laid_most h s in let e = hit_same s in omega arith in
    let other : (x : ℕ) → On x (get_or ls free_chain []) → x ≢ s = λ x o e. let a : count x (get_or ls free_chain []) ≡ 0 = ap (λ (y : ℕ). count y (get_or ls free_chain [])) e ∙ alone in omega arith in
    record {
      typed = record {
        firsts = length-set lk.first free_chain (suc s) ∙ h.typed.firsts;
        lasts = length_set_if_none (get_or lk.first free_chain 0) lk.last free_chain (suc s) ∙ h.typed.lasts;
        busies = h.typed.busies;
        busy_fits = h.typed.busy_fits;
      };
      sized = length-set lk.next s (get_or lk.first free_chain 0);
      back_sized = length-set lk.back s 0;
      first = λ d n. get_or-set_other lk.first free_chain d (suc s) 0 n;
      last = λ d n. set_if_none_other (get_or lk.first free_chain 0) lk.last free_chain (suc s) d n;
      next = λ x z y. get_or-set_other lk.next s x (get_or lk.first free_chain 0) 0 (not_hit x s (omega arith));
      back = λ x z y. get_or-set_other lk.back s x 0 0 (not_hit x s (omega arith));
      linked = (
        get_or-set_same lk.first free_chain (suc s) 0 fl,
        subst (λ (n : ℕ). Linked (set lk.next s (get_or lk.first free_chain 0)) n (get_or ls free_chain [])) (sym (get_or-set_same lk.next s (get_or lk.first free_chain 0) 0 inside))
            (linked_agree lk.next (set lk.next s (get_or lk.first free_chain 0)) (get_or lk.first free_chain 0) (get_or ls free_chain []) (λ x o. get_or-set_other lk.next s x (get_or lk.first free_chain 0) 0 (other x o)) (h.linked free_chain (omega arith))),
      );
      ends = release_ends lk.next lk.last (get_or ls free_chain []) (get_or lk.first free_chain 0) s (h.linked free_chain (omega arith)) (h.ends free_chain (omega arith)) ll;
      backed = λ q. absurd (omega arith);
      freed = λ q x o. free_back lk s (get_or ls free_chain []) bl other h.freed x o;
      counts = λ x. omega arith;
      marks = summary_past lk.first h.marks free_chain (suc s) (omega arith);
    }
  where
    free_back : (lk : Links) (s : ℕ) (fs : List ℕ) → s < length lk.back → ((x : ℕ) → On x fs → x ≢ s) → ((x : ℕ) → On x fs → get_or lk.back x 0 ≡ 0)
        → (x : ℕ) → On x (s ∷ fs) → get_or (set lk.back s 0) x 0 ≡ 0
    free_back lk s fs k n f x o = elim (hit_cases x s) [
      | inl e ↦ rw e (get_or-set_same lk.back s 0 0 k)
      | inr e ↦ (let p : On x fs = omega arith in get_or-set_other lk.back s x 0 0 (n x p) ∙ f x p)
    ]

pub release_touch : {lk : Links} {ls : List (List ℕ)} {off : List ℕ} {s : ℕ} → Laid lk ls (s ∷ off) → Touch lk (freed (eqb (get_or lk.first free_chain 0) 0) lk s (suc s)) ls (s ∷ off) free_chain (s ∷ get_or ls free_chain []) off
release_touch {lk} {ls} {off} {s} h = subst (λ (x : Links). Touch lk x ls (s ∷ off) free_chain (s ∷ get_or ls free_chain []) off) (sym (freed_is lk s (get_or lk.first free_chain 0) refl)) (to_free_touch h)

-- ---- the tail of bucket 0

detach_linked : (next first l : List ℕ) (p s : ℕ) → Linked next (get_or first 0 0) (l ++ s ∷ []) → p ≡ last_from 0 l → 0 < length first
    → ((t : ℕ) → On t l → t < length next) → ((t : ℕ) → count t l ≤ 1) → Linked (set_if_some p next 0) (get_or (set_if_none p first 0 0) 0 0) l
detach_linked next first [] zero s h e f b o = get_or-set_same first 0 0 0 f
detach_linked next first [] (suc t) s h e f b o = absurd (omega arith)
detach_linked next first (x ∷ l) zero s h e f b o = let r = last_some x l in absurd (omega (arith, r.1))
detach_linked next first (x ∷ l) (suc t) s h e f b o =
    linked_unsnoc next (set next t 0) (get_or first 0 0) s t x l h (sym e) (λ y n q. get_or-set_other next t y 0 0 n) (get_or-set_same next t 0 0 (b t (last_on x t l (sym e)))) (o t)

off_tail_touch : {lk : Links} {ls : List (List ℕ)} {off : List ℕ} {s : ℕ} (l : List ℕ) → Laid lk ls off → get_or ls 0 [] ≡ l ++ s ∷ [] → Touch lk (off_tail lk s) ls off 0 l (s ∷ off)
off_tail_touch {lk} {ls} {off} {s} l h e =
    let link : Linked lk.next (get_or lk.first 0 0) (l ++ s ∷ []) = subst (Linked lk.next (get_or lk.first 0 0)) e (h.linked 0 (omega arith)) in
    let bk = backed_unsnoc lk.back 0 s l (subst (Backed lk.back 0) e (h.backed 0 (omega arith))) in
    let fl : 0 < length lk.first = let q = h.typed.firsts in omega arith in
    let ll : 0 < length lk.last = let q = h.typed.lasts in omega arith in
    let cnt : (x : ℕ) → count x (get_or ls 0 []) ≡ count x l + hit x s = λ x. let a : count x (get_or ls 0 []) ≡ count x (l ++ s ∷ []) = ap (count x) e in let b = count_append x l (s ∷ []) in omega arith in
    record {
      typed = summed_typed (length_set_if_none (get_or lk.back s 0) lk.first 0 0 ∙ h.typed.firsts) (length-set lk.last 0 (get_or lk.back s 0) ∙ h.typed.lasts) marks;
      sized = length_set_if_some (get_or lk.back s 0) lk.next 0;
      back_sized = refl;
      first = λ d n. set_if_none_other (get_or lk.back s 0) lk.first 0 0 d n;
      last = λ d n. get_or-set_other lk.last 0 d (get_or lk.back s 0) 0 n;
      next = λ x z y. set_if_some_other (get_or lk.back s 0) lk.next 0 x (λ q. let o = last_on0 x l (sym bk.1 ∙ q) in let c = cnt x in omega arith);
      back = λ x z y. refl;
      linked = detach_linked lk.next lk.first l (get_or lk.back s 0) s link bk.1 fl
          (λ t o. laid_inside h t (let a = tally_ge t ls 0 in let c = cnt t in omega arith)) (λ t. let a = tally_ge t ls 0 in let b = laid_most h t in let c = cnt t in omega arith);
      ends = get_or-set_same lk.last 0 (get_or lk.back s 0) 0 ll ∙ bk.1;
      backed = λ q. bk.0;
      freed = λ q. absurd (omega arith);
      counts = λ x. let c = cnt x in omega arith;
      marks = marks;
    }
  where
    go : (t : ℕ) → unmark_if_none t lk.busy 0 ≡ summary (set_if_none t lk.first 0 0)
    go zero = unmark_summary lk.first h.marks 0 (omega (arith, h.typed.firsts))
    go (suc t) = h.marks

    marks : (off_tail lk s).busy ≡ summary (off_tail lk s).first
    marks = go (get_or lk.back s 0)

pub detach_touch : {lk : Links} {ls : List (List ℕ)} {off : List ℕ} {s : ℕ} (l : List ℕ) → Laid lk ls off → get_or ls 0 [] ≡ l ++ s ∷ []
    → Touch lk (cut (eqb (get_or lk.back s 0) 0) lk (get_or lk.back s 0)) ls off 0 l (s ∷ off)
detach_touch {lk} {ls} {off} {s} l h e = subst (λ (x : Links). Touch lk x ls off 0 l (s ∷ off)) (sym (cut_is lk s (get_or lk.back s 0) refl)) (off_tail_touch l h e)

-- ---- a chain is emptied

pub empty_touch : {lk : Links} {ls : List (List ℕ)} (c : ℕ) → c < free_chain → Laid lk ls [] → Touch lk (emptied lk c) ls [] c [] (get_or ls c [])
unfolding emptied
empty_touch {lk} {ls} c k h = record {
  typed = summed_typed (length-set lk.first c 0 ∙ h.typed.firsts) (length-set lk.last c 0 ∙ h.typed.lasts) marks;
  sized = refl;
  back_sized = refl;
  first = λ d n. get_or-set_other lk.first c d 0 0 n;
  last = λ d n. get_or-set_other lk.last c d 0 0 n;
  next = λ x z y. refl;
  back = λ x z y. refl;
  linked = get_or-set_same lk.first c 0 0 (let q = h.typed.firsts in omega arith);
  ends = get_or-set_same lk.last c 0 0 (let q = h.typed.lasts in omega arith);
  backed = λ q. tt;
  freed = λ q x o. absurd (omega arith);
  counts = λ x. omega arith;
  marks = marks;
}
  where
    marks : unmarked lk.busy c ≡ summary (set lk.first c 0)
    marks = unmark_summary lk.first h.marks c (omega (arith, h.typed.firsts))
