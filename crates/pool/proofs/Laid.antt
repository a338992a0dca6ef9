-- A pool laid out as given chains, with some slots off every chain; and what a change to one chain leaves of it.
use mathlib.Core.Path.{◌≡◌, sym, ap, ◌∙◌, subst}
use mathlib.Core.Logic.{◌≢◌}
use mathlib.Core.Bool.{true, false}
use mathlib.Core.List.{List, []}
use Prim.Native.Nat.{ℕ, ◌+◌, ◌≤◌, ◌<◌}
use native.Mathlib.Nat.{zero-add, add-zero}
use native.Mathlib.Omega.{arith}
use native.Mathlib.Decide.{ℕ_discrete, dec_lt}
use lib.ListN.{length, get_or, set, length-set}
use lib.Seq.{ext_get_or, get_or-set_same, get_or-set_other}
use Rattle.keys.specs.Ordered.{proper}
use Rattle.pool.specs.Chain.{count, tally, total, tab, walk, Linked, Backed, last_from, On}
use Rattle.pool.proofs.Chains.{tally_set, tally_ge2, total_set}
use Rattle.pool.proofs.Chains.{length_tab, get_d_tab, sum_tally, sum_ones, walk_linked, linked_agree, backed_agree, no_slots, count_join, length_join}
use Rattle.pool.specs.World.{waiting_chain, free_chain, chain_count, Links, World, size, first_of, chain, chains, busy_chains, word0, word1, home, under}
use Rattle.pool.specs.Marks.{summary}
use Rattle.pool.specs.Sound.{Typed, Fit, Sound}
use Rattle.pool.proofs.Marks.{Words, summary_words}
use Rattle.pool.proofs.Exam.{s_place, home_topped, home_untopped, under_proper, under_topped, distance_at_le, chains_total, sound_full, sound_once, sound_only, sound_counted, sound_marks, marks_bits, marks_rest}

-- arrays of the types' sizes, with busy words that are a summary
pub summed_typed : {lk : Links} → length lk.first ≡ chain_count → length lk.last ≡ chain_count → lk.busy ≡ summary lk.first → Typed lk
summed_typed {lk} f l e =
    let t : Words lk.busy = subst Words (sym e) (summary_words lk.first) in
    record { firsts = f; lasts = l; busies = t.three; busy_fits = t.fit }

-- the chains are `ls`, and the slots of `off` stand on none
pub record Laid (lk : Links) (ls : List (List ℕ)) (off : List ℕ) : Type 0 where
  pub typed : Typed lk
  pub sized : length lk.back ≡ length lk.next
  pub many : length ls ≡ chain_count
  pub linked : (c : ℕ) → c < chain_count → Linked lk.next (get_or lk.first c 0) (get_or ls c [])
  pub ends : (c : ℕ) → c < chain_count → get_or lk.last c 0 ≡ last_from 0 (get_or ls c [])
  pub backed : (c : ℕ) → c < free_chain → Backed lk.back 0 (get_or ls c [])
  pub freed : (s : ℕ) → On s (get_or ls free_chain []) → get_or lk.back s 0 ≡ 0
  pub once : (s : ℕ) → s < length lk.next → tally s ls + count s off ≡ 1
  pub only : (s : ℕ) → length lk.next ≤ s → tally s ls + count s off ≡ 0
  pub marks : lk.busy ≡ summary lk.first

-- chain c becomes `l`, and the slots off every chain become `off'`: nothing else is touched
pub record Touch (lk lk' : Links) (ls : List (List ℕ)) (off : List ℕ) (c : ℕ) (l off' : List ℕ) : Type 0 where
  pub typed : Typed lk'
  pub sized : length lk'.next ≡ length lk.next
  pub back_sized : length lk'.back ≡ length lk.back
  pub first : (d : ℕ) → d ≢ c → get_or lk'.first d 0 ≡ get_or lk.first d 0
  pub last : (d : ℕ) → d ≢ c → get_or lk'.last d 0 ≡ get_or lk.last d 0
  pub next : (s : ℕ) → count s (get_or ls c []) ≡ 0 → count s off ≡ 0 → get_or lk'.next s 0 ≡ get_or lk.next s 0
  pub back : (s : ℕ) → count s (get_or ls c []) ≡ 0 → count s off ≡ 0 → get_or lk'.back s 0 ≡ get_or lk.back s 0
  pub linked : Linked lk'.next (get_or lk'.first c 0) l
  pub ends : get_or lk'.last c 0 ≡ last_from 0 l
  pub backed : c < free_chain → Backed lk'.back 0 l
  pub freed : c ≡ free_chain → (s : ℕ) → On s l → get_or lk'.back s 0 ≡ 0
  pub counts : (s : ℕ) → count s l + count s off' ≡ count s (get_or ls c []) + count s off
  pub marks : lk'.busy ≡ summary lk'.first

module _ {lk : Links} {ls : List (List ℕ)} {off : List ℕ} (h : Laid lk ls off) where
  -- no slot is counted twice
  pub laid_most : (s : ℕ) → tally s ls + count s off ≤ 1
  laid_most s = elim (dec_lt s (length lk.next)) [ yes p ↦ (let e = h.once s p in omega arith) | no p ↦ (let e = h.only s (omega arith) in omega arith) ]

  pub laid_inside : (s : ℕ) → 1 ≤ tally s ls + count s off → s < length lk.next
  laid_inside s o = elim (dec_lt s (length lk.next)) [ yes p ↦ p | no p ↦ absurd (let e = h.only s (omega arith) in omega arith) ]

  -- a slot of one chain is on no other, and not off
  pub laid_apart : (c d s : ℕ) → d ≢ c → On s (get_or ls d []) → (count s (get_or ls c []) ≡ 0) × (count s off ≡ 0)
  laid_apart c d s n o =
      let a = tally_ge2 s ls d c n in
      let m = laid_most s in
      (omega arith, omega arith)

  module _ {lk' : Links} {c : ℕ} {l off' : List ℕ} (k : c < chain_count) (t : Touch lk lk' ls off c l off') where
    in_list : c < length ls
    in_list = let e = h.many in omega arith

    same : (d : ℕ) → d ≢ c → get_or (set ls c l) d [] ≡ get_or ls d []
    same d n = get_or-set_other ls c d l [] n

    here : (d : ℕ) → d ≡ c → get_or (set ls c l) d [] ≡ l
    here d e = ap (λ (x : ℕ). get_or (set ls c l) x []) e ∙ get_or-set_same ls c l [] in_list

    t_next : (d : ℕ) → d ≢ c → (s : ℕ) → On s (get_or ls d []) → get_or lk'.next s 0 ≡ get_or lk.next s 0
    t_next d n s o = let a = laid_apart c d s n o in t.next s a.0 a.1

    t_back : (d : ℕ) → d ≢ c → (s : ℕ) → On s (get_or ls d []) → get_or lk'.back s 0 ≡ get_or lk.back s 0
    t_back d n s o = let a = laid_apart c d s n o in t.back s a.0 a.1

    t_linked : (d : ℕ) → d < chain_count → Dec (d ≡ c) → Linked lk'.next (get_or lk'.first d 0) (get_or (set ls c l) d [])
    t_linked d q (yes e) = rw (here d e) (subst (λ (x : ℕ). Linked lk'.next (get_or lk'.first x 0) l) (sym e) t.linked)
    t_linked d q (no n) = rw (same d n, t.first d n) (linked_agree lk.next lk'.next (get_or lk.first d 0) (get_or ls d []) (t_next d n) (h.linked d q))

    t_ends : (d : ℕ) → d < chain_count → Dec (d ≡ c) → get_or lk'.last d 0 ≡ last_from 0 (get_or (set ls c l) d [])
    t_ends d q (yes e) = rw (here d e) (ap (λ (x : ℕ). get_or lk'.last x 0) e ∙ t.ends)
    t_ends d q (no n) = rw (same d n) (t.last d n ∙ h.ends d q)

    t_backed : (d : ℕ) → d < free_chain → Dec (d ≡ c) → Backed lk'.back 0 (get_or (set ls c l) d [])
    t_backed d q (yes e) = rw (here d e) (t.backed (omega arith))
    t_backed d q (no n) = rw (same d n) (backed_agree lk.back lk'.back 0 (get_or ls d []) (t_back d n) (h.backed d q))

    t_freed : Dec (free_chain ≡ c) → (s : ℕ) → On s (get_or (set ls c l) free_chain []) → get_or lk'.back s 0 ≡ 0
    t_freed (yes e) s o = t.freed (sym e) s (subst (On s) (here free_chain e) o)
    t_freed (no n) s o =
        let o' : On s (get_or ls free_chain []) = subst (On s) (same free_chain n) o in
        t_back free_chain n s o' ∙ h.freed s o'

    t_count : (s : ℕ) → tally s (set ls c l) + count s off' ≡ tally s ls + count s off
    t_count s = let a = tally_set s ls c l in_list in let b = t.counts s in omega arith

    pub touch_laid : Laid lk' (set ls c l) off'
    touch_laid = record {
      typed = t.typed;
      sized = t.back_sized ∙ h.sized ∙ sym t.sized;
      many = length-set ls c l ∙ h.many;
      linked = λ d q. t_linked d q (ℕ_discrete d c);
      ends = λ d q. t_ends d q (ℕ_discrete d c);
      backed = λ d q. t_backed d q (ℕ_discrete d c);
      freed = t_freed (ℕ_discrete free_chain c);
      once = λ s q. t_count s ∙ h.once s (subst (λ (n : ℕ). s < n) t.sized q);
      only = λ s q. t_count s ∙ h.only s (subst (λ (n : ℕ). n ≤ s) t.sized q);
      marks = t.marks;
    }

-- ---- with no slot off the chains

module _ {lk : Links} {ls : List (List ℕ)} (h : Laid lk ls []) where
  pub laid_total : total ls ≡ length lk.next
  laid_total =
      sym (sum_tally (length lk.next) ls (λ s k. let e = h.only s k in omega arith))
      ∙ sum_ones (length lk.next) (λ s. tally s ls) (λ s k. let e = h.once s k in omega arith)

  chain_short : (c : ℕ) → c < chain_count → length (get_or ls c []) ≤ length lk.next
  chain_short c k =
      let a = total_set ls c [] (let e = h.many in omega arith) in
      let b = laid_total in
      omega arith

  pub laid_chain : (c : ℕ) → c < chain_count → walk (length lk.next) lk.next (get_or lk.first c 0) ≡ get_or ls c []
  laid_chain c k = walk_linked (length lk.next) lk.next (get_or lk.first c 0) (get_or ls c []) (h.linked c k) (chain_short c k)

-- ---- at a world

pub laid_chains : (w : World) {ls : List (List ℕ)} → Laid w.links ls [] → chains w ≡ ls
unfolding chains
laid_chains w {ls} h = go chain_count h.many (laid_chain h)
  where
    go : (k : ℕ) → length ls ≡ k → ((c : ℕ) → c < k → chain w c ≡ get_or ls c []) → tab (chain w) 0 k ≡ ls
    go k e f = ext_get_or [] (tab (chain w) 0 k) ls (length_tab (chain w) 0 k ∙ sym e)
        (λ c q. let b : c < k = subst (λ (n : ℕ). c < n) (length_tab (chain w) 0 k) q in get_d_tab (chain w) 0 k c [] b ∙ ap (chain w) (zero-add c) ∙ f c b)

-- ---- what stands in the slots

pub record Filed (w : World) (ls : List (List ℕ)) : Type 0 where
  pub belongs : (c : ℕ) → c < free_chain → (s : ℕ) → On s (get_or ls c []) → home w s ≡ c
  pub below : (c : ℕ) → c < free_chain → (s : ℕ) → On s (get_or ls c []) → under w s ≡ true
  pub zero0 : (s : ℕ) → On s (get_or ls free_chain []) → word0 w s ≡ 0
  pub zero1 : (s : ℕ) → On s (get_or ls free_chain []) → word1 w s ≡ 0
  pub zero_value : (s : ℕ) → On s (get_or ls free_chain []) → get_or w.values s 0 ≡ 0
  pub counted : w.head.len + length (get_or ls free_chain []) ≡ size w
  pub no_top0 : w.head.topped ≡ false → w.head.top0 ≡ 0
  pub no_top1 : w.head.topped ≡ false → w.head.top1 ≡ 0
  pub top_of_kind : proper w.head.kind w.head.top0 w.head.top1 ≡ true

-- fit, and sound with these chains
pub record Good (w : World) (ls : List (List ℕ)) : Type 0 where
  pub fit : Fit w
  pub laid : Laid w.links ls []
  pub filed : Filed w ls

-- chain c of the table
pub at_chains : (w : World) (c : ℕ) → c < chain_count → get_or (chains w) c [] ≡ chain w c
unfolding chains
at_chains w c k = get_d_tab (chain w) 0 chain_count c [] k ∙ ap (chain w) (zero-add c)

pub chains_many : (w : World) → length (chains w) ≡ chain_count
unfolding chains
chains_many w = length_tab (chain w) 0 chain_count

module _ (w : World) (f : Fit w) (t : Typed w.links) (h : Sound w) where
  on : (c : ℕ) → c < chain_count → (s : ℕ) → On s (get_or (chains w) c []) → On s (chain w c)
  on c k s = subst (On s) (at_chains w c k)

  pub sound_laid : Laid w.links (chains w) []
  sound_laid = record {
    typed = t;
    sized = f.some_backs;
    many = chains_many w;
    linked = λ c k. rw (at_chains w c k) (h.run c k);
    ends = λ c k. rw (at_chains w c k) (h.ends c k);
    backed = λ c k. rw (at_chains w c (omega arith)) (h.backs c k);
    freed = λ s o. h.free_backs s (on free_chain (omega arith) s o);
    once = λ s k. add-zero (tally s (chains w)) ∙ sound_once w h s k;
    only = λ s k. add-zero (tally s (chains w)) ∙ sound_only w h s k;
    marks = sound_marks w h t;
  }

  pub sound_filed : Filed w (chains w)
  sound_filed = record {
    belongs = λ c k s o. (s_place w h c k s (on c (omega arith) s o)).belongs;
    below = λ c k s o. (s_place w h c k s (on c (omega arith) s o)).below;
    zero0 = λ s o. h.zero_word0 s (on free_chain (omega arith) s o);
    zero1 = λ s o. h.zero_word1 s (on free_chain (omega arith) s o);
    zero_value = λ s o. h.zero_value s (on free_chain (omega arith) s o);
    counted = ap (λ (l : List ℕ). w.head.len + length l) (at_chains w free_chain (omega arith)) ∙ ap (λ (n : ℕ). n + length (chain w free_chain)) (sound_counted w h) ∙ sym (chains_total w) ∙ sound_full w h;
    no_top0 = h.no_top0;
    no_top1 = h.no_top1;
    top_of_kind = h.top_of_kind;
  }

  pub sound_good : Good w (chains w)
  sound_good = record { fit = f; laid = sound_laid; filed = sound_filed }

module _ {w : World} {ls : List (List ℕ)} (g : Good w ls) where
  g_on : (c : ℕ) → c < chain_count → (s : ℕ) → On s (chain w c) → On s (get_or ls c [])
  g_on c k s = subst (On s) (laid_chain g.laid c k)

  g_tally : (s : ℕ) → tally s (chains w) ≡ tally s ls + 0
  g_tally s = ap (tally s) (laid_chains w g.laid) ∙ sym (add-zero (tally s ls))

  g_counted : w.head.len ≡ total (busy_chains w)
  g_counted =
      let a = chains_total w in
      let b : total (chains w) ≡ total ls = ap total (laid_chains w g.laid) in
      let c = laid_total g.laid in
      let d = g.filed.counted in
      let e : length (chain w free_chain) ≡ length (get_or ls free_chain []) = ap length (laid_chain g.laid free_chain (omega arith)) in
      omega (arith, a, b, c, d, e)

  g_run : (c : ℕ) → c < chain_count → Linked w.links.next (first_of w c) (chain w c)
  g_run c k = rw (laid_chain g.laid c k) (g.laid.linked c k)

  pub good_sound : Sound w
  good_sound = record {
    once = λ s k. count_join s (chains w) ∙ g_tally s ∙ g.laid.once s k;
    only = λ s k. count_join s (chains w) ∙ g_tally s ∙ g.laid.only s k;
    run = g_run;
    ends = λ c k. rw (laid_chain g.laid c k) (g.laid.ends c k);
    backs = λ c k. rw (laid_chain g.laid c (omega arith)) (g.laid.backed c k);
    free_backs = λ s o. g.laid.freed s (g_on free_chain (omega arith) s o);
    no_first = λ c k e. subst (Linked w.links.next (first_of w c)) (sym (laid_chain g.laid c k) ∙ e) (g.laid.linked c k);
    no_last = λ c k e. g.laid.ends c k ∙ ap (last_from 0) (sym (laid_chain g.laid c k) ∙ e);
    busy_bits = marks_bits w g_run g.laid.marks;
    busy_rest = marks_rest w g_run g.laid.marks;
    counted = g_counted ∙ sym (length_join (busy_chains w));
    no_buckets = λ t c k. no_slots (chain w c) (λ s o. let a = g.filed.belongs c (omega arith) s (g_on c (omega arith) s o) in let b = home_untopped w s t in omega arith);
    no_top0 = g.filed.no_top0;
    no_top1 = g.filed.no_top1;
    no_waiting = λ t. no_slots (chain w waiting_chain) (λ s o. let a = g.filed.belongs waiting_chain (omega arith) s (g_on waiting_chain (omega arith) s o) in let b = home_topped w s t in let d = distance_at_le w s in omega arith);
    at_most = λ t c k s o. under_topped w s t (g.filed.below c (omega arith) s (g_on c (omega arith) s o));
    placed = λ t c k s o. sym (home_topped w s t) ∙ g.filed.belongs c (omega arith) s (g_on c (omega arith) s o);
    zero_word0 = λ s o. g.filed.zero0 s (g_on free_chain (omega arith) s o);
    zero_word1 = λ s o. g.filed.zero1 s (g_on free_chain (omega arith) s o);
    zero_value = λ s o. g.filed.zero_value s (g_on free_chain (omega arith) s o);
    of_kind = λ c k s o. under_proper w s (g.filed.below c k s (g_on c (omega arith) s o));
    top_of_kind = g.filed.top_of_kind;
  }
