-- The examination says what is sound.
use mathlib.Core.Path.{◌≡◌, refl, sym, ap, ◌∙◌, subst}
use mathlib.Core.Logic.{◌≢◌, inl, inr, ◌↔◌}
use mathlib.Core.Bool.{Bool, true, false, not, ◌&&◌, ◌||◌, true≢false, false≢true}
use mathlib.Core.List.{List, [], ◌∷◌}
use Prim.Native.Nat.{ℕ, zero, suc, ◌+◌, ◌*◌, ◌≤◌, ◌<◌, zero-le}
use native.Mathlib.Nat.{le_refl}
use native.Mathlib.Omega.{arith}
use native.Mathlib.Decide.{ℕ_discrete, dec_le, dec_lt}
use lib.Dec.{T, leb, ltb, eqb, leb→le, le→leb, ltb→lt, lt→ltb, eqb→eq}
use lib.ListN.{length, get_or}
use lib.Seq.{ext_get_or}
use Rattle.rule.proofs.Width.{distance_le}
use Rattle.keys.specs.Ordered.{proper}
use Rattle.keys.specs.Table.{kind_fits}
use Rattle.keys.proofs.Ordered.{width_le}
use Rattle.pool.specs.Chain.{count, tally, total, tab, walk, Linked, Backed, last_from, On}
use Rattle.pool.proofs.Chains.{hit_same, hit_cases, eqb_same}
use Rattle.pool.proofs.Chains.{tally_tab_suc, total_tab_suc, sum_tally, sum_full, sum_ones}
use Rattle.pool.proofs.Chains.{count_join, length_join, tally_home, tab_find, tab_none, tab_ge, no_slots, last_none, walk_linked, linked_once, linked_last, last_on0}
use Rattle.keys.specs.Ordered.{width, words}
use Rattle.pool.specs.World.{waiting_chain, free_chain, chain_count, World, key_at, top_key, distance_at, word0, word1, size, first_of, last_of, chain, chains, busy_chains}
use Rattle.pool.specs.Marks.{bit_at, flag, summary, same_words}
use Rattle.pool.specs.Sound.{limit, Typed, Fit, Sound}
use Rattle.pool.specs.World.{place, within, home, under}
use Rattle.pool.specs.Examine.{stands_at, empty_at, ok_busy, ok_free, gate, verify, apart, verify_busy, scan, scanned, fitting, headed, finish, examined}
use Rattle.pool.proofs.Marks.{flag_none, flag_some, summary_words, summary_bit, summary_rest, bits_summary}

-- ---- tests

pub true_of : (b : Bool) → T b → b ≡ true
true_of true t = refl
true_of false t = absurd t

T_of : {b : Bool} → b ≡ true → T b
T_of e = subst T (sym e) tt

pub eqb_is : (a b : ℕ) → eqb a b ≡ true → a ≡ b
eqb_is a b e = eqb→eq a b (T_of e)

pub is_eqb : (a b : ℕ) → a ≡ b → eqb a b ≡ true
is_eqb a b e = rw e (eqb_same b)

ltb_is : (a b : ℕ) → ltb a b ≡ true → a < b
ltb_is a b e = ltb→lt a b (T_of e)

is_ltb : (a b : ℕ) → a < b → ltb a b ≡ true
is_ltb a b h = true_of (ltb a b) (lt→ltb a b h)

pub leb_is : (a b : ℕ) → leb a b ≡ true → a ≤ b
leb_is a b e = leb→le a b (T_of e)

pub is_leb : (a b : ℕ) → a ≤ b → leb a b ≡ true
is_leb a b h = true_of (leb a b) (le→leb a b h)

and_left : (a b : Bool) → (a && b) ≡ true → a ≡ true
and_left true b e = refl
and_left false b e = e

and_right : (a b : Bool) → (a && b) ≡ true → b ≡ true
and_right true b e = e
and_right false b e = absurd (false≢true e)

pub and_both : (a b : Bool) → a ≡ true → b ≡ true → (a && b) ≡ true
and_both true b e f = f
and_both false b e f = e

and3 : (a b c : Bool) → (a && b && c) ≡ true → (a ≡ true) × (b ≡ true) × (c ≡ true)
and3 a b c e = let f = and_left (a && b) c e in (and_left a b f, and_right a b f, and_right (a && b) c e)

and4 : (a b c d : Bool) → (a && b && c && d) ≡ true → (a ≡ true) × (b ≡ true) × (c ≡ true) × (d ≡ true)
and4 a b c d e = let f = and3 a b c (and_left (a && b && c) d e) in (f.0, f.1, f.2, and_right (a && b && c) d e)

gate_open : (b : Bool) (n r : ℕ) → gate b n ≡ suc r → b ≡ true
gate_open true n r e = refl
gate_open false n r e = absurd (omega arith)

gate_same : (b : Bool) (n : ℕ) → b ≡ true → gate b n ≡ n
gate_same true n e = refl
gate_same false n e = absurd (false≢true e)

-- the three words of two lists are the same
module _ (a b : List ℕ) where
  same_words_lem : length a ≡ 3 → length b ≡ 3 → same_words a b ≡ true → a ≡ b
  unfolding same_words
  same_words_lem p q e = ext_get_or 0 a b (p ∙ sym q) at
    where
      each : (eqb (get_or a 0 0) (get_or b 0 0) ≡ true) × (eqb (get_or a 1 0) (get_or b 1 0) ≡ true) × (eqb (get_or a 2 0) (get_or b 2 0) ≡ true)
      each = and3 _ _ _ e

      at : (j : ℕ) → j < length a → get_or a j 0 ≡ get_or b j 0
      at zero l = eqb_is _ _ each.0
      at (suc zero) l = eqb_is _ _ each.1
      at (suc (suc zero)) l = eqb_is _ _ each.2
      at (suc (suc (suc j))) l = absurd (omega arith)

  words_same : a ≡ b → same_words a b ≡ true
  unfolding same_words
  words_same e = and_both _ _ (and_both _ _ (at 0) (at 1)) (at 2)
    where
      at : (j : ℕ) → eqb (get_or a j 0) (get_or b j 0) ≡ true
      at j = is_eqb _ _ (ap (λ (l : List ℕ). get_or l j 0) e)

-- ---- a walk

-- each step of the walk along these slots, after the link p, passes
abbrev pub Along : (ℕ → ℕ → Bool) → ℕ → List ℕ → Type 0
Along ok p [] = Unit {0}
Along ok p (s ∷ ss) = (ok p s ≡ true) × Along ok (suc s) ss

pub record Walked (ok : ℕ → ℕ → Bool) (next : List ℕ) (end p l : ℕ) (ss : List ℕ) : Type 0 where
  pub linked : Linked next l ss
  pub along : Along ok p ss
  pub ends : last_from p ss ≡ end

module _ (ok : ℕ → ℕ → Bool) (next : List ℕ) (end : ℕ) where
  pub verify_sound : (left p l r : ℕ) → verify ok next end left p l ≡ suc r → (ss : List ℕ) × Walked ok next end p l ss × (left ≡ r + length ss)
  unfolding verify
  verify_sound zero p zero r e =
      let b = gate_open (eqb p end) 1 r e in
      let v : gate (eqb p end) 1 ≡ 1 = gate_same (eqb p end) 1 b in
      ([], record { linked = refl; along = tt; ends = eqb_is p end b }, omega arith)
  verify_sound zero p (suc s) r e = absurd (omega arith)
  verify_sound (suc left) p zero r e =
      let b = gate_open (eqb p end) (suc (suc left)) r e in
      let v : gate (eqb p end) (suc (suc left)) ≡ suc (suc left) = gate_same (eqb p end) (suc (suc left)) b in
      ([], record { linked = refl; along = tt; ends = eqb_is p end b }, omega arith)
  verify_sound (suc left) p (suc s) r e =
      let n : ℕ = verify ok next end left (suc s) (get_or next s 0) in
      let b : ok p s ≡ true = gate_open (ok p s) n r e in
      let i = verify_sound left (suc s) (get_or next s 0) r (sym (gate_same (ok p s) n b) ∙ e) in
      (s ∷ i.0, record { linked = (refl, i.1.linked); along = (b, i.1.along); ends = i.1.ends }, omega (arith, i.2))

  pub verify_complete : (ss : List ℕ) (left p l r : ℕ) → Walked ok next end p l ss → left ≡ r + length ss → verify ok next end left p l ≡ suc r
  unfolding verify
  verify_complete [] zero p l r h e = rw h.linked (gate_same (eqb p end) 1 (is_eqb p end h.ends) ∙ omega arith)
  verify_complete [] (suc left) p l r h e = rw h.linked (gate_same (eqb p end) (suc (suc left)) (is_eqb p end h.ends) ∙ omega arith)
  verify_complete (s ∷ ss) zero p l r h e = absurd (omega arith)
  verify_complete (s ∷ ss) (suc left) p l r h e =
      rw h.linked.0 (gate_same (ok p s) (verify ok next end left (suc s) (get_or next s 0)) h.along.0
      ∙ verify_complete ss left (suc s) (get_or next s 0) r (record { linked = h.linked.1; along = h.along.1; ends = h.ends }) (omega arith))

-- a walk is the chain
walked_chain : (w : World) (ok : ℕ → ℕ → Bool) (end left r l : ℕ) → verify ok w.links.next end left 0 l ≡ suc r → left ≤ size w
    → Walked ok w.links.next end 0 l (walk (size w) w.links.next l) × (left ≡ r + length (walk (size w) w.links.next l))
walked_chain w ok end left r l e h =
    let i = verify_sound ok w.links.next end left 0 l r e in
    let q : walk (size w) w.links.next l ≡ i.0 = walk_linked (size w) w.links.next l i.0 i.1.linked (omega (arith, i.2)) in
    rw q (i.1, i.2)

-- ---- the chains that are not free

apart_is : (w : World) (c : ℕ) → apart w.links c ≡ true → last_of w c ≢ 0 → last_of w c ≢ last_of w free_chain
unfolding apart
apart_is w c e h = go (eqb (last_of w c) 0) (eqb (last_of w c) (last_of w free_chain)) refl refl e
  where
    go : (a b : Bool) → eqb (last_of w c) 0 ≡ a → eqb (last_of w c) (last_of w free_chain) ≡ b → (a || not b) ≡ true → last_of w c ≢ last_of w free_chain
    go true b p q r = absurd (h (eqb_is _ _ p))
    go false true p q r = absurd (false≢true r)
    go false false p q r = λ z. true≢false (sym (is_eqb _ _ z) ∙ q)

is_apart : (w : World) (c : ℕ) → (last_of w c ≢ 0 → last_of w c ≢ last_of w free_chain) → apart w.links c ≡ true
unfolding apart
is_apart w c h = go (eqb (last_of w c) 0) (eqb (last_of w c) (last_of w free_chain)) refl refl
  where
    go : (a b : Bool) → eqb (last_of w c) 0 ≡ a → eqb (last_of w c) (last_of w free_chain) ≡ b → (a || not b) ≡ true
    go true b p q = refl
    go false true p q = absurd (h (λ z. true≢false (sym (is_eqb _ _ z) ∙ p)) (eqb_is _ _ q))
    go false false p q = refl

pub record Chained (w : World) (c : ℕ) : Type 0 where
  pub walked : Walked (ok_busy w.head w.links w.keys c) w.links.next (last_of w c) 0 (first_of w c) (chain w c)
  pub alone : last_of w c ≢ 0 → last_of w c ≢ last_of w free_chain

module _ (w : World) where
  busy_sound : (c left r : ℕ) → verify_busy w.head w.links w.keys c left ≡ suc r → left ≤ size w → Chained w c × (left ≡ r + length (chain w c))
  unfolding verify_busy
  busy_sound c left r e h =
      let n : ℕ = verify (ok_busy w.head w.links w.keys c) w.links.next (last_of w c) left 0 (first_of w c) in
      let b : apart w.links c ≡ true = gate_open (apart w.links c) n r e in
      let i = walked_chain w (ok_busy w.head w.links w.keys c) (last_of w c) left r (first_of w c) (sym (gate_same (apart w.links c) n b) ∙ e) h in
      (record { walked = i.0; alone = apart_is w c b }, i.1)

  busy_complete : (c left r : ℕ) → Chained w c → left ≡ r + length (chain w c) → verify_busy w.head w.links w.keys c left ≡ suc r
  unfolding verify_busy
  busy_complete c left r h e =
      gate_same (apart w.links c) _ (is_apart w c h.alone) ∙ verify_complete (ok_busy w.head w.links w.keys c) w.links.next (last_of w c) (chain w c) left 0 (first_of w c) r h.walked e

  scan_none : (k c : ℕ) → scan w.head w.links w.keys k c 0 ≡ 0
  unfolding scan
  scan_none zero c = refl
  scan_none (suc k) c = refl

  scan_sound : (k c left r : ℕ) → scan w.head w.links w.keys k c (suc left) ≡ suc r → left ≤ size w
      → ((d : ℕ) → c ≤ d → d < c + k → Chained w d) × (left ≡ r + total (tab (chain w) c k))
  unfolding scan
  scan_sound zero c left r e h = (λ d p q. absurd (omega arith), omega arith)
  scan_sound (suc k) c left r e h = go (verify_busy w.head w.links w.keys c left) refl (λ l. scan_sound k (suc c) l r)
    where
      go : (v : ℕ) → verify_busy w.head w.links w.keys c left ≡ v
          → ((l : ℕ) → scan w.head w.links w.keys k (suc c) (suc l) ≡ suc r → l ≤ size w → ((d : ℕ) → suc c ≤ d → d < suc c + k → Chained w d) × (l ≡ r + total (tab (chain w) (suc c) k)))
          → ((d : ℕ) → c ≤ d → d < c + suc k → Chained w d) × (left ≡ r + (length (chain w c) + total (tab (chain w) (suc c) k)))
      go zero p ih = let z : 0 ≡ suc r = sym (scan_none k (suc c)) ∙ ap (scan w.head w.links w.keys k (suc c)) (sym p) ∙ e in absurd (omega arith)
      go (suc l) p ih =
          let i = busy_sound c left l p h in
          let j = ih l (ap (scan w.head w.links w.keys k (suc c)) (sym p) ∙ e) (omega (arith, i.1)) in
          ((λ d a b. elim (ℕ_discrete c d) [ yes q ↦ rw (← q) i.0 | no q ↦ j.0 d (omega arith) (omega arith) ]), omega (arith, i.1, j.1))

  scan_complete : (k c left r : ℕ) → ((d : ℕ) → c ≤ d → d < c + k → Chained w d) → left ≡ r + total (tab (chain w) c k) → scan w.head w.links w.keys k c (suc left) ≡ suc r
  unfolding scan
  scan_complete zero c left r h e = omega arith
  scan_complete (suc k) c left r h e =
      let v = busy_complete c left (r + total (tab (chain w) (suc c) k)) (h c (le_refl c) (omega arith)) (omega arith) in
      ap (scan w.head w.links w.keys k (suc c)) v ∙ scan_complete k (suc c) (r + total (tab (chain w) (suc c) k)) r (λ d a b. h d (omega arith) (omega arith)) refl

-- ---- what the steps say

-- a slot on a chain that is not free
pub record InPlace (w : World) (c s : ℕ) : Type 0 where
  pub inside : s < size w
  pub belongs : home w s ≡ c
  pub below : under w s ≡ true

pub record Blank (w : World) (s : ℕ) : Type 0 where
  pub inside : s < size w
  pub no_back : get_or w.links.back s 0 ≡ 0
  pub no_word0 : word0 w s ≡ 0
  pub no_word1 : word1 w s ≡ 0
  pub no_value : get_or w.values s 0 ≡ 0

module _ (w : World) where
  busy_step : (c p s : ℕ) → ok_busy w.head w.links w.keys c p s ≡ true → InPlace w c s × (get_or w.links.back s 0 ≡ p)
  unfolding ok_busy stands_at
  busy_step c p s e =
      let i = and_left (ltb s (size w)) (stands_at w.head w.keys w.links.back c p s) e in
      let f = and3 (eqb (get_or w.links.back s 0) p) (under w s) (eqb (home w s) c) (and_right (ltb s (size w)) (stands_at w.head w.keys w.links.back c p s) e) in
      (record { inside = ltb_is _ _ i; belongs = eqb_is _ _ f.2; below = f.1 }, eqb_is _ _ f.0)

  step_busy : (c p s : ℕ) → InPlace w c s → get_or w.links.back s 0 ≡ p → ok_busy w.head w.links w.keys c p s ≡ true
  unfolding ok_busy stands_at
  step_busy c p s h b = and_both _ _ (is_ltb _ _ h.inside) (and_both _ _ (and_both _ _ (is_eqb _ _ b) h.below) (is_eqb _ _ h.belongs))

  free_step : (p s : ℕ) → ok_free w.head.kind w.links w.keys w.values p s ≡ true → Blank w s
  unfolding ok_free empty_at
  free_step p s e =
      let t = empty_at w.head.kind w.keys w.values w.links.back s in
      let f = and4 (eqb (get_or w.links.back s 0) 0) (eqb (word0 w s) 0) (eqb (word1 w s) 0) (eqb (get_or w.values s 0) 0) (and_right (ltb s (size w)) t e) in
      record {
        inside = ltb_is _ _ (and_left (ltb s (size w)) t e);
        no_back = eqb_is _ _ f.0;
        no_word0 = eqb_is _ _ f.1;
        no_word1 = eqb_is _ _ f.2;
        no_value = eqb_is _ _ f.3;
      }

  step_free : (p s : ℕ) → Blank w s → ok_free w.head.kind w.links w.keys w.values p s ≡ true
  unfolding ok_free empty_at
  step_free p s h =
      and_both _ _ (is_ltb _ _ h.inside) (and_both _ _ (and_both _ _ (and_both _ _ (is_eqb _ _ h.no_back) (is_eqb _ _ h.no_word0)) (is_eqb _ _ h.no_word1)) (is_eqb _ _ h.no_value))

  along_place : (c p : ℕ) (ss : List ℕ) → Along (ok_busy w.head w.links w.keys c) p ss → (s : ℕ) → On s ss → InPlace w c s
  along_place c p [] a s o = absurd (omega arith)
  along_place c p (x ∷ ss) a s o = elim (hit_cases s x) [
    | inl e ↦ rw e (busy_step c p x a.0).0
    | inr e ↦ along_place c (suc x) ss a.1 s (omega arith)
  ]

  along_backed : (c p : ℕ) (ss : List ℕ) → Along (ok_busy w.head w.links w.keys c) p ss → Backed w.links.back p ss
  along_backed c p [] a = tt
  along_backed c p (x ∷ ss) a = ((busy_step c p x a.0).1, along_backed c (suc x) ss a.1)

  backed_along : (c p : ℕ) (ss : List ℕ) → Backed w.links.back p ss → ((s : ℕ) → On s ss → InPlace w c s) → Along (ok_busy w.head w.links w.keys c) p ss
  backed_along c p [] b h = tt
  backed_along c p (x ∷ ss) b h =
      let o = hit_same x in
      (step_busy c p x (h x (omega arith)) b.0, backed_along c (suc x) ss b.1 (λ s k. h s (omega arith)))

  along_blank : (p : ℕ) (ss : List ℕ) → Along (ok_free w.head.kind w.links w.keys w.values) p ss → (s : ℕ) → On s ss → Blank w s
  along_blank p [] a s o = absurd (omega arith)
  along_blank p (x ∷ ss) a s o = elim (hit_cases s x) [
    | inl e ↦ rw e (free_step p x a.0)
    | inr e ↦ along_blank (suc x) ss a.1 s (omega arith)
  ]

  blank_along : (p : ℕ) (ss : List ℕ) → ((s : ℕ) → On s ss → Blank w s) → Along (ok_free w.head.kind w.links w.keys w.values) p ss
  blank_along p [] h = tt
  blank_along p (x ∷ ss) h =
      let o = hit_same x in
      (step_free p x (h x (omega arith)), blank_along (suc x) ss (λ s k. h s (omega arith)))

-- ---- the busy words

module _ (w : World) (run : (c : ℕ) → c < chain_count → Linked w.links.next (first_of w c) (chain w c)) where
  -- the bit of a bucket's first link is 1 just if the bucket is not empty
  flag_empty : (b : ℕ) → b < waiting_chain → chain w b ≡ [] → flag (first_of w b) ≡ 0
  flag_empty b l e = flag_none (first_of w b) (subst (Linked w.links.next (first_of w b)) e (run b (omega arith)))

  flag_busy : (b : ℕ) → b < waiting_chain → chain w b ≢ [] → flag (first_of w b) ≡ 1
  flag_busy b l n = flag_some (first_of w b) (go (chain w b) (run b (omega arith)) n)
    where
      go : (ss : List ℕ) → Linked w.links.next (first_of w b) ss → ss ≢ [] → first_of w b ≢ 0
      go [] k z = absurd (z refl)
      go (s ∷ ss) k z = λ e. let f = k.0 in omega arith

  -- the words of a summary have the bits of a sound world, and no other words have them
  module _ (m : w.links.busy ≡ summary w.links.first) where
    flag_bit : (b : ℕ) → b < waiting_chain → bit_at w.links.busy b ≡ flag (first_of w b)
    flag_bit b l = ap (λ (x : List ℕ). bit_at x b) m ∙ summary_bit w.links.first b l

    pub marks_bits : (b : ℕ) → b < waiting_chain → (bit_at w.links.busy b ≡ 1) ↔ (chain w b ≢ [])
    marks_bits b l = ((λ e n. let f = flag_bit b l in let z = flag_empty b l n in omega arith), λ n. flag_bit b l ∙ flag_busy b l n)

    pub marks_rest : (b : ℕ) → waiting_chain ≤ b → bit_at w.links.busy b ≡ 0
    marks_rest b h = ap (λ (x : List ℕ). bit_at x b) m ∙ summary_rest w.links.first b h

  pub bits_marks : Typed w.links → ((b : ℕ) → b < waiting_chain → (bit_at w.links.busy b ≡ 1) ↔ (chain w b ≢ [])) → ((b : ℕ) → waiting_chain ≤ b → bit_at w.links.busy b ≡ 0)
      → w.links.busy ≡ summary w.links.first
  bits_marks t h = bits_summary w.links.first w.links.busy (record { three = t.busies; fit = t.busy_fits }) (λ b l. go b l (chain w b) refl)
    where
      go : (b : ℕ) → b < waiting_chain → (ss : List ℕ) → chain w b ≡ ss → bit_at w.links.busy b ≡ flag (first_of w b)
      go b l [] e = let z = flag_empty b l e in let n : bit_at w.links.busy b ≢ 1 = λ p. (h b l).0 p e in omega (arith, z, n)
      go b l (s ∷ ss) e = let n : chain w b ≢ [] = λ p. some_none (sym e ∙ p) in (h b l).1 n ∙ sym (flag_busy b l n)
        where
          some_none : s ∷ ss ≡ [] → ⊥
          some_none p = let z : suc (length ss) ≡ 0 = ap length p in omega arith

-- ---- what the examination finds

pub record Passed (w : World) : Type 0 where
  pub head : headed w.head ≡ true
  pub marks : w.links.busy ≡ summary w.links.first
  pub busy : (d : ℕ) → d < free_chain → Chained w d
  pub free : Walked (ok_free w.head.kind w.links w.keys w.values) w.links.next (last_of w free_chain) 0 (first_of w free_chain) (chain w free_chain)
  pub counted : w.head.len ≡ total (busy_chains w)
  pub full : total (busy_chains w) + length (chain w free_chain) ≡ size w

pub distance_at_le : (w : World) (s : ℕ) → distance_at w s ≤ 128
distance_at_le w s = let h = distance_le (width w.head.kind) (key_at w s) (top_key w) in let k = width_le w.head.kind in omega arith

pub home_topped : (w : World) (s : ℕ) → w.head.topped ≡ true → home w s ≡ distance_at w s
unfolding place
home_topped w s e = ap (λ (b : Bool). place b (distance_at w s)) e

pub home_untopped : (w : World) (s : ℕ) → w.head.topped ≡ false → home w s ≡ waiting_chain
unfolding place
home_untopped w s e = ap (λ (b : Bool). place b (distance_at w s)) e

-- a key that may stand is one of the kind, and at most the top
pub under_proper : (w : World) (s : ℕ) → under w s ≡ true → proper w.head.kind (word0 w s) (word1 w s) ≡ true
under_proper w s e = and_left (proper w.head.kind (word0 w s) (word1 w s)) (within w.head.topped (key_at w s) (top_key w)) e

pub under_topped : (w : World) (s : ℕ) → w.head.topped ≡ true → under w s ≡ true → key_at w s ≤ top_key w
unfolding within
under_topped w s t e =
    leb_is (key_at w s) (top_key w) (sym (ap (λ (b : Bool). within b (key_at w s) (top_key w)) t) ∙ and_right (proper w.head.kind (word0 w s) (word1 w s)) (within w.head.topped (key_at w s) (top_key w)) e)

pub is_under : (w : World) (s : ℕ) → proper w.head.kind (word0 w s) (word1 w s) ≡ true → within w.head.topped (key_at w s) (top_key w) ≡ true → under w s ≡ true
is_under w s p q = and_both (proper w.head.kind (word0 w s) (word1 w s)) (within w.head.topped (key_at w s) (top_key w)) p q

within_topped : (w : World) (s : ℕ) → w.head.topped ≡ true → key_at w s ≤ top_key w → within w.head.topped (key_at w s) (top_key w) ≡ true
unfolding within
within_topped w s t l = ap (λ (b : Bool). within b (key_at w s) (top_key w)) t ∙ is_leb (key_at w s) (top_key w) l

within_untopped : (w : World) (s : ℕ) → w.head.topped ≡ false → within w.head.topped (key_at w s) (top_key w) ≡ true
unfolding within
within_untopped w s t = ap (λ (b : Bool). within b (key_at w s) (top_key w)) t

-- the head's tests
headed_top0 : (w : World) → headed w.head ≡ true → w.head.topped ≡ false → w.head.top0 ≡ 0
unfolding headed
headed_top0 w e t = go w.head.topped (eqb w.head.top0 0) (eqb w.head.top1 0) (proper w.head.kind w.head.top0 w.head.top1) refl t e
  where
    go : (a b c d : Bool) → eqb w.head.top0 0 ≡ b → a ≡ false → ((a || (b && c)) && d) ≡ true → w.head.top0 ≡ 0
    go true b c d p q r = absurd (true≢false q)
    go false true c d p q r = eqb_is _ _ p
    go false false c d p q r = absurd (false≢true r)

headed_top1 : (w : World) → headed w.head ≡ true → w.head.topped ≡ false → w.head.top1 ≡ 0
unfolding headed
headed_top1 w e t = go w.head.topped (eqb w.head.top0 0) (eqb w.head.top1 0) (proper w.head.kind w.head.top0 w.head.top1) refl t e
  where
    go : (a b c d : Bool) → eqb w.head.top1 0 ≡ c → a ≡ false → ((a || (b && c)) && d) ≡ true → w.head.top1 ≡ 0
    go true b c d p q r = absurd (true≢false q)
    go false true true d p q r = eqb_is _ _ p
    go false true false d p q r = absurd (false≢true r)
    go false false c d p q r = absurd (false≢true r)

headed_kind : (w : World) → headed w.head ≡ true → proper w.head.kind w.head.top0 w.head.top1 ≡ true
unfolding headed
headed_kind w e = and_right (w.head.topped || (eqb w.head.top0 0 && eqb w.head.top1 0)) (proper w.head.kind w.head.top0 w.head.top1) e

is_headed : (w : World) → (w.head.topped ≡ false → w.head.top0 ≡ 0) → (w.head.topped ≡ false → w.head.top1 ≡ 0) → proper w.head.kind w.head.top0 w.head.top1 ≡ true → headed w.head ≡ true
unfolding headed
is_headed w a b c = and_both (w.head.topped || (eqb w.head.top0 0 && eqb w.head.top1 0)) (proper w.head.kind w.head.top0 w.head.top1) (top w.head.topped a b) c
  where
    top : (t : Bool) → (t ≡ false → w.head.top0 ≡ 0) → (t ≡ false → w.head.top1 ≡ 0) → (t || (eqb w.head.top0 0 && eqb w.head.top1 0)) ≡ true
    top true p q = refl
    top false p q = and_both (eqb w.head.top0 0) (eqb w.head.top1 0) (is_eqb _ _ (p refl)) (is_eqb _ _ (q refl))

module _ (w : World) (h : Passed w) where
  p_linked : (c : ℕ) → c < chain_count → Linked w.links.next (first_of w c) (chain w c)
  p_linked c k = elim (ℕ_discrete c free_chain) [ yes e ↦ subst (λ (d : ℕ). Linked w.links.next (first_of w d) (chain w d)) (sym e) h.free.linked | no e ↦ (h.busy c (omega arith)).walked.linked ]

  p_ends : (c : ℕ) → c < chain_count → last_of w c ≡ last_from 0 (chain w c)
  p_ends c k = elim (ℕ_discrete c free_chain) [ yes e ↦ subst (λ (d : ℕ). last_of w d ≡ last_from 0 (chain w d)) (sym e) (sym h.free.ends) | no e ↦ sym (h.busy c (omega arith)).walked.ends ]

  p_place : (c : ℕ) → c < free_chain → (s : ℕ) → On s (chain w c) → InPlace w c s
  p_place c k = along_place w c 0 (chain w c) (h.busy c k).walked.along

  p_blank : (s : ℕ) → On s (chain w free_chain) → Blank w s
  p_blank = along_blank w 0 (chain w free_chain) h.free.along

  p_inside : (c : ℕ) → c < chain_count → (s : ℕ) → On s (chain w c) → s < size w
  p_inside c k s o = go (ℕ_discrete c free_chain)
    where
      go : Dec (c ≡ free_chain) → s < size w
      go (yes e) = (p_blank s (subst (λ (d : ℕ). On s (chain w d)) e o)).inside
      go (no e) = (p_place c (omega arith) s o).inside

  p_tally : (s : ℕ) → tally s (chains w) ≡ tally s (busy_chains w) + count s (chain w free_chain)
  unfolding chains busy_chains
  p_tally s = tally_tab_suc s (chain w) 0 free_chain

  p_total : total (chains w) ≡ size w
  unfolding chains busy_chains
  p_total = total_tab_suc (chain w) 0 free_chain ∙ h.full

  p_busy : (s : ℕ) → tally s (busy_chains w) ≤ 1
  unfolding busy_chains
  p_busy s =
      (tally_home s (home w s) (chain w) free_chain 0 (λ d p q. linked_once w.links.next (first_of w d) s (chain w d) (p_linked d (omega arith)))
      (λ d p q o. (p_place d (omega arith) s o).belongs)).0

  -- a slot on the free chain is on no other
  p_apart : (s : ℕ) → On s (chain w free_chain) → 1 ≤ tally s (busy_chains w) → ⊥
  unfolding busy_chains
  p_apart s o b =
      let r = tab_find s (chain w) free_chain b in
      let d : ℕ = r.0 in
      let e : last_from 0 (chain w d) ≡ last_from 0 (chain w free_chain) = linked_last w.links.next (first_of w d) (first_of w free_chain) s 0 0 (chain w d) (chain w free_chain) (p_linked d (omega (arith, r.1))) h.free.linked r.2 o in
      (h.busy d r.1).alone (λ z. busy_some d r.2 ((h.busy d r.1).walked.ends ∙ z)) (sym (h.busy d r.1).walked.ends ∙ e ∙ h.free.ends)
    where
      busy_some : (d : ℕ) → On s (chain w d) → last_from 0 (chain w d) ≡ 0 → ⊥
      busy_some d p z = let q : On s [] = subst (On s) (last_none (chain w d) z) p in omega arith

  p_most : (s : ℕ) → tally s (chains w) ≤ 1
  p_most s = go (dec_le 1 (count s (chain w free_chain))) (dec_le 1 (tally s (busy_chains w)))
    where
      t : tally s (chains w) ≡ tally s (busy_chains w) + count s (chain w free_chain)
      t = p_tally s

      f : count s (chain w free_chain) ≤ 1
      f = linked_once w.links.next (first_of w free_chain) s (chain w free_chain) h.free.linked

      go : Dec (1 ≤ count s (chain w free_chain)) → Dec (1 ≤ tally s (busy_chains w)) → tally s (chains w) ≤ 1
      go (yes a) (yes b) = absurd (p_apart s a b)
      go (yes a) (no b) = omega (arith, t, f)
      go (no a) b = omega (arith, t, p_busy s)

  p_only : (s : ℕ) → size w ≤ s → tally s (chains w) ≡ 0
  unfolding chains
  p_only s k = tab_none s (chain w) chain_count (λ d q o. let i = p_inside d q s o in omega arith)

  p_once : (s : ℕ) → s < size w → tally s (chains w) ≡ 1
  p_once = sum_full (size w) (λ s. tally s (chains w)) (λ s k. p_most s) (let e = sum_tally (size w) (chains w) p_only in omega (arith, p_total))

  pub passed_sound : Sound w
  passed_sound = record {
    once = λ s k. count_join s (chains w) ∙ p_once s k;
    only = λ s k. count_join s (chains w) ∙ p_only s k;
    run = p_linked;
    ends = p_ends;
    backs = λ c k. along_backed w c 0 (chain w c) (h.busy c k).walked.along;
    free_backs = λ s o. (p_blank s o).no_back;
    no_first = λ c k e. subst (Linked w.links.next (first_of w c)) e (p_linked c k);
    no_last = λ c k e. p_ends c k ∙ ap (last_from 0) e;
    busy_bits = marks_bits w p_linked h.marks;
    busy_rest = marks_rest w p_linked h.marks;
    counted = h.counted ∙ sym (length_join (busy_chains w));
    no_buckets = λ t c k. no_slots (chain w c) (λ s o. let a = (p_place c (omega arith) s o).belongs in let b = home_untopped w s t in omega arith);
    no_top0 = headed_top0 w h.head;
    no_top1 = headed_top1 w h.head;
    no_waiting = λ t. no_slots (chain w waiting_chain) (λ s o. let a = (p_place waiting_chain (omega arith) s o).belongs in let b = home_topped w s t in let d = distance_at_le w s in omega arith);
    at_most = λ t c k s o. under_topped w s t (p_place c (omega arith) s o).below;
    placed = λ t c k s o. sym (home_topped w s t) ∙ (p_place c (omega arith) s o).belongs;
    zero_word0 = λ s o. (p_blank s o).no_word0;
    zero_word1 = λ s o. (p_blank s o).no_word1;
    zero_value = λ s o. (p_blank s o).no_value;
    of_kind = λ c k s o. under_proper w s (p_place c k s o).below;
    top_of_kind = headed_kind w h.head;
  }

chains_split : (w : World) (s : ℕ) → tally s (chains w) ≡ tally s (busy_chains w) + count s (chain w free_chain)
unfolding chains busy_chains
chains_split w s = tally_tab_suc s (chain w) 0 free_chain

pub chains_total : (w : World) → total (chains w) ≡ total (busy_chains w) + length (chain w free_chain)
unfolding chains busy_chains
chains_total w = total_tab_suc (chain w) 0 free_chain

busy_ge : (w : World) (s d : ℕ) → d < free_chain → count s (chain w d) ≤ tally s (busy_chains w)
unfolding busy_chains
busy_ge w s d h = tab_ge s (chain w) free_chain d h

module _ (w : World) (h : Sound w) where
  -- each slot is counted once over the chains, and nothing else is
  pub sound_once : (s : ℕ) → s < size w → tally s (chains w) ≡ 1
  sound_once s k = sym (count_join s (chains w)) ∙ h.once s k

  pub sound_only : (s : ℕ) → size w ≤ s → tally s (chains w) ≡ 0
  sound_only s k = sym (count_join s (chains w)) ∙ h.only s k

  pub sound_counted : w.head.len ≡ total (busy_chains w)
  sound_counted = h.counted ∙ length_join (busy_chains w)

  s_most : (s : ℕ) → tally s (chains w) ≤ 1
  s_most s = elim (dec_lt s (size w)) [ yes p ↦ (let e = sound_once s p in omega arith) | no p ↦ (let e = sound_only s (omega arith) in omega arith) ]

  s_inside : (s : ℕ) → 1 ≤ tally s (chains w) → s < size w
  s_inside s o = elim (dec_lt s (size w)) [ yes p ↦ p | no p ↦ absurd (let e = sound_only s (omega arith) in omega arith) ]

  s_home : (t : Bool) → w.head.topped ≡ t → (c : ℕ) → c < free_chain → (s : ℕ) → On s (chain w c) → (home w s ≡ c) × (under w s ≡ true)
  s_home true e c k s o = go (dec_lt c waiting_chain)
    where
      go : Dec (c < waiting_chain) → (home w s ≡ c) × (under w s ≡ true)
      go (yes p) = (home_topped w s e ∙ h.placed e c p s o, is_under w s (h.of_kind c k s o) (within_topped w s e (h.at_most e c p s o)))
      go (no p) =
          let q : c ≡ waiting_chain = omega arith in
          let o' : On s [] = subst (On s) (ap (chain w) q ∙ h.no_waiting e) o in
          absurd (omega arith)
  s_home false e c k s o = go (dec_lt c waiting_chain)
    where
      go : Dec (c < waiting_chain) → (home w s ≡ c) × (under w s ≡ true)
      go (yes p) =
          let o' : On s [] = subst (On s) (h.no_buckets e c p) o in
          absurd (omega arith)
      go (no p) = (home_untopped w s e ∙ omega arith, is_under w s (h.of_kind c k s o) (within_untopped w s e))

  pub s_place : (c : ℕ) → c < free_chain → (s : ℕ) → On s (chain w c) → InPlace w c s
  s_place c k s o =
      let a = chains_split w s in
      let b = busy_ge w s c k in
      let r = s_home w.head.topped refl c k s o in
      record { inside = s_inside s (omega arith); belongs = r.0; below = r.1 }

  pub s_blank : (s : ℕ) → On s (chain w free_chain) → Blank w s
  s_blank s o =
      let a = chains_split w s in
      record { inside = s_inside s (omega arith); no_back = h.free_backs s o; no_word0 = h.zero_word0 s o; no_word1 = h.zero_word1 s o; no_value = h.zero_value s o }

  s_alone : (c : ℕ) → c < free_chain → last_of w c ≢ 0 → last_of w c ≢ last_of w free_chain
  s_alone c k z e = go (last_of w c) refl
    where
      go : (l : ℕ) → last_of w c ≡ l → ⊥
      go zero p = z p
      go (suc t) p =
          let oc : On t (chain w c) = last_on0 t (chain w c) (sym (h.ends c (omega arith)) ∙ p) in
          let of : On t (chain w free_chain) = last_on0 t (chain w free_chain) (sym (h.ends free_chain (omega arith)) ∙ sym e ∙ p) in
          let a = chains_split w t in
          let b = busy_ge w t c k in
          let m = s_most t in
          omega arith

  pub sound_full : total (chains w) ≡ size w
  sound_full = sym (sum_tally (size w) (chains w) sound_only) ∙ sum_ones (size w) (λ s. tally s (chains w)) sound_once

  pub sound_marks : Typed w.links → w.links.busy ≡ summary w.links.first
  sound_marks t = bits_marks w h.run t h.busy_bits h.busy_rest

  sound_passed : Typed w.links → Passed w
  sound_passed t = record {
    head = is_headed w h.no_top0 h.no_top1 h.top_of_kind;
    marks = sound_marks t;
    busy = λ d k. record {
      walked = record {
        linked = h.run d (omega arith);
        along = backed_along w d 0 (chain w d) (h.backs d k) (s_place d k);
        ends = sym (h.ends d (omega arith));
      };
      alone = s_alone d k;
    };
    free = record { linked = h.run free_chain (omega arith); along = blank_along w 0 (chain w free_chain) s_blank; ends = sym (h.ends free_chain (omega arith)) };
    counted = sound_counted;
    full = sym (chains_total w) ∙ sound_full;
  }

-- ---- code 1

pub fitting_fit : (w : World) → fitting w ≡ true → Fit w
unfolding fitting
fitting_fit w e =
    let a : Bool = kind_fits w.head.kind && eqb (length w.keys) (words w.head.kind * size w) && eqb (length w.values) (size w) in
    let b : Bool = eqb (length w.links.back) (size w) in
    let k : Bool = kind_fits w.head.kind in
    let x : Bool = eqb (length w.keys) (words w.head.kind * size w) in
    let f = and_left a b (and_left (a && b) (leb (size w) limit) e) in
    let g = and_left (k && x) (eqb (length w.values) (size w)) f in
    record {
      kind_ok = and_left k x g;
      some_keys = eqb_is _ _ (and_right k x g);
      some_values = eqb_is _ _ (and_right (k && x) (eqb (length w.values) (size w)) f);
      some_backs = eqb_is _ _ (and_right a b (and_left (a && b) (leb (size w) limit) e));
      small = leb_is _ _ (and_right (a && b) (leb (size w) limit) e);
    }

pub fit_fitting : (w : World) → Fit w → fitting w ≡ true
unfolding fitting
fit_fitting w h =
    and_both _ _ (and_both _ _ (and_both _ _ (and_both _ _ h.kind_ok (is_eqb _ _ h.some_keys)) (is_eqb _ _ h.some_values)) (is_eqb _ _ h.some_backs)) (is_leb _ _ h.small)

-- ---- the codes

finish_sound : (w : World) (v : ℕ) → finish w v ≡ 0 → (left : ℕ) × (v ≡ suc left) × (left + w.head.len ≡ size w) × (verify (ok_free w.head.kind w.links w.keys w.values) w.links.next (last_of w free_chain) left 0 (first_of w free_chain) ≡ 1)
unfolding finish
finish_sound w zero e = absurd (omega arith)
finish_sound w (suc left) e = go (eqb (left + w.head.len) (size w)) (eqb (verify (ok_free w.head.kind w.links w.keys w.values) w.links.next (last_of w free_chain) left 0 (first_of w free_chain)) 1) refl refl e
  where
    go : (a b : Bool) → eqb (left + w.head.len) (size w) ≡ a → eqb (verify (ok_free w.head.kind w.links w.keys w.values) w.links.next (last_of w free_chain) left 0 (first_of w free_chain)) 1 ≡ b
        → ◌≡◌ {A = ℕ} (elim (a && b) as (λ x. ℕ) [ true ↦ 0 | false ↦ 2 ]) 0
        → (l : ℕ) × (suc left ≡ suc l) × (l + w.head.len ≡ size w) × (verify (ok_free w.head.kind w.links w.keys w.values) w.links.next (last_of w free_chain) l 0 (first_of w free_chain) ≡ 1)
    go true true p q r = (left, refl, eqb_is _ _ p, eqb_is _ _ q)
    go true false p q r = absurd (omega arith)
    go false b p q r = absurd (omega arith)

finish_complete : (w : World) (left : ℕ) → left + w.head.len ≡ size w → verify (ok_free w.head.kind w.links w.keys w.values) w.links.next (last_of w free_chain) left 0 (first_of w free_chain) ≡ 1 → finish w (suc left) ≡ 0
unfolding finish
finish_complete w left a b =
    ap (λ (x : Bool). elim x as (λ y. ℕ) [ true ↦ 0 | false ↦ 2 ])
    (and_both (eqb (left + w.head.len) (size w)) (eqb (verify (ok_free w.head.kind w.links w.keys w.values) w.links.next (last_of w free_chain) left 0 (first_of w free_chain)) 1) (is_eqb _ _ a) (is_eqb _ _ b))

-- the scan, and the words that it asks for
module _ (w : World) where
  abbrev words_test : Bool
  words_test = same_words (summary w.links.first) w.links.busy

  scanned_marks : Typed w.links → (r : ℕ) → scanned w.head w.links w.keys ≡ suc r → w.links.busy ≡ summary w.links.first
  unfolding scanned
  scanned_marks t r e = sym (same_words_lem (summary w.links.first) w.links.busy (summary_words w.links.first).three t.busies (gate_open words_test _ r e))

  scanned_scan : (r : ℕ) → scanned w.head w.links w.keys ≡ suc r → scan w.head w.links w.keys free_chain 0 (suc (size w)) ≡ suc r
  unfolding scanned
  scanned_scan r e = sym (gate_same words_test _ (gate_open words_test _ r e)) ∙ e

  scan_scanned : w.links.busy ≡ summary w.links.first → scanned w.head w.links w.keys ≡ scan w.head w.links w.keys free_chain 0 (suc (size w))
  unfolding scanned
  scan_scanned m = gate_same words_test _ (words_same (summary w.links.first) w.links.busy (sym m))

scan_passed : (w : World) → Typed w.links → headed w.head ≡ true → finish w (scanned w.head w.links w.keys) ≡ 0 → Passed w
unfolding busy_chains
scan_passed w t e f =
    let r = finish_sound w (scanned w.head w.links w.keys) f in
    let i = scan_sound w free_chain 0 (size w) r.0 (scanned_scan w r.0 r.1) (le_refl (size w)) in
    let j = walked_chain w (ok_free w.head.kind w.links w.keys w.values) (last_of w free_chain) r.0 0 (first_of w free_chain) r.3 (room r.0 r.2) in
    record {
      head = e;
      marks = scanned_marks w t r.0 r.1;
      busy = λ d k. i.0 d zero-le k;
      free = j.0;
      counted = len_is r.0 (total (busy_chains w)) r.2 i.1;
      full = full_is r.0 (total (busy_chains w)) (length (chain w free_chain)) i.1 j.1;
    }
  where
    room : (l : ℕ) → l + w.head.len ≡ size w → l ≤ size w
    room l p = omega arith

    len_is : (l t : ℕ) → l + w.head.len ≡ size w → size w ≡ l + t → w.head.len ≡ t
    len_is l t p q = omega arith

    full_is : (l t f : ℕ) → size w ≡ l + t → l ≡ 0 + f → t + f ≡ size w
    full_is l t f p q = omega arith

passed_scan : (w : World) → Passed w → finish w (scanned w.head w.links w.keys) ≡ 0
unfolding busy_chains
passed_scan w h =
    ap (finish w) (scan_scanned w h.marks ∙ scan_complete w free_chain 0 (size w) (length (chain w free_chain)) (λ d p k. h.busy d k) (flip (total (busy_chains w)) (length (chain w free_chain)) h.full))
    ∙ finish_complete w (length (chain w free_chain)) (sum_is (total (busy_chains w)) (length (chain w free_chain)) h.full h.counted)
    (verify_complete (ok_free w.head.kind w.links w.keys w.values) w.links.next (last_of w free_chain) (chain w free_chain) (length (chain w free_chain)) 0 (first_of w free_chain) 0 h.free (omega arith))
  where
    flip : (t f : ℕ) → t + f ≡ size w → size w ≡ f + t
    flip t f p = omega arith

    sum_is : (t f : ℕ) → t + f ≡ size w → w.head.len ≡ t → f + w.head.len ≡ size w
    sum_is t f p q = omega arith

pub code : Bool → Bool → ℕ → ℕ
code a b n = elim a [ false ↦ 1 | true ↦ elim b [ false ↦ 2 | true ↦ n ] ]

pub examined_code : (w : World) → examined w ≡ code (fitting w) (headed w.head) (finish w (scanned w.head w.links w.keys))
unfolding examined code
examined_code w = refl

code_zero : (a b : Bool) (n : ℕ) → code a b n ≡ 0 → (a ≡ true) × (b ≡ true) × (n ≡ 0)
unfolding code
code_zero true true n e = (refl, refl, e)
code_zero true false n e = absurd (omega arith)
code_zero false b n e = absurd (omega arith)

code_one : (a b : Bool) (n : ℕ) → n ≢ 1 → code a b n ≡ 1 → a ≡ false
unfolding code
code_one true true n h e = absurd (h e)
code_one true false n h e = absurd (omega arith)
code_one false b n h e = refl

finish_not_one : (w : World) (v : ℕ) → finish w v ≢ 1
unfolding finish
finish_not_one w zero e = omega arith
finish_not_one w (suc left) e = go (eqb (left + w.head.len) (size w) && eqb (verify (ok_free w.head.kind w.links w.keys w.values) w.links.next (last_of w free_chain) left 0 (first_of w free_chain)) 1) e
  where
    go : (b : Bool) → ◌≡◌ {A = ℕ} (elim b as (λ x. ℕ) [ true ↦ 0 | false ↦ 2 ]) 1 → ⊥
    go true p = omega arith
    go false p = omega arith

pub code_at : (a b : Bool) (n : ℕ) → a ≡ true → b ≡ true → code a b n ≡ n
unfolding code
code_at true true n p q = refl
code_at true false n p q = absurd (false≢true q)
code_at false b n p q = absurd (false≢true p)

pub code_unfit : (a b : Bool) (n : ℕ) → a ≡ false → code a b n ≡ 1
unfolding code
code_unfit true b n p = absurd (true≢false p)
code_unfit false b n p = refl

pub code_unheaded : (a b : Bool) (n : ℕ) → a ≡ true → b ≡ false → code a b n ≡ 2
unfolding code
code_unheaded a b n p q = rw (p, q)

-- code 0: the pool is fit and sound
pub examined_sound : (w : World) → Typed w.links → (examined w ≡ 0) ↔ (Fit w × Sound w)
examined_sound w t = (to, from)
  where
    to : examined w ≡ 0 → Fit w × Sound w
    to e =
        let r = code_zero (fitting w) (headed w.head) (finish w (scanned w.head w.links w.keys)) (sym (examined_code w) ∙ e) in
        (fitting_fit w r.0, passed_sound w (scan_passed w t r.1 r.2))

    from : Fit w × Sound w → examined w ≡ 0
    from h =
        let p = sound_passed w h.1 t in
        examined_code w ∙ code_at (fitting w) (headed w.head) (finish w (scanned w.head w.links w.keys)) (fit_fitting w h.0) p.head ∙ passed_scan w p

-- code 1: the pool is not fit
pub examined_unfit : (w : World) → (examined w ≡ 1) ↔ (¬ Fit w)
examined_unfit w = (to, from)
  where
    to : examined w ≡ 1 → ¬ Fit w
    to e h = true≢false (sym (fit_fitting w h) ∙ code_one (fitting w) (headed w.head) (finish w (scanned w.head w.links w.keys)) (finish_not_one w (scanned w.head w.links w.keys)) (sym (examined_code w) ∙ e))

    no_fit : (b : Bool) → fitting w ≡ b → (Fit w → ⊥) → fitting w ≡ false
    no_fit true e n = absurd (n (fitting_fit w e))
    no_fit false e n = e

    from : ¬ Fit w → examined w ≡ 1
    from n = examined_code w ∙ code_unfit (fitting w) (headed w.head) (finish w (scanned w.head w.links w.keys)) (no_fit (fitting w) refl n)

finish_le : (w : World) (v : ℕ) → finish w v ≤ 2
unfolding finish
finish_le w zero = le_refl 2
finish_le w (suc left) = go (eqb (left + w.head.len) (size w) && eqb (verify (ok_free w.head.kind w.links w.keys w.values) w.links.next (last_of w free_chain) left 0 (first_of w free_chain)) 1)
  where
    go : (b : Bool) → ◌≤◌ (elim b as (λ x. ℕ) [ true ↦ 0 | false ↦ 2 ]) 2
    go true = zero-le
    go false = le_refl 2

code_le : (a b : Bool) (n : ℕ) → n ≤ 2 → code a b n ≤ 2
unfolding code
code_le true true n h = h
code_le true false n h = le_refl 2
code_le false b n h = omega arith

-- there is no other code than 0, 1 and 2
pub examined_le : (w : World) → examined w ≤ 2
examined_le w = rw (examined_code w) (code_le (fitting w) (headed w.head) (finish w (scanned w.head w.links w.keys)) (finish_le w (scanned w.head w.links w.keys)))

pub fit_dec : (w : World) → Dec (Fit w)
fit_dec w = go (fitting w) refl
  where
    go : (b : Bool) → fitting w ≡ b → Dec (Fit w)
    go true e = yes (fitting_fit w e)
    go false e = no (λ h. true≢false (sym (fit_fitting w h) ∙ e))

-- code 2: the pool is fit and not sound
pub examined_unsound : (w : World) → Typed w.links → (examined w ≡ 2) ↔ (Fit w × (¬ Sound w))
examined_unsound w t = (to, from)
  where
    fit : Dec (Fit w) → examined w ≡ 2 → Fit w
    fit (yes f) e = f
    fit (no n) e = let z : examined w ≡ 1 = (examined_unfit w).1 n in absurd (omega arith)

    to : examined w ≡ 2 → Fit w × (¬ Sound w)
    to e = (fit (fit_dec w) e, λ s. let z : examined w ≡ 0 = (examined_sound w t).1 (fit (fit_dec w) e, s) in omega arith)

    from : Fit w × (¬ Sound w) → examined w ≡ 2
    from h =
        let a : examined w ≢ 0 = λ z. h.1 ((examined_sound w t).0 z).1 in
        let b : examined w ≢ 1 = λ z. (examined_unfit w).0 z h.0 in
        let c = examined_le w in
        omega arith
