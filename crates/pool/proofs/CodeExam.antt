-- The code of the examination against its definitions: laws on plain values, which the proofs of its functions apply.
use mathlib.Core.Path.{subst, ◌≡◌, refl, sym, ap, ap₂, ◌∙◌}
use mathlib.Core.Bool.{Bool, true, false, cond, ◌&&◌, ◌||◌, and-false, and-true, and_comm, or-true}
use mathlib.Core.Logic.{◌≢◌, ◌⊎◌, ⊎_elim}
use mathlib.Core.List.{List, [], ◌∷◌}
use Prim.Native.Nat.{ℕ, zero, suc, ◌+◌, ◌-◌, ◌*◌, ◌^◌, ◌≤◌, ◌<◌, zero-le}
use native.Mathlib.Nat.{le_refl, le_trans, sub-zero}
use native.Mathlib.Omega.{arith}
use native.Mathlib.Numerals.{add-one, sub-one}
use native.Mathlib.Decide.{ℕ_discrete}
use borrow.Author.Tests.{eq-eqb, ne_eqb, le-leb, lt-leb, lt-ltb, le-ltb, ltb-true, ltb-false}
use lib.Dec.{leb, ltb, eqb}
use lib.ListN.{length, get_or, take}
use lib.Pointwise.{pointwise}
use Rattle.rule.specs.Width.{distance}
use Rattle.keys.specs.declared.kind.Kind.{Kind}
use Rattle.keys.specs.Ordered.{width, words, ordered, proper}
use Rattle.keys.specs.Table.{kind_fits}
use Rattle.pool.specs.declared.state.Head.{Head}
use Rattle.pool.specs.World.{waiting_chain, free_chain, Links, World, size, first_of, last_of, key_word0, key_word1, slot_key, top_of, place, within}
use Rattle.pool.specs.Sound.{Fit, limit}
use Rattle.pool.specs.Fine.{Room}
use Rattle.pool.specs.Marks.{summary, marked, same_words}
use Rattle.pool.specs.Examine.{fits, headed, stands_at, empty_at, ok_busy, ok_free, gate, verify, apart, verify_busy, scan, scanned, fitting, finish, examined}
use Rattle.pool.proofs.Chains.{last_none}
use Rattle.pool.proofs.Marks.{summary_none, seen_some, seen_none, seen_all}
use Rattle.pool.proofs.Fine.{fit_room}
use Rattle.pool.proofs.Exam.{Walked, verify_sound, examined_code, code_unfit, code_unheaded, code_at}

-- ---- tests

pub eqb_sym : (a b : ℕ) → eqb a b ≡ eqb b a
eqb_sym a b = elim (ℕ_discrete a b) [
  | yes p ↦ eq-eqb a b p ∙ sym (eq-eqb b a (sym p))
  | no q ↦ ne_eqb a b q ∙ sym (ne_eqb b a (λ e. q (sym e)))
]

swap : (a k v b l : Bool) → (a && k && v && b && l) ≡ (a && l && v && b && k)
swap false k v b l = refl
swap true false v b l = sym (and-false (l && v && b))
swap true true v b true = refl
swap true true v b false = and-false (v && b)

-- the order in which the code tests: the length of the keys last
pub fits_order : (kind : Kind) (keys values next back : ℕ)
    → fits kind keys values next back ≡ (kind_fits kind && leb next limit && eqb values next && eqb back next && eqb keys (words kind * next))
unfolding fits
fits_order kind keys values next back = swap (kind_fits kind) (eqb keys (words kind * next)) (eqb values next) (eqb back next) (leb next limit)

pub headed_order : (h : Head) → headed h ≡ (proper h.kind h.top0 h.top1 && (h.topped || (eqb h.top0 0 && eqb h.top1 0)))
unfolding headed
headed_order h = and_comm (h.topped || (eqb h.top0 0 && eqb h.top1 0)) (proper h.kind h.top0 h.top1)

-- ---- one slot

module _ (h : Head) (keys back : List ℕ) (c p s : ℕ) where
  pub stands_astray : (get_or back s 0 ≡ p → ⊥) → stands_at h keys back c p s ≡ false
  unfolding stands_at
  stands_astray z = rw (ne_eqb (get_or back s 0) p z)

  -- the words of the key in the slot, and its ordered form
  abbrev key0 : ℕ
  key0 = key_word0 h.kind keys s

  abbrev key1 : ℕ
  key1 = key_word1 h.kind keys s

  abbrev key : ℕ
  key = slot_key h.kind keys s

  module _ (e : get_or back s 0 ≡ p) where
    stands_by : {q t : Bool} → proper h.kind key0 key1 ≡ q → h.topped ≡ t
        → stands_at h keys back c p s ≡ ((q && within t key (top_of h)) && eqb (place t (distance (width h.kind) key (top_of h))) c)
    unfolding stands_at
    stands_by f t = rw (eq-eqb (get_or back s 0) p e, f, ← t)

    pub stands_unfit : proper h.kind key0 key1 ≡ false → stands_at h keys back c p s ≡ false
    stands_unfit f = stands_by f refl

    pub stands_waiting : proper h.kind key0 key1 ≡ true → h.topped ≡ false → stands_at h keys back c p s ≡ eqb c waiting_chain
    unfolding within place
    stands_waiting f t = stands_by f t ∙ eqb_sym waiting_chain c

    module _ (f : proper h.kind key0 key1 ≡ true) (t : h.topped ≡ true) where
      stands_topped : stands_at h keys back c p s ≡ (leb key (top_of h) && eqb (distance (width h.kind) key (top_of h)) c)
      unfolding within place
      stands_topped = stands_by f t

      pub stands_above : ltb (top_of h) key ≡ true → stands_at h keys back c p s ≡ false
      stands_above u = stands_topped ∙ rw (lt-leb key (top_of h) (ltb-true _ _ u))

      pub stands_home : ltb (top_of h) key ≡ false → {d : ℕ} → d ≡ distance (width h.kind) key (top_of h) → stands_at h keys back c p s ≡ eqb c d
      stands_home u {d} ed = stands_topped ∙ rw (le-leb key (top_of h) (ltb-false _ _ u), ← ed) (eqb_sym d c)

-- the words of the slot's key and of the top that the calls gave, read in the kind that the reader has
module _ {kind kind' : Kind} {a a' b b' : ℕ} (k : kind' ≡ kind) (e : a ≡ a') (f : b ≡ b') where
  pub proper_read : {q : Bool} → q ≡ proper kind' a b → proper kind a' b' ≡ q
  proper_read g = cc

  module _ {x x' y y' : ℕ} (u : x ≡ x') (v : y ≡ y') where
    pub above_read : {q : Bool} → q ≡ ltb (ordered kind' x y) (ordered kind' a b) → ltb (ordered kind x' y') (ordered kind a' b') ≡ q
    above_read g = cc

    pub far_read : {d : ℕ} → d ≡ distance (width kind') (ordered kind' a b) (ordered kind' x y) → d ≡ distance (width kind) (ordered kind a' b') (ordered kind x' y')
    far_read g = cc

pub empty_rest : (kind : Kind) (keys values back : List ℕ) (s : ℕ) → get_or back s 0 ≡ 0 → key_word0 kind keys s ≡ 0 → key_word1 kind keys s ≡ 0
    → empty_at kind keys values back s ≡ eqb (get_or values s 0) 0
unfolding empty_at
empty_rest kind keys values back s e f g = rw (e, f, g)

-- ---- one step of a walk

-- past the slots it is refused, else the test of the chain decides
module _ (stands : ℕ → ℕ → Bool) (n p s : ℕ) where
  pub step_out : n ≤ s → (ltb s n && stands p s) ≡ false
  step_out l = rw (le-ltb s n l)

  pub step_in : s < n → {b : Bool} → b ≡ stands p s → (ltb s n && stands p s) ≡ b
  step_in l e = rw (lt-ltb s n l) (sym e)

-- ---- a walk

module _ (ok : ℕ → ℕ → Bool) (next : List ℕ) (end : ℕ) where
  -- a step passes, or is refused
  verify_step : (left p at : ℕ) → 0 < left → (at ≡ 0 → ⊥) → verify ok next end left p at ≡ gate (ok p (at - 1)) (verify ok next end (left - 1) at (get_or next (at - 1) 0))
  unfolding verify
  verify_step zero p at l z = absurd (omega arith)
  verify_step (suc left) p zero l z = absurd (z refl)
  verify_step (suc left) p (suc s) l z = simp sub-one

  -- the chain ends, or the budget does
  verify_stop : (left p at : ℕ) → at ≡ 0 → verify ok next end left p at ≡ gate (eqb p end) (left + 1)
  unfolding verify
  verify_stop zero p at z = rw z
  verify_stop (suc left) p at z = rw (z, add-one)

  verify_spent : (left p at : ℕ) → left ≡ 0 → (at ≡ 0 → ⊥) → verify ok next end left p at ≡ 0
  unfolding verify
  verify_spent left p zero e z = absurd (z refl)
  verify_spent left p (suc s) e z = rw e

-- what is left of a walk is the whole of it: the links `start` and `at`, the link `p` before `at`
pub record Turn (ok : ℕ → ℕ → Bool) (next : List ℕ) (end budget start left p at : ℕ) : Type 0 where
  pub few : left ≤ budget
  pub link : at < 2 ^ 32
  pub same : verify ok next end budget 0 start ≡ verify ok next end left p at

module _ {ok : ℕ → ℕ → Bool} {next : List ℕ} {end budget start left p at : ℕ} (t : Turn ok next end budget start left p at) where
  pub turn_again : 0 < left → (at ≡ 0 → ⊥) → ok p (at - 1) ≡ true → get_or next (at - 1) 0 < 2 ^ 32 → Turn ok next end budget start (left - 1) at (get_or next (at - 1) 0)
  turn_again l z e h = record {
    few = omega arith;
    link = h;
    same = t.same ∙ verify_step ok next end left p at l z ∙ rw e;
  }

  pub turn_refused : 0 < left → (at ≡ 0 → ⊥) → ok p (at - 1) ≡ false → verify ok next end budget 0 start ≡ 0
  turn_refused l z e = t.same ∙ verify_step ok next end left p at l z ∙ rw e

  pub turn_spent : left ≡ 0 → (at ≡ 0 → ⊥) → verify ok next end budget 0 start ≡ 0
  turn_spent e z = t.same ∙ verify_spent ok next end left p at e z

  pub turn_astray : at ≡ 0 → (p ≡ end → ⊥) → verify ok next end budget 0 start ≡ 0
  turn_astray z e = t.same ∙ verify_stop ok next end left p at z ∙ rw (ne_eqb p end e)

  pub turn_ends : at ≡ 0 → p ≡ end → verify ok next end budget 0 start ≡ suc left
  turn_ends z e = t.same ∙ verify_stop ok next end left p at z ∙ rw (eq-eqb p end e, add-one)

-- ---- every chain but the free one

-- a walk gives back no more than its budget, and one
verify_le : (ok : ℕ → ℕ → Bool) (next : List ℕ) (end left p l : ℕ) → verify ok next end left p l ≤ left + 1
verify_le ok next end left p l = go (verify ok next end left p l) refl
  where
    go : (v : ℕ) → verify ok next end left p l ≡ v → v ≤ left + 1
    go zero e = zero-le
    go (suc r) e = let w = (verify_sound ok next end left p l r e).2 in omega arith

-- a walk that passes has a first link just if it has a last one
module _ (ok : ℕ → ℕ → Bool) (next : List ℕ) (end left l : ℕ) (n : verify ok next end left 0 l ≢ 0) where
  passes : (ss : List ℕ) × Walked ok next end 0 l ss
  passes = go (verify ok next end left 0 l) refl
    where
      go : (v : ℕ) → verify ok next end left 0 l ≡ v → (ss : List ℕ) × Walked ok next end 0 l ss
      go zero e = absurd (n e)
      go (suc r) e = let s = verify_sound ok next end left 0 l r e in (s.0, s.1)

  pub starts : end ≢ 0 → l ≢ 0
  starts z e = z (go passes.0 passes.1)
    where
      go : (ss : List ℕ) → Walked ok next end 0 l ss → end ≡ 0
      go [] w = sym w.ends
      go (s ∷ ss) w = let f = w.linked.0 in absurd (omega arith)

  pub starts_not : end ≡ 0 → l ≡ 0
  starts_not e = go passes.0 passes.1
    where
      go : (ss : List ℕ) → Walked ok next end 0 l ss → l ≡ 0
      go [] w = w.linked
      go (s ∷ ss) w = let z : suc (length ss) ≡ 0 = ap length (last_none (s ∷ ss) (w.ends ∙ e)) in absurd (omega arith)

pub apart_none : (k : Links) (c : ℕ) → get_or k.last c 0 ≡ 0 → apart k c ≡ true
unfolding apart
apart_none k c e = rw (eq-eqb (get_or k.last c 0) 0 e)

pub apart_other : (k : Links) (c : ℕ) → (get_or k.last c 0 ≡ get_or k.last free_chain 0 → ⊥) → apart k c ≡ true
unfolding apart
apart_other k c z = rw (ne_eqb (get_or k.last c 0) (get_or k.last free_chain 0) z) (or-true (eqb (get_or k.last c 0) 0))

apart_shared : (k : Links) (c : ℕ) → (get_or k.last c 0 ≡ 0 → ⊥) → get_or k.last c 0 ≡ get_or k.last free_chain 0 → apart k c ≡ false
unfolding apart
apart_shared k c z e = rw (ne_eqb (get_or k.last c 0) 0 z, eq-eqb (get_or k.last c 0) (get_or k.last free_chain 0) e)

gate_le : (b : Bool) (r : ℕ) → gate b r ≤ r
gate_le true r = le_refl r
gate_le false r = zero-le

gate_none : (b : Bool) → gate b 0 ≡ 0
gate_none true = refl
gate_none false = refl

module _ (h : Head) (k : Links) (keys : List ℕ) where
  -- a chain, and a scan, give back no more than they had
  busy_le : (c left : ℕ) → verify_busy h k keys c left ≤ left + 1
  unfolding verify_busy
  busy_le c left =
      let r = verify (ok_busy h k keys c) k.next (get_or k.last c 0) left 0 (get_or k.first c 0) in
      le_trans (gate_le (apart k c) r) (verify_le (ok_busy h k keys c) k.next (get_or k.last c 0) left 0 (get_or k.first c 0))

  scan_le : (m c left : ℕ) → scan h k keys m c left ≤ left
  unfolding scan
  scan_le zero c left = le_refl left
  scan_le (suc m) c zero = zero-le
  scan_le (suc m) c (suc left) = let i = scan_le m (suc c) (verify_busy h k keys c left) in let j = busy_le c left in omega arith

  scan_none : (m c left : ℕ) → left ≡ 0 → scan h k keys m c left ≡ 0
  unfolding scan
  scan_none zero c left e = e
  scan_none (suc m) c left e = rw e

  scan_step : (m c left : ℕ) → c < m → scan h k keys (m - c) c (suc left) ≡ scan h k keys (m - (c + 1)) (c + 1) (verify_busy h k keys c left)
  unfolding scan
  scan_step m c left l = let e : m - c ≡ suc (m - (c + 1)) = omega arith in rw e (simp add-one)

-- what is left of a scan of m chains is the whole of it, and these are the busy words of the chains before
pub record Scan (h : Head) (k : Links) (keys : List ℕ) (m left c : ℕ) (words : List ℕ) : Type 0 where
  pub few : left ≤ length k.next
  pub past : c ≤ m
  pub same : scan h k keys m 0 (suc (length k.next)) ≡ scan h k keys (m - c) c (suc left)
  pub seen : words ≡ summary (take c k.first)

-- before the first chain, with a budget of as many slots as there are
pub scan_start : (h : Head) (k : Links) (keys : List ℕ) (m : ℕ) {left : ℕ} → left ≡ length k.next → Scan h k keys m left 0 (0 ∷ 0 ∷ 0 ∷ [])
scan_start h k keys m e =
    subst (λ (n : ℕ). Scan h k keys m n 0 (0 ∷ 0 ∷ 0 ∷ [])) (sym e)
    (record { few = le_refl (length k.next); past = zero-le; same = simp sub-zero; seen = summary_none (take 0 k.first) (λ c l. refl) })

module _ {h : Head} {k : Links} {keys : List ℕ} {m left c : ℕ} {words : List ℕ} (t : Scan h k keys m left c words) where
  pub scan_over : m ≤ c → scan h k keys m 0 (suc (length k.next)) ≡ suc left
  unfolding scan
  scan_over l = let e : m - c ≡ 0 = omega arith in t.same ∙ rw e

  module _ (l : c < m) where
    scan_stops : verify_busy h k keys c left ≡ 0 → scan h k keys m 0 (suc (length k.next)) ≡ 0
    scan_stops e = t.same ∙ scan_step h k keys m c left l ∙ scan_none h k keys (m - (c + 1)) (c + 1) (verify_busy h k keys c left) e

    pub scan_shared : (get_or k.last c 0 ≡ 0 → ⊥) → get_or k.last c 0 ≡ get_or k.last free_chain 0 → scan h k keys m 0 (suc (length k.next)) ≡ 0
    unfolding verify_busy
    scan_shared n e = scan_stops (rw (apart_shared k c n e))

    pub scan_refused : 0 ≡ verify (ok_busy h k keys c) k.next (get_or k.last c 0) left 0 (get_or k.first c 0) → scan h k keys m 0 (suc (length k.next)) ≡ 0
    unfolding verify_busy
    scan_refused e = scan_stops (ap (gate (apart k c)) (sym e) ∙ gate_none (apart k c))

    -- the chain's bit is set, if it has a last link
    module _ {r : ℕ} (e : suc r ≡ verify (ok_busy h k keys c) k.next (get_or k.last c 0) left 0 (get_or k.first c 0)) where
      passed : verify (ok_busy h k keys c) k.next (get_or k.last c 0) left 0 (get_or k.first c 0) ≢ 0
      passed q = absurd (omega (arith, e, q))

      seen_on : {words' : List ℕ} → get_or k.last c 0 ≢ 0 → words' ≡ marked words c → words' ≡ summary (take (c + 1) k.first)
      seen_on n w = w ∙ ap (λ (x : List ℕ). marked x c) t.seen ∙ seen_some k.first c (starts (ok_busy h k keys c) k.next (get_or k.last c 0) left (get_or k.first c 0) passed n)

      seen_off : get_or k.last c 0 ≡ 0 → words ≡ summary (take (c + 1) k.first)
      seen_off n = t.seen ∙ seen_none k.first c (starts_not (ok_busy h k keys c) k.next (get_or k.last c 0) left (get_or k.first c 0) passed n)

      pub scan_again : {words' : List ℕ} → apart k c ≡ true → ((get_or k.last c 0 ≢ 0) × (words' ≡ marked words c)) ⊎ ((get_or k.last c 0 ≡ 0) × (words' ≡ words)) → Scan h k keys m r (c + 1) words'
      unfolding verify_busy
      scan_again a g =
          let b : verify_busy h k keys c left ≡ suc r = rw a (sym e) in
          let i = busy_le h k keys c left in
          record {
            few = omega arith;
            past = omega arith;
            same = t.same ∙ scan_step h k keys m c left l ∙ ap (scan h k keys (m - (c + 1)) (c + 1)) b;
            seen = ⊎_elim (λ n. seen_on n.0 n.1) (λ n. n.1 ∙ seen_off n.0) g;
          }

-- three words are the same, as the code compares them
three : (a : List ℕ) → length a ≡ 3 → a ≡ get_or a 0 0 ∷ get_or a 1 0 ∷ get_or a 2 0 ∷ []
three [] e = absurd (omega arith)
three (x ∷ []) e = absurd (omega arith)
three (x ∷ y ∷ []) e = absurd (omega arith)
three (x ∷ y ∷ z ∷ []) e = refl
three (x ∷ y ∷ z ∷ w ∷ ws) e = absurd (omega arith)

grouped : (x y z : Bool) → (x && (y && (z && true))) ≡ (x && y && z)
grouped false y z = refl
grouped true y z = ap (λ (t : Bool). y && t) (and-true z)

pub same_three : (a b : List ℕ) → length a ≡ 3 → length b ≡ 3 → pointwise eqb a b ≡ same_words a b
unfolding same_words
same_three a b p q =
    ap₂ (pointwise eqb) (three a p) (three b q)
    ∙ grouped (eqb (get_or a 0 0) (get_or b 0 0)) (eqb (get_or a 1 0) (get_or b 1 0)) (eqb (get_or a 2 0) (get_or b 2 0))

module _ (h : Head) (k : Links) (keys : List ℕ) where
  pub scanned_refused : scan h k keys free_chain 0 (suc (length k.next)) ≡ 0 → scanned h k keys ≡ 0
  unfolding scanned
  scanned_refused e = ap (gate (same_words (summary k.first) k.busy)) e ∙ gate_none (same_words (summary k.first) k.busy)

  -- at the end of the scan: its words are compared with those of the state
  pub scanned_over : {left c : ℕ} {words : List ℕ} → Scan h k keys free_chain left c words → free_chain ≤ c → {b : Bool} → b ≡ same_words words k.busy → scanned h k keys ≡ gate b (suc left)
  unfolding scanned
  scanned_over {left} {c} {words} t l {b} e = ap₂ gate (ap (λ (x : List ℕ). same_words x k.busy) (sym (t.seen ∙ seen_all k.first c (omega arith))) ∙ sym e) (scan_over t l)

-- ---- the whole

-- the keys of a fit pool have room beside its back links too
pub back_room : {w : World} → Fit w → Room w.head.kind (length w.links.back) w.keys
back_room {w} f = rw f.some_backs (fit_room f)

module _ (w : World) where
  pub fitting_is : fitting w ≡ fits w.head.kind (length w.keys) (length w.values) (size w) (length w.links.back)
  unfolding fitting
  fitting_is = refl

  pub unfit_code : fitting w ≡ false → examined w ≡ 1
  unfit_code f = examined_code w ∙ code_unfit _ _ _ f

  pub unheaded_code : fitting w ≡ true → headed w.head ≡ false → examined w ≡ 2
  unheaded_code f h = examined_code w ∙ code_unheaded _ _ _ f h

  pub headed_code : fitting w ≡ true → headed w.head ≡ true → examined w ≡ finish w (scanned w.head w.links w.keys)
  headed_code f h = examined_code w ∙ code_at _ _ _ f h

  pub scan_few : {v : ℕ} → v ≡ scanned w.head w.links w.keys → v ≤ size w + 1
  unfolding scanned
  scan_few e =
      let i = scan_le w.head w.links w.keys free_chain 0 (suc (size w)) in
      let g = gate_le (same_words (summary w.links.first) w.links.busy) (scan w.head w.links w.keys free_chain 0 (suc (size w))) in
      omega arith

  pub finish_refused : finish w 0 ≡ 2
  unfolding finish
  finish_refused = refl

  -- what the walk along the free chain gives
  abbrev free_walk : ℕ → ℕ
  free_walk left = verify (ok_free w.head.kind w.links w.keys w.values) w.links.next (last_of w free_chain) left 0 (first_of w free_chain)

  module _ (left : ℕ) where
    finish_some : finish w (suc left) ≡ elim (eqb (left + w.head.len) (size w) && eqb (free_walk left) 1) as (λ x. ℕ) [ true ↦ 0 | false ↦ 2 ]
    unfolding finish
    finish_some = refl

    pub finish_miscounted : (left + w.head.len ≡ size w → ⊥) → finish w (suc left) ≡ 2
    finish_miscounted n = finish_some ∙ rw (ne_eqb (left + w.head.len) (size w) n)

    pub finish_counted : left + w.head.len ≡ size w → {b : Bool} → b ≡ eqb (free_walk left) 1 → finish w (suc left) ≡ cond b 0 2
    finish_counted n {b} e = finish_some ∙ rw (eq-eqb (left + w.head.len) (size w) n, ← e) (told_by b)
      where
        told_by : (b : Bool) → elim b as (λ x. ℕ) [ true ↦ 0 | false ↦ 2 ] ≡ cond b 0 2
        told_by true = refl
        told_by false = refl
