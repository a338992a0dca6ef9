-- What the code of a batch asks for, on plain values: the loop over its records, and what a batch gives at each way out.
use mathlib.Core.Path.{◌≡◌, refl, sym, ap, subst, ◌∙◌}
use mathlib.Core.Bool.{Bool, true, false, cond, false≢true}
use mathlib.Core.List.{List, [], append-nil, append_assoc}
use Prim.Native.Nat.{ℕ, suc, ◌+◌, ◌-◌, ◌*◌, ◌/◌, ◌%◌, ◌≤◌, ◌<◌}
use native.Mathlib.Nat.{sub-zero}
use native.Mathlib.Omega.{arith}
use borrow.Author.Tests.{eq-eqb, ne_eqb, eqb-true, lt-ltb, le-ltb, ltb-false}
use borrow.Rule.Slice.PartMut.{mid_of, put_mid}
use lib.Dec.{eqb, ltb}
use lib.ListN.{length, drop, length-drop, drop_of_length-le}
use lib.Seq.{drop-drop, take_all}
use Rattle.std.specs.Prelude.{Result, Ok, Err}
use Rattle.pool.specs.declared.refusal.Refusal.{Refusal}
use Rattle.pool.specs.Codes.{refusal_code}
use Rattle.pool.specs.declared.lent.Pool.{Pool}
use Rattle.pool.specs.declared.lent.View.{View}
use Rattle.pool.specs.declared.state.State.{State}
use Rattle.pool.specs.Lent.{world_in, world_seen}
use Rattle.pool.specs.World.{World}
use Rattle.pool.specs.Sound.{Typed, Whole}
use Rattle.pool.specs.Examine.{examined}
use Rattle.pool.proofs.Follows.{examined_whole}
use Rattle.engine.specs.Outcome.{Outcome}
use Rattle.heap.specs.Calls.{over}
use Rattle.batch.specs.declared.records.Record.{Record}
use Rattle.batch.specs.Bytes.{written_at}
use Rattle.batch.specs.Records.{record_at}
use Rattle.batch.specs.Batch.{served, answer_of, batched, records, batch_code, ran, batch, batch_answered}
use Rattle.batch.specs.declared.serving.Reply.{Reply}
use Rattle.batch.specs.Core.{Ran, going, ran_from, replied, shown, answer_told, served_core}
use Rattle.pool.proofs.Refusals.{refusal_some}
use Rattle.batch.proofs.Served.{served_core_lem, served_whole}
use Rattle.batch.proofs.Batches.{length_written, answer_long, ran_all, batch_code_lem, batch_ran, batch_refused}

-- ---- an answer written to a part that is lent

module _ (p : ℕ) (old : List ℕ) (low : p ≤ length old) where
  -- the part is all from p on
  part : mid_of p (length old - p) old ≡ drop p old
  part = take_all (length old - p) (drop p old) (simp length-drop (omega arith))

  pub put_over : (new : List ℕ) → put_mid p (length old - p) old (over new (mid_of p (length old - p) old)) ≡ written_at p new old
  unfolding over written_at
  put_over new =
      let none : drop (length old - p) (drop p old) ≡ [] = drop_of_length-le (drop p old) {i = length old - p} (simp length-drop (omega arith)) in
      rw (part, none, append-nil, drop-drop, append_assoc)

-- ---- the loop

-- At record i: what is left to do from here is what there was to do.
pub record Turn (n : ℕ) (bs : List ℕ) (w₀ : World) (as₀ : List ℕ) (w : World) (as' : List ℕ) (i : ℕ) : Type 0 where
  pub turns : i ≤ n
  pub whole : Whole w
  pub answers : length as' ≡ length as₀
  pub same : ran_from n 0 bs w₀ as₀ ≡ ran_from (n - i) i bs w as'

-- what is written is the answer of what was given
told_shown : (t : Result Reply Refusal) (w : World) → answer_told t w.head.len ≡ answer_of (replied t w)
unfolding answer_told replied shown
told_shown (Ok s) w = refl
told_shown (Err r) w = refl

replied_world : (t : Result Reply Refusal) (w : World) → (replied t w).world ≡ w
unfolding replied
replied_world (Ok s) w = refl
replied_world (Err r) w = refl

pub turn_first : (n : ℕ) (bs : List ℕ) (w : World) (as' : List ℕ) → Whole w → Turn n bs w as' w as' 0
turn_first n bs w as' h = record { turns = omega arith; whole = h; answers = refl; same = rw (sub-zero n) }

module _ {n : ℕ} {bs : List ℕ} {w₀ : World} {as₀ : List ℕ} {w : World} {as' : List ℕ} {i : ℕ} (t : Turn n bs w₀ as₀ w as' i) where
  turn_on : i < n → 40 * n ≤ length as₀ → let o = served w (record_at bs (32 * i)) in Turn n bs w₀ as₀ o.world (written_at (40 * i) (answer_of o) as') (i + 1)
  unfolding ran_from
  turn_on l m =
      let r = record_at bs (32 * i) in
      let o = served w r in
      let h = served_whole t.whole r in
      let long = answer_long o in
      let left : n - i ≡ suc (n - (i + 1)) = omega arith in
      record {
        turns = omega arith;
        whole = h;
        answers = length_written (40 * i) (answer_of o) as' (omega (arith, t.answers)) ∙ t.answers;
        same = t.same ∙ ap (λ (x : ℕ). ran_from x i bs w as') left;
      }

  -- what the calls of a turn gave
  pub turn_next : i < n → 40 * n ≤ length as₀ → {r : Record} → r ≡ record_at bs (32 * i) → (q : Result Reply Refusal) (u : World) → replied q u ≡ served_core w r
      → {out : List ℕ} → out ≡ over (answer_told q u.head.len) (mid_of (40 * i) (length as' - 40 * i) as') → Turn n bs w₀ as₀ u (put_mid (40 * i) (length as' - 40 * i) as' out) (i + 1)
  turn_next l m er q u eo {out} ea =
      let o = replied q u in
      let e : o ≡ served w (record_at bs (32 * i)) = eo ∙ ap (served_core w) er ∙ served_core_lem t.whole (record_at bs (32 * i)) in
      let f : put_mid (40 * i) (length as' - 40 * i) as' out ≡ written_at (40 * i) (answer_of o) as' =
      ap (λ (a : List ℕ). put_mid (40 * i) (length as' - 40 * i) as' a) (ea ∙ ap (λ (a : List ℕ). over a (mid_of (40 * i) (length as' - 40 * i) as')) (told_shown q u))
      ∙ put_over (40 * i) as' (omega (arith, t.answers)) (answer_of o) in
      let next : Turn n bs w₀ as₀ o.world (written_at (40 * i) (answer_of o) as') (i + 1) = subst (λ (o : Outcome). Turn n bs w₀ as₀ o.world (written_at (40 * i) (answer_of o) as') (i + 1)) (sym e) (turn_on l m) in
      subst (λ (x : World). Turn n bs w₀ as₀ x (put_mid (40 * i) (length as' - 40 * i) as' out) (i + 1)) (replied_world q u)
      (subst (λ (x : List ℕ). Turn n bs w₀ as₀ o.world x (i + 1)) (sym f) next)

  pub turn_last : n ≤ i → going w as' ≡ ran_from n 0 bs w₀ as₀
  unfolding ran_from
  turn_last l = let none : n - i ≡ 0 = omega arith in sym (t.same ∙ ap (λ (x : ℕ). ran_from x i bs w as') none)

-- ---- the whole batch

module _ (w : World) (bs as' : List ℕ) where
  pub code_stopped : {code : ℕ} → code ≡ examined w → (code ≡ 0 → ⊥) → code ≡ batch_code w bs as'
  unfolding batch_code
  code_stopped e n = rw (ne_eqb (examined w) 0 (λ (z : examined w ≡ 0). n (e ∙ z))) e

  module _ (passed : 0 ≡ examined w) where
    pub code_ragged : (length bs % 32 ≡ 0 → ⊥) → 3 ≡ batch_code w bs as'
    unfolding batch_code
    code_ragged n = rw (eq-eqb (examined w) 0 (sym passed), ne_eqb (length bs % 32) 0 n)

    module _ (even : length bs % 32 ≡ 0) where
      pub code_short : length as' / 40 < records bs → 4 ≡ batch_code w bs as'
      unfolding batch_code
      code_short l = rw (eq-eqb (examined w) 0 (sym passed), eq-eqb (length bs % 32) 0 even, lt-ltb (length as') (40 * records bs) (omega arith))

      pub code_done : records bs ≤ length as' / 40 → 0 ≡ batch_code w bs as'
      unfolding batch_code
      code_done l = rw (eq-eqb (examined w) 0 (sym passed), eq-eqb (length bs % 32) 0 even, le-ltb (length as') (40 * records bs) (omega arith))

  -- what a batch that is not refused tells of its pool, of its records and of the room
  pub record Accepted : Type 0 where
    pub passed : examined w ≡ 0
    pub even : length bs % 32 ≡ 0
    pub room : 40 * records bs ≤ length as'

  pub accepted : 0 ≡ batch_code w bs as' → Accepted
  unfolding batch_code
  accepted e = go (eqb (examined w) 0) refl (eqb (length bs % 32) 0) refl (ltb (length as') (40 * records bs)) refl e
    where
      go : (x : Bool) → eqb (examined w) 0 ≡ x → (y : Bool) → eqb (length bs % 32) 0 ≡ y → (z : Bool) → ltb (length as') (40 * records bs) ≡ z
          → 0 ≡ cond x (cond y (cond z 4 0) 3) (examined w) → Accepted
      go false p y q z r e = absurd (false≢true (sym p ∙ eq-eqb (examined w) 0 (sym e)))
      go true p false q z r e = absurd (omega arith)
      go true p true q true r e = absurd (omega arith)
      go true p true q false r e = record { passed = eqb-true (examined w) 0 p; even = eqb-true (length bs % 32) 0 q; room = ltb-false (length as') (40 * records bs) r }

  pub batch_done : 0 ≡ batch_code w bs as' → {u : World} {as'' : List ℕ} → going u as'' ≡ ran_from (records bs) 0 bs w as' → batched 0 u as'' (records bs) ≡ batch w bs as'
  unfolding ran
  batch_done c e = ap (λ (x : Ran). batched 0 x.world x.answers (records bs)) (e ∙ ran_all (records bs) bs w as' (accepted c).room) ∙ sym (batch_ran w bs as' (sym c))

  pub batch_stopped : (r : Refusal) → refusal_code r ≡ batch_code w bs as' → batched (refusal_code r) w as' 0 ≡ batch w bs as'
  batch_stopped r e =
      let f : (batch w bs as').code ≡ refusal_code r = batch_code_lem w bs as' ∙ sym e in
      sym (batch_refused w bs as' (λ z. refusal_some r (sym f ∙ z)) ∙ ap (λ (c : ℕ). batched c w as' 0) f)

  -- .. as the caller is told
  pub told_stopped : {t : Result ℕ Refusal} {r : Refusal} → t ≡ Err r → refusal_code r ≡ batch_code w bs as' → batch_answered t w as' ≡ batch w bs as'
  unfolding batch_answered
  told_stopped {r = r} e q = ap (λ (t : Result ℕ Refusal). batch_answered t w as') e ∙ batch_stopped r q

  pub told_done : {n : ℕ} → n ≡ records bs → 0 ≡ batch_code w bs as' → {u : World} {as'' : List ℕ} → going u as'' ≡ ran_from n 0 bs w as' → batch_answered (Ok n) u as'' ≡ batch w bs as'
  unfolding batch_answered
  told_done m c {u} {as''} e =
      ap (λ (n : ℕ). batched 0 u as'' n) m ∙ batch_done c (e ∙ ap (λ (n : ℕ). ran_from n 0 bs w as') m)

  -- the pool of a batch that is not refused is sound
  pub accepted_sound : Typed w.links → 0 ≡ batch_code w bs as' → Whole w
  accepted_sound t c = (examined_whole w t).0 (accepted c).passed

  pub accepted_room : 0 ≡ batch_code w bs as' → {n : ℕ} → n ≡ records bs → 40 * n ≤ length as'
  accepted_room c m = let r = (accepted c).room in omega arith

-- a view shows the pool that it was made of
pub viewed : (s : State) (p : Pool) (v : View) (bs as' : List ℕ) → v.keys.now ≡ p.keys.now → v.values.now ≡ p.values.now → v.next.now ≡ p.next.now → v.back.now ≡ p.back.now
    → {n : ℕ} → n ≡ batch_code (world_seen s v) bs as' → n ≡ batch_code (world_in s p) bs as'
viewed s p v bs as' a b c d e = let same : world_seen s v ≡ world_in s p = rw (a, b, c, d) in e ∙ ap (λ (w : World). batch_code w bs as') same
