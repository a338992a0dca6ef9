-- A batch is its records one after the other: what its code does is what document 01 says, it leaves a sound world, a refused batch
-- changes nothing, and its answers are those of the public calls.
use mathlib.Core.Path.{◌≡◌, refl, sym, ap, ap₂, ◌∙◌}
use mathlib.Core.Logic.{◌≢◌}
use mathlib.Core.Bool.{Bool, true, false, cond}
use mathlib.Core.List.{List, [], ◌∷◌, ◌++◌, append-nil, append_assoc}
use Prim.Native.Nat.{ℕ, zero, suc, ◌+◌, ◌*◌, ◌≤◌}
use native.Mathlib.Nat.{add-zero, zero-add, add_assoc}
use native.Mathlib.Omega.{arith}
use borrow.Author.Tests.{eqb-true}
use lib.Dec.{eqb}
use lib.ListN.{length, take, drop, length-append, length-drop, take-append-drop}
use lib.Seq.{length-take-le, drop-drop, take_at, drop_at}
use Rattle.std.specs.Prelude.{Result, Ok, Err}
use Rattle.pool.specs.declared.refusal.Refusal.{Refusal}
use Rattle.pool.specs.declared.state.Answer.{Answer}
use Rattle.pool.proofs.Refusals.{result_of, result_err}
use Rattle.pool.specs.World.{World}
use Rattle.pool.specs.Sound.{Typed, Whole}
use Rattle.pool.specs.Examine.{examined}
use Rattle.pool.proofs.Follows.{examined_whole}
use Rattle.engine.specs.Outcome.{Outcome, refused}
use Rattle.heap.specs.Calls.{push, pop, constrain, clear, clear_to, top, len, pushed, popped, constrained, cleared, cleared_to, top_read, len_read, over}
use Rattle.heap.proofs.Public.{passes}
use Rattle.heap.proofs.Determined.{Pool, over as worldWith, state_in, pool_in}
use Rattle.batch.specs.declared.records.Record.{Record}
use Rattle.batch.specs.Bytes.{written_at}
use Rattle.batch.specs.Records.{record_at, records_from, formed}
use Rattle.batch.specs.Batch.{operated, served, answer_of, world_after, answers_of, called, world_called, answers_called, Batched, batched, records, batch_code, ran, batch_unless, batch, batch_answered}
use Rattle.batch.specs.Core.{going, ran_from}
use Rattle.batch.proofs.Numbers.{length_answer}
use Rattle.batch.proofs.Served.{Kept, served_whole, served_keeps}

-- ---- bytes over bytes

module _ (p : ℕ) (new old : List ℕ) (room : p + length new ≤ length old) where
  front : length (take p old ++ new) ≡ p + length new
  front = simp length-append (ap (λ (n : ℕ). n + length new) (length-take-le p old (omega arith)))

  pub length_written : length (written_at p new old) ≡ length old
  unfolding written_at
  length_written = simp (length-append (take p old ++ new), length-drop) (omega (arith, front))

  -- bytes after those that were written
  pub written_on : (more : List ℕ) → written_at (p + length new) more (written_at p new old) ≡ written_at p (new ++ more) old
  unfolding written_at
  written_on more =
      let q = p + length new in
      let end : q + length more ≡ p + length (new ++ more) = simp (length-append, add_assoc) in
      let x = take p old ++ new in
      let y = drop q old in
      let before : take q (x ++ y) ≡ x = take_at x y q front in
      let behind : drop (q + length more) (x ++ y) ≡ drop (p + length (new ++ more)) old =
      sym (drop-drop (length more) q (x ++ y)) ∙ ap (drop (length more)) (drop_at x y q front) ∙ drop-drop (length more) q old
      ∙ ap (λ (n : ℕ). drop n old) end in
      ap₂ (λ (l r : List ℕ). l ++ more ++ r) before behind ∙ ap (λ (l : List ℕ). l ++ drop (p + length (new ++ more)) old) (append_assoc (take p old) new more)

written_none : (p : ℕ) (old : List ℕ) → written_at p [] old ≡ old
unfolding written_at
written_none p old = rw (append-nil (take p old), add-zero p) (take-append-drop p old)

written_over : (new old : List ℕ) → written_at 0 new old ≡ over new old
unfolding written_at over
written_over new old = rw (zero-add (length new))

-- ---- the records one after the other

pub answer_long : (o : Outcome) → length (answer_of o) ≡ 40
answer_long o = length_answer o.code o.present o.moves o.world.head.len o.key0 o.key1 o.value

-- from record i on, each answer goes into its own 40 bytes
ran_from_lem : (k i : ℕ) (bs : List ℕ) (w : World) (as' : List ℕ) → 40 * (i + k) ≤ length as'
    → ran_from k i bs w as' ≡ going (world_after w (records_from k bs (32 * i))) (written_at (40 * i) (answers_of w (records_from k bs (32 * i))) as')
unfolding ran_from records_from world_after answers_of
ran_from_lem zero i bs w as' m = ap (going w) (sym (written_none (40 * i) as'))
ran_from_lem (suc k) i bs w as' m =
    let o = served w (record_at bs (32 * i)) in
    let a = answer_of o in
    let long = answer_long o in
    let room : 40 * i + length a ≤ length as' = omega arith in
    let next : 40 * (i + 1) ≡ 40 * i + length a = omega arith in
    let place : 32 * (i + 1) ≡ 32 * i + 32 = omega arith in
    let more = answers_of o.world (records_from k bs (32 * i + 32)) in
    ran_from_lem k (i + 1) bs o.world (written_at (40 * i) a as') (omega (arith, length_written (40 * i) a as' room))
    ∙ ap (λ (x : ℕ). going (world_after o.world (records_from k bs x)) (written_at (40 * (i + 1)) (answers_of o.world (records_from k bs x)) (written_at (40 * i) a as'))) place
    ∙ ap (going (world_after o.world (records_from k bs (32 * i + 32)))) (ap (λ (x : ℕ). written_at x more (written_at (40 * i) a as')) next ∙ written_on (40 * i) a as' room more)

-- what the code of a batch does is what document 01 says
pub ran_all : (n : ℕ) (bs : List ℕ) (w : World) (as' : List ℕ) → 40 * n ≤ length as' → ran_from n 0 bs w as' ≡ going (world_after w (records_from n bs 0)) (over (answers_of w (records_from n bs 0)) as')
ran_all n bs w as' m = ran_from_lem n 0 bs w as' (omega arith) ∙ ap (going (world_after w (records_from n bs 0))) (written_over (answers_of w (records_from n bs 0)) as')

pub after_whole : {w : World} → Whole w → (rs : List Record) → Whole (world_after w rs)
unfolding world_after
after_whole {w = w} h [] = h
after_whole {w = w} h (r ∷ rs) = after_whole {w = (served w r).world} (served_whole h r) rs

pub after_keeps : (w : World) (rs : List Record) → Kept w (world_after w rs)
unfolding world_after
after_keeps w [] = record { kind = refl; slots = refl }
after_keeps w (r ∷ rs) =
    let k = served_keeps w r in
    let m = after_keeps (served w r).world rs in
    record { kind = m.kind ∙ k.kind; slots = m.slots ∙ k.slots }

-- ---- the batch

module _ (w : World) (bs as' : List ℕ) where
  unless_code : (c : ℕ) → (batch_unless c w as' (ran w bs as')).code ≡ c
  unfolding batch_unless ran
  unless_code zero = refl
  unless_code (suc c) = refl

  pub batch_code_lem : (batch w bs as').code ≡ batch_code w bs as'
  unfolding batch
  batch_code_lem = unless_code (batch_code w bs as')

  -- a batch that is not refused
  pub batch_ran : batch_code w bs as' ≡ 0 → batch w bs as' ≡ ran w bs as'
  unfolding batch batch_unless
  batch_ran e = ap (λ (c : ℕ). batch_unless c w as' (ran w bs as')) e

  -- a batch that is refused changes nothing, whatever the world
  pub batch_refused : (batch w bs as').code ≢ 0 → batch w bs as' ≡ batched (batch w bs as').code w as' 0
  unfolding batch batch_unless ran
  batch_refused = go (batch_code w bs as')
    where
      go : (c : ℕ) → (batch_unless c w as' (ran w bs as')).code ≢ 0 → batch_unless c w as' (ran w bs as') ≡ batched (batch_unless c w as' (ran w bs as')).code w as' 0
      go zero n = absurd (n refl)
      go (suc c) n = refl

  -- a sound world stays sound
  pub batch_whole : Whole w → Whole (batch w bs as').world
  unfolding batch batch_unless ran
  batch_whole h = go (batch_code w bs as')
    where
      go : (c : ℕ) → Whole (batch_unless c w as' (ran w bs as')).world
      go zero = after_whole h (records_from (records bs) bs 0)
      go (suc c) = h

-- ---- the public calls

-- on a sound world what a record gives is what its public call gives
pub served_called : {w : World} → Whole w → (r : Record) → served w r ≡ called w r
unfolding served operated called pushed popped constrained cleared cleared_to top_read len_read
served_called {w} h r = λ i.
    cond (formed w.head.kind r)
    (cond (eqb r.op 1) (sym (passes h (push w r.key.first r.key.second r.value)) i)
    (cond (eqb r.op 2) (sym (passes h (pop w)) i)
    (cond (eqb r.op 3) (sym (passes h (constrain w)) i)
    (cond (eqb r.op 4) (sym (passes h (clear w)) i)
    (cond (eqb r.op 5) (sym (passes h (clear_to w r.key.first r.key.second)) i)
    (cond (eqb r.op 6) (sym (passes h (top w)) i) (sym (passes h (len w)) i)))))))
    (refused w 5)

-- .. so that the records of a batch are the public calls in their order, state and pool handed on
pub records_called : {w : World} → Whole w → (rs : List Record) → (world_after w rs ≡ world_called w rs) × (answers_of w rs ≡ answers_called w rs)
unfolding world_after world_called answers_of answers_called
records_called {w = w} h [] = (refl, refl)
records_called {w = w} h (r ∷ rs) =
    let e = served_called h r in
    let m = records_called {w = (served w r).world} (served_whole h r) rs in (
      m.0 ∙ ap (λ (o : Outcome). world_called o.world rs) e,
      ap (λ (l : List ℕ). answer_of (served w r) ++ l) m.1 ∙ ap (λ (o : Outcome). answer_of o ++ answers_called o.world rs) e,
    )

module _ (w : World) (typed : Typed w.links) (bs as' : List ℕ) (accepted : batch_code w bs as' ≡ 0) where
  pub accepted_whole : Whole w
  unfolding batch_code
  accepted_whole = (examined_whole w typed).0 (go (eqb (examined w) 0) refl _ accepted)
    where
      go : (x : Bool) → eqb (examined w) 0 ≡ x → (d : ℕ) → cond x d (examined w) ≡ 0 → examined w ≡ 0
      go true p d e = eqb-true (examined w) 0 p
      go false p d e = e

  -- a batch that is not refused is these calls, answer by answer and byte by byte
  pub batch_is_the_calls : batch w bs as' ≡ batched 0 (world_called w (records_from (records bs) bs 0)) (over (answers_called w (records_from (records bs) bs 0)) as') (records bs)
  unfolding ran
  batch_is_the_calls =
      let m = records_called accepted_whole (records_from (records bs) bs 0) in
      batch_ran w bs as' accepted ∙ ap₂ (λ (u : World) (l : List ℕ). batched 0 u (over l as') (records bs)) m.0 m.1

-- ---- no second outcome

-- what the caller was told is known by the number of it and of the records
heard : (t : Result ℕ Refusal) (w : World) (as' : List ℕ) → result_of (batch_answered t w as').code (batch_answered t w as').count ≡ t
unfolding batch_answered result_of
heard (Ok n) w as' = refl
heard (Err r) w as' = result_err r 0

left : (t : Result ℕ Refusal) (w : World) (as' : List ℕ) → ((batch_answered t w as').world ≡ w) × ((batch_answered t w as').answers ≡ as')
unfolding batch_answered
left (Ok n) w as' = (refl, refl)
left (Err r) w as' = (refl, refl)

-- two answers, with the pools and the answer bytes that they leave, that satisfy the contract are the same
pub determined_batch : (w : World) (bs as' : List ℕ) (p p' : Pool) (as₁ as₂ : List ℕ) (r r' : Answer ℕ Refusal) → batch_answered r.told (worldWith r.state p) as₁ ≡ batch w bs as'
    → batch_answered r'.told (worldWith r'.state p') as₂ ≡ batch w bs as' → (r ≡ r') × (p ≡ p') × (as₁ ≡ as₂)
determined_batch w bs as' p p' as₁ as₂ r r' e f =
    let u = worldWith r.state p in
    let u' = worldWith r'.state p' in
    let g : batch_answered r.told u as₁ ≡ batch_answered r'.told u' as₂ = e ∙ sym f in
    let t : r.told ≡ r'.told = sym (heard r.told u as₁) ∙ ap (λ (b : Batched). result_of b.code b.count) g ∙ heard r'.told u' as₂ in
    let v : u ≡ u' = sym (left r.told u as₁).0 ∙ ap (λ (b : Batched). b.world) g ∙ (left r'.told u' as₂).0 in (
      (λ i. record { told = t i; state = state_in (v i) }),
      ap pool_in v,
      sym (left r.told u as₁).1 ∙ ap (λ (b : Batched). b.answers) g ∙ (left r'.told u' as₂).1,
    )
