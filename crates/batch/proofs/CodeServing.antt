-- What the code that serves a record asks for, on plain values: the fresh world, and what each operation gives.
use mathlib.Core.Path.{◌≡◌, refl, sym, ap, ◌∙◌}
use mathlib.Core.Bool.{Bool, true, false}
use mathlib.Core.List.{List}
use Prim.Native.Nat.{ℕ, ◌*◌}
use native.Mathlib.Nat.{one-mul}
use lib.ListN.{length}
use Rattle.std.specs.Prelude.{Option, Some, None, Result, Ok, Err}
use Rattle.keys.specs.declared.kind.Kind.{Kind}
use Rattle.keys.specs.declared.words.Words.{Words}
use Rattle.keys.specs.Ordered.{words, is_wide}
use Rattle.keys.proofs.Ordered.{words_wide, words_word}
use Rattle.pool.specs.declared.state.Head.{Head}
use Rattle.pool.specs.declared.refusal.Refusal.{Refusal}
use Rattle.pool.specs.Codes.{refusal_code}
use Rattle.pool.specs.World.{Links, World}
use Rattle.pool.specs.Sound.{Whole}
use Rattle.pool.specs.Fine.{Room, Ready}
use Rattle.pool.specs.Core.{Moved, moved_to, constrain_core, fresh_core}
use Rattle.pool.specs.Fresh.{top_shown, Pooled, fresh_with}
use Rattle.pool.proofs.Refusals.{refusal_some}
use Rattle.engine.specs.Outcome.{Outcome, answered, refused, done, unless, key_code}
use Rattle.engine.specs.Core.{clear_core, clear_to_core}
use Rattle.heap.specs.Calls.{top, len}
use Rattle.heap.proofs.CodeFresh.{told_off}
use Rattle.batch.specs.declared.records.Record.{Record}
use Rattle.batch.specs.declared.records.Operation.{Operation}
use Rattle.batch.specs.declared.serving.Reply.{Reply}
use Rattle.batch.specs.Core.{operation_of, shown_first, shown_second, replied, constrained_core, operated_core, asked_core, served_core}

-- ---- replies

-- moves alone
pub moved_replied : {s : Reply} {w : World} {moves : ℕ} {o : Outcome} → s ≡ record { moves = moves; key = None; value = 0; count = 0 } → answered 0 w moves false 0 0 0 0 ≡ o → replied (Ok s) w ≡ o
unfolding replied shown_first shown_second
moved_replied {w = w} e p = ap (λ (s : Reply). replied (Ok s) w) e ∙ p

-- a refusal that is passed on
pub err_replied : {t : Result Reply Refusal} {r q : Refusal} {w : World} {o : Outcome} → t ≡ Err r → r ≡ q → answered (refusal_code q) w 0 false 0 0 0 0 ≡ o → replied t w ≡ o
unfolding replied
err_replied {w = w} e f p = ap (λ (t : Result Reply Refusal). replied t w) (e ∙ ap (λ (r : Refusal). Err r) f) ∙ p

-- on a sound pool both words are 0 where there is no top
pub top_replied : {w : World} → Whole w → replied (Ok (record { moves = 0; key = top_shown w.head; value = 0; count = 0 })) w ≡ top w
unfolding replied shown_first shown_second top_shown top
top_replied {w} h = go w.head.topped refl
  where
    go : (x : Bool) → w.head.topped ≡ x → replied (Ok (record { moves = 0; key = top_shown w.head; value = 0; count = 0 })) w ≡ top w
    go true e = rw e
    go false e = rw (e, h.sound.no_top0 e, h.sound.no_top1 e)

pub top_told : {w : World} → Whole w → {m : Reply} {t : Option Words} → m ≡ record { moves = 0; key = None; value = 0; count = 0 } → t ≡ top_shown w.head
    → replied (Ok (record { moves = m.moves; key = t; value = m.value; count = m.count })) w ≡ top w
top_told h e f = rw (e, f) (top_replied h)

pub len_told : (w : World) {m : Reply} → m ≡ record { moves = 0; key = None; value = 0; count = 0 } → replied (Ok (record { moves = m.moves; key = m.key; value = m.value; count = w.head.len })) w ≡ len w
unfolding replied shown_first shown_second len
len_told w e = rw e refl

-- ---- a fresh pool

-- what is ready has slices of one size
ready_words : {kind : Kind} {n : ℕ} {keys : List ℕ} → Room kind n keys → (x : Bool) → is_wide kind ≡ x → length keys ≡ words kind * n
ready_words {kind} {n} m true e = m.wide e ∙ ap (λ (x : ℕ). x * n) (sym (words_wide kind e))
ready_words {kind} {n} m false q = m.narrow q ∙ rw (words_word kind q, one-mul)

pub ready_pooled : {h : Head} {k : Links} {keys values : List ℕ} → Ready h k keys values → Pooled h.kind keys values k.next k.back
ready_pooled {h} r = record { words' = ready_words r.room (is_wide h.kind) refl; values' = r.sized; backs = r.fine.backs }

-- the kind stays
pub fresh_kind : (kind : Kind) (n : ℕ) (top : Option Words) → (fresh_with kind n top).head.kind ≡ kind
unfolding fresh_with fresh_core
fresh_kind kind n None = refl
fresh_kind kind n (Some k) = refl

-- ---- the operations

pub clear_fresh : (w : World) {u : World} → u ≡ fresh_with w.head.kind (length w.links.next) None → answered 0 u 0 false 0 0 0 0 ≡ clear_core w
unfolding clear_core done fresh_with
clear_fresh w e = ap (λ (u : World). done u 0) e

module _ (w : World) (k : Words) {kind : Kind} (same : kind ≡ w.head.kind) where
  pub clear_to_refused : (r : Refusal) → refusal_code r ≡ key_code kind k.first k.second → answered (refusal_code r) w 0 false 0 0 0 0 ≡ clear_to_core w k.first k.second
  unfolding clear_to_core refused
  clear_to_refused r e = told_off w (refusal_code r) (key_code w.head.kind k.first k.second) (e ∙ ap (λ (q : Kind). key_code q k.first k.second) same) (refusal_some r) _

  pub clear_to_fresh : 0 ≡ key_code kind k.first k.second → {u : World} → u ≡ fresh_with w.head.kind (length w.links.next) (Some k) → answered 0 u 0 false 0 0 0 0 ≡ clear_to_core w k.first k.second
  unfolding clear_to_core done unless fresh_with
  clear_to_fresh m e = ap (λ (u : World). done u 0) e ∙ ap (λ (c : ℕ). unless c w (done (fresh_core w.head.kind (length w.links.next) true k.first k.second) 0)) (m ∙ ap (λ (q : Kind). key_code q k.first k.second) same)

pub constrain_done : (w : World) {m : Moved} → m ≡ constrain_core w.head w.links w.keys → answered 0 (moved_to w m) m.moves false 0 0 0 0 ≡ constrained_core w
unfolding constrained_core done
constrain_done w e = ap (λ (m : Moved). done (moved_to w m) m.moves) e

-- each operation
pub acts : (w : World) {a b : Operation} {o : Outcome} → a ≡ b → o ≡ operated_core w b → o ≡ operated_core w a
acts w e p = p ∙ ap (operated_core w) (sym e)

-- ---- what was asked

module _ (w : World) (r : Record) {kind : Kind} (same : kind ≡ w.head.kind) where
  asked_is : {t : Result Operation Refusal} → t ≡ operation_of kind r → asked_core w t ≡ served_core w r
  unfolding served_core
  asked_is e = ap (asked_core w) (e ∙ ap (λ (k : Kind). operation_of k r) same)

  pub serve_done : {a : Operation} {o : Outcome} → Ok a ≡ operation_of kind r → o ≡ operated_core w a → o ≡ served_core w r
  unfolding asked_core
  serve_done e p = p ∙ asked_is e

  pub serve_refused : {q : Refusal} → Err q ≡ operation_of kind r → answered (refusal_code q) w 0 false 0 0 0 0 ≡ served_core w r
  unfolding asked_core refused
  serve_refused e = asked_is e
