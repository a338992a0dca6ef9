-- What the code of the calls asks for past the examination, on plain values: on a sound pool what the engine gives is what the call is to give, and the tests of `list`'s rooms.
use Prim.Native.Nat.{ℕ, ◌*◌, ◌/◌, ◌≤◌, ◌<◌}
use mathlib.Core.Path.{◌≡◌, refl, sym, ap, ◌∙◌}
use mathlib.Core.Bool.{Bool, true, false, cond, ◌&&◌}
use Rattle.std.specs.Prelude.{Option, Some, None, Ok}
use mathlib.Core.List.{List}
use native.Mathlib.Nat.{one-mul}
use native.Mathlib.Omega.{arith}
use borrow.Author.Tests.{leb-true, leb-false, le-leb, lt-leb}
use lib.Dec.{leb}
use lib.ListN.{length}
use Rattle.keys.specs.declared.kind.Kind.{Kind}
use Rattle.keys.specs.declared.words.Words.{Words}
use Rattle.keys.specs.Ordered.{is_wide}
use Rattle.keys.proofs.Ordered.{words_wide, words_word}
use Rattle.pool.specs.World.{World}
use Rattle.pool.specs.Sound.{Whole}
use Rattle.pool.specs.Fresh.{top_shown}
use Rattle.pool.specs.Core.{Moved, moved_to, constrain_core}
use Rattle.pool.proofs.Follows.{examined_whole}
use Rattle.engine.specs.Outcome.{Outcome, answered, done, listing, room_for}
use Rattle.engine.specs.Core.{push_core, pop_core, Written, list_entries, list_all, list_core}
use Rattle.engine.specs.Room.{Roomy}
use Rattle.engine.specs.Answers.{top_answered}
use Rattle.heap.specs.Calls.{push, pop, constrain, top, list, pushed, popped, constrained, top_read, listed}
use Rattle.heap.proofs.Calls.{push_core_lem, pop_core_lem, constrain_core_lem}
use Rattle.heap.proofs.Public.{passes}
use Rattle.heap.proofs.ListLaws.{room_enough, core_by, list_core_lem}
use Rattle.heap.proofs.CodeChecked.{passed_list}

-- ---- push, pop and constrain

module _ {w : World} (h : Whole w) where
  pub pushed_is : (a b v : ℕ) {o : Outcome} → o ≡ push_core w a b v → o ≡ pushed w a b v
  unfolding pushed
  pushed_is a b v e = e ∙ push_core_lem h a b v ∙ sym (passes h (push w a b v))

  pub popped_is : {o : Outcome} → o ≡ pop_core w → o ≡ popped w
  unfolding popped
  popped_is e = e ∙ pop_core_lem h ∙ sym (passes h (pop w))

  top_there : (k : Words) → w.head.topped ≡ true → k.first ≡ w.head.top0 → k.second ≡ w.head.top1 → answered 0 w 0 true k.first k.second 0 0 ≡ top_read w
  unfolding top_read top
  top_there k t a b = rw (a, b, ← t) refl ∙ sym (passes h (top w))

  -- with no top both words are 0
  top_absent : w.head.topped ≡ false → answered 0 w 0 false 0 0 0 0 ≡ top_read w
  unfolding top_read top
  top_absent t = (λ i. answered 0 w 0 (sym t i) (sym (h.sound.no_top0 t) i) (sym (h.sound.no_top1 t) i) 0 0) ∙ sym (passes h (top w))

  pub top_is : {t : Option Words} → t ≡ top_shown w.head → top_answered (Ok t) w ≡ top_read w
  unfolding top_shown top_answered
  top_is e = ap (λ (t : Option Words). top_answered (Ok t) w) e ∙ go w.head.topped refl
    where
      go : (x : Bool) → w.head.topped ≡ x → top_answered (Ok (cond x (Some (record { first = w.head.top0; second = w.head.top1 })) None)) w ≡ top_read w
      go true t = top_there (record { first = w.head.top0; second = w.head.top1 }) t refl refl
      go false t = top_absent t

  pub constrained_is : {m : Moved} → m ≡ constrain_core w.head w.links w.keys → answered 0 (moved_to w m) m.moves false 0 0 0 0 ≡ constrained w
  unfolding constrained done
  constrained_is e = ap (λ (m : Moved). done (moved_to w m) m.moves) e ∙ constrain_core_lem h ∙ sym (passes h (constrain w))

-- ---- the rooms of a list

-- so many pairs of words, counted from either side
halves : (len ks : ℕ) → leb len (ks / 2) ≡ leb (2 * len) ks
halves len ks = go (leb len (ks / 2)) refl
  where
    go : (x : Bool) → leb len (ks / 2) ≡ x → x ≡ leb (2 * len) ks
    go true e = let l = leb-true len (ks / 2) e in sym (le-leb (2 * len) ks (omega arith))
    go false e = let l = leb-false len (ks / 2) e in sym (lt-leb (2 * len) ks (omega arith))

module _ (kind : Kind) (len ks vs p : ℕ) where
  pub room_pairs : is_wide kind ≡ true → p ≡ ks / 2 → (leb len p && leb len vs) ≡ room_for kind len ks vs
  unfolding room_for
  room_pairs e q = rw (q, words_wide kind e) (ap (λ (x : Bool). x && leb len vs) (halves len ks))

  pub room_words : is_wide kind ≡ false → p ≡ ks → (leb len p && leb len vs) ≡ room_for kind len ks vs
  unfolding room_for
  room_words n q = rw (q, words_word kind n, one-mul)

-- both of two tests, where the first is known
module _ (len p : ℕ) (y z : Bool) (e : (leb len p && y) ≡ z) where
  pub both_then : len ≤ p → y ≡ z
  both_then l = rw (le-leb len p l) at e

  pub both_else : p < len → leb len p ≡ z
  both_else l = lt-leb len p l ∙ (rw (lt-leb len p l) at e)

pub roomy : (kind : Kind) (len : ℕ) (ks vs : List ℕ) → room_for kind len (length ks) (length vs) ≡ true → Roomy kind len ks vs
roomy kind len ks vs e =
    let r = room_enough kind len (length ks) (length vs) e in
    record {
      wide = λ p. rw (words_wide kind p) at r.0;
      narrow = λ n. rw (words_word kind n, one-mul) at r.0;
      values = r.1;
    }

-- ---- list

module _ {w : World} (h : Whole w) (ks vs : List ℕ) where
  listed_is : list_core w ks vs ≡ listed w ks vs
  unfolding listed
  listed_is = list_core_lem h ks vs ∙ passed_list w _ refl ks vs (list w ks vs) ((examined_whole w h.typed).1 h)

  pub listed_short : room_for w.head.kind w.head.len (length ks) (length vs) ≡ false → listing 4 w ks vs 0 ≡ listed w ks vs
  listed_short e = sym (core_by h ks vs false e) ∙ listed_is

  pub listed_all : room_for w.head.kind w.head.len (length ks) (length vs) ≡ true → {o : Written} → o ≡ list_entries w.head.len w.head.kind w.keys w.values w.links.first w.links.next ks vs
      → listing 0 w o.keys o.values w.head.len ≡ listed w ks vs
  unfolding list_all
  listed_all e q = ap (λ (o : Written). listing 0 w o.keys o.values w.head.len) q ∙ sym (core_by h ks vs true e) ∙ listed_is
