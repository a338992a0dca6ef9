-- What each call gives, as a function of the world: document 01, "The calls" and "Numbers given back".
use Rattle.std.specs.Prelude.{true, false, List, [], ◌∷◌, ◌++◌, map, ℕ, ◌+◌, ◌-◌, length, get_or, set, drop}
use Rattle.std.proofs.Math.Option.{Option, none, some}
use Rattle.rule.specs.Lists.{join}
use Rattle.rule.specs.Rule.{Step, keep, held, push as rulePush, constrain as ruleConstrain, pop as rulePop}
use Rattle.keys.specs.declared.kind.Kind.{Kind}
use Rattle.keys.specs.Table.{bare}
use Rattle.keys.specs.Ordered.{width, ordered, is_wide}
use Rattle.pool.specs.World.{free_chain, World, blank, resized, store_key, word0, word1, key_at, top_key, size, chain, within}
use Rattle.pool.specs.Lay.{heap, with_free, lay, fresh, head_after}
use Rattle.engine.specs.Outcome.{Outcome, Listing, listing, list_unless, room_for, refused, done, given, unless, key_code, checked}
use Rattle.pool.specs.Examine.{examined, fitting}

-- ---- the calls on a sound world; a batch is a run of these

-- "Push takes the first free slot and puts it at the tail of its bucket, or of the waiting chain if there is no top": these are the free slots.
unfoldable pub push_into : World → ℕ → ℕ → ℕ → List ℕ → Outcome
push_into w a b v [] = refused w 7
push_into w a b v (s ∷ free) = done (record {
  head = resized w.head (w.head.len + 1);
  links = lay (with_free (rulePush (width w.head.kind) (λ x. ordered w.head.kind a b) keep (heap w) s) free) (size w);
  keys = store_key w.head.kind w.keys s a b;
  values = set w.values s v;
}) 0

-- 5 or 9 for the key by itself, then 6 for a key above the top, then 7 for no free slot
unfoldable pub push : World → ℕ → ℕ → ℕ → Outcome
push w a b v = unless (key_code w.head.kind a b) w (elim (within w.head.topped (ordered w.head.kind a b) (top_key w)) [
  | false ↦ refused w 6
  | true ↦ push_into w a b v (chain w free_chain)
])

-- "The call reports the entries moved, the length of the drained chain."
unfoldable pub constrain : World → Outcome
constrain w =
    let r = ruleConstrain (width w.head.kind) (key_at w) keep (heap w) in
    done (record { head = head_after w r.moved; links = lay (with_free r.heap (chain w free_chain)) (size w); keys = w.keys; values = w.values }) (length r.moved)

-- "The slot's key and value become zero and it goes to the front of the free chain. It reports its constrain's moves. A pop of an empty heap keeps the top."
unfoldable pub pop_out : World → Step ℕ → Option ℕ → Outcome
pop_out w r none = refused w 8
pop_out w r (some s) = given (record {
  head = resized (head_after w r.moved) (w.head.len - 1);
  links = lay (with_free r.heap (s ∷ chain w free_chain)) (size w);
  keys = store_key w.head.kind w.keys s 0 0;
  values = set w.values s 0;
}) (length r.moved) (word0 w s) (word1 w s) (get_or w.values s 0)

unfoldable pub pop : World → Outcome
pop w =
    let r = rulePop (width w.head.kind) (key_at w) keep (heap w) in
    pop_out w r r.given

-- "Clear gives the fresh heap of that kind; clear_to gives fresh at the key. Both report 0 moves."
unfoldable pub clear : World → Outcome
clear w = done (fresh w.head.kind (size w) false 0 0) 0

unfoldable pub clear_to : World → ℕ → ℕ → Outcome
clear_to w a b = unless (key_code w.head.kind a b) w (done (fresh w.head.kind (size w) true a b) 0)

-- "Top, length .. read only."
unfoldable pub top : World → Outcome
top w = record { code = 0; world = w; moves = 0; present = w.head.topped; key0 = w.head.top0; key1 = w.head.top1; value = 0; count = 0 }

unfoldable pub len : World → Outcome
len w = record { code = 0; world = w; moves = 0; present = false; key0 = 0; key1 = 0; value = 0; count = w.head.len }

-- ---- the public calls: 1 and 2 by the examination, then as above

unfoldable pub pushed : World → ℕ → ℕ → ℕ → Outcome
pushed w a b v = checked w (push w a b v)

unfoldable pub popped : World → Outcome
popped w = checked w (pop w)

unfoldable pub constrained : World → Outcome
constrained w = checked w (constrain w)

unfoldable pub cleared : World → Outcome
cleared w = checked w (clear w)

unfoldable pub cleared_to : World → ℕ → ℕ → Outcome
cleared_to w a b = checked w (clear_to w a b)

unfoldable pub top_read : World → Outcome
top_read w = checked w (top w)

unfoldable pub len_read : World → Outcome
len_read w = checked w (len w)

-- ---- the two fresh calls, which get a kind and a pool

-- 1 if the kind or the slices do not fit; the pool may hold anything
unfoldable pub made : Kind → List ℕ → List ℕ → List ℕ → List ℕ → Outcome
made kind keys values next back = elim (fitting (blank kind keys values next back)) [
  | false ↦ refused (blank (bare 0) keys values next back) 1
  | true ↦ done (fresh kind (length next) false 0 0) 0
]

unfoldable pub made_at : Kind → ℕ → ℕ → List ℕ → List ℕ → List ℕ → List ℕ → Outcome
made_at kind a b keys values next back = elim (fitting (blank kind keys values next back)) [
  | false ↦ refused (blank (bare 0) keys values next back) 1
  | true ↦ unless (key_code kind a b) (blank (bare 0) keys values next back) (done (fresh kind (length next) true a b) 0)
]

-- ---- listing

-- new words over the beginning of a lent slice, "and nothing past them"
unfoldable pub over : List ℕ → List ℕ → List ℕ
over new old = new ++ drop (length new) old

-- a slot's key words, as they lie in the pool
unfoldable pub words_at : World → ℕ → List ℕ
words_at w s = elim (is_wide w.head.kind) [ true ↦ word0 w s ∷ word1 w s ∷ [] | false ↦ word0 w s ∷ [] ]

-- "List order: waiting chain, then buckets 0 upwards, each front to back .. code 4 if either is too short."
unfoldable pub list : World → List ℕ → List ℕ → Listing
list w ks vs = elim (room_for w.head.kind w.head.len (length ks) (length vs)) [
  | false ↦ listing 4 w ks vs 0
  | true ↦ listing 0 w (over (join (map (words_at w) (held (heap w)))) ks) (over (map (λ s. get_or w.values s 0) (held (heap w))) vs) w.head.len
]

unfoldable pub listed : World → List ℕ → List ℕ → Listing
listed w ks vs = list_unless (examined w) w ks vs (list w ks vs)
