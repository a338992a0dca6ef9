-- What the core does, as its code does it: stores into the lists, loops by recursion with the fuel first.
-- Contracts of inner functions cite these; a reader of the promises need not.
use Rattle.std.specs.Prelude.{Bool, true, false, cond, ◌||◌, List, [], ◌∷◌, ℕ, zero, suc, ◌+◌, ◌-◌, ◌*◌, ltb, eqb, length, get_or, set, replicate}
use Rattle.rule.specs.Width.{distance}
use Rattle.keys.specs.Ordered.{width, words, ordered}
use Rattle.keys.specs.declared.kind.Kind.{Kind}
use Rattle.pool.specs.declared.state.Head.{Head}
use Rattle.pool.specs.declared.state.State.{State}
use Rattle.pool.specs.Marks.{marked, unmarked}
use Rattle.pool.specs.World.{waiting_chain, free_chain, chain_count, Links, links, World, chain_set, resized, topped_at, store_key, key_word0, key_word1, slot_key, top_of, place}

-- ---- one chain

-- Slot i becomes the last of chain c. The first argument says whether the chain is empty.
unfoldable pub appended_by : Bool → Links → ℕ → ℕ → Links
unfolding marked
appended_by true k c i = record {
  first = set k.first c (i + 1);
  last = set k.last c (i + 1);
  next = set k.next i 0;
  back = set k.back i (get_or k.last c 0);
  busy = marked k.busy c;
}
appended_by false k c i = record {
  first = k.first;
  last = set k.last c (i + 1);
  next = set (set k.next (get_or k.last c 0 - 1) (i + 1)) i 0;
  back = set k.back i (get_or k.last c 0);
  busy = k.busy;
}

unfoldable pub appended : Links → ℕ → ℕ → Links
unfolding appended_by
appended k c i = appended_by (eqb (get_or k.last c 0) 0) k c i

-- Slot i, the first of the free chain, leaves it. The first argument says whether there is no other, and r is the link to the next one.
unfoldable pub unhooked_by : Bool → Links → ℕ → Links
unhooked_by true k r = record { first = set k.first free_chain r; last = set k.last free_chain 0; next = k.next; back = k.back; busy = k.busy }
unhooked_by false k r = record { first = set k.first free_chain r; last = k.last; next = k.next; back = k.back; busy = k.busy }

unfoldable pub unhooked : Links → ℕ → Links
unfolding unhooked_by
unhooked k i = unhooked_by (eqb (get_or k.next i 0) 0) k (get_or k.next i 0)

-- Bucket 0 now ends at the link p: where there is none, it is empty.
unfoldable pub cut : Bool → Links → ℕ → Links
unfolding unmarked
cut true k p = links (set k.first 0 0) (set k.last 0 p) k.next k.back (unmarked k.busy 0)
cut false k p = links k.first (set k.last 0 p) (set k.next (p - 1) 0) k.back k.busy

-- a slot that was taken off a chain, and the links then
pub record Unhooked : Type 0 where
  pub to : Links
  pub slot : ℕ

abbrev pub off : Links → ℕ → Unhooked
off k i = record { to = k; slot = i }

-- the first slot of the free chain leaves it
unfoldable pub free_taken : Links → Unhooked
unfolding unhooked
free_taken k = off (unhooked k (get_or k.first free_chain 0 - 1)) (get_or k.first free_chain 0 - 1)

-- the last slot of bucket 0 leaves it
unfoldable pub tail_unhooked : Links → Unhooked
unfolding cut
tail_unhooked k =
    let i : ℕ = get_or k.last 0 0 - 1 in
    let p : ℕ = get_or k.back i 0 in
    off (cut (eqb p 0) k p) i

-- Slot i, whose link is f, goes to the front of the free chain. The first argument says whether that chain is empty.
unfoldable pub freed : Bool → Links → ℕ → ℕ → Links
freed true k i f = links (set k.first free_chain f) (set k.last free_chain f) (set k.next i (get_or k.first free_chain 0)) (set k.back i 0) k.busy
freed false k i f = links (set k.first free_chain f) k.last (set k.next i (get_or k.first free_chain 0)) (set k.back i 0) k.busy

unfoldable pub emptied : Links → ℕ → Links
unfolding unmarked
emptied k c = record { first = set k.first c 0; last = set k.last c 0; next = k.next; back = k.back; busy = unmarked k.busy c }

-- ---- along a chain

-- of the links a and b, a if its slot's key is greater
unfoldable pub better : Kind → List ℕ → ℕ → ℕ → ℕ
better kind keys a b = cond (ltb (slot_key kind keys (b - 1)) (slot_key kind keys (a - 1))) a b

-- the link of the first slot with the greatest key: `best`, or one in at most m turns from the link `at` on
unfoldable pub greatest_from : ℕ → Kind → List ℕ → List ℕ → ℕ → ℕ → ℕ
unfolding better
greatest_from zero kind keys next at best = best
greatest_from (suc m) kind keys next at best =
    let r = greatest_from m kind keys next (get_or next (at - 1) 0) (better kind keys at best) in
    cond (eqb at 0) best r

-- of the chain from the link a on
unfoldable pub greatest_of : Kind → List ℕ → List ℕ → ℕ → ℕ
unfolding greatest_from
greatest_of kind keys next a = greatest_from (length next) kind keys next (get_or next (a - 1) 0) a

pub record Drained : Type 0 where
  pub to : Links
  pub moves : ℕ

abbrev pub drained : Links → ℕ → Drained
drained k m = record { to = k; moves = m }

-- each slot from the link `at` on goes to the tail of its bucket under the top t, in at most m turns; `moves` were moved before
unfoldable pub drain_from : ℕ → Kind → List ℕ → ℕ → ℕ → ℕ → Links → Drained
unfolding appended
drain_from zero kind keys t at moves k = drained k moves
drain_from (suc m) kind keys t zero moves k = drained k moves
drain_from (suc m) kind keys t (suc i) moves k =
    drain_from m kind keys t (get_or k.next i 0) (moves + 1) (appended k (distance (width kind) (slot_key kind keys i) t) i)

unfoldable pub drain_chain : Kind → List ℕ → ℕ → ℕ → Links → Drained
unfolding drain_from emptied
drain_chain kind keys t c k = drain_from (length k.next) kind keys t (get_or k.first c 0) 0 (emptied k c)

-- the first of m chains from b on that is not empty, else b + m
unfoldable pub busy_from : ℕ → List ℕ → ℕ → ℕ
busy_from zero first b = b
busy_from (suc m) first b =
    let r = busy_from m first (b + 1) in
    cond (eqb (get_or first b 0) 0) r b

-- ---- steps of the calls

-- the slot goes from the front of the free chain to the tail of its chain, with this key and value
unfoldable pub place_in : Head → ℕ → ℕ → ℕ
place_in h a b = place h.topped (distance (width h.kind) (ordered h.kind a b) (top_of h))

unfoldable pub entered : World → ℕ → ℕ → ℕ → ℕ → World
unfolding appended unhooked place_in
entered w i a b v = record {
  head = resized w.head (w.head.len + 1);
  links = appended (unhooked w.links i) (place_in w.head a b) i;
  keys = store_key w.head.kind w.keys i a b;
  values = set w.values i v;
}

pub record Moved : Type 0 where
  pub head : Head
  pub to : Links
  pub moves : ℕ

abbrev pub shifted : Head → Links → ℕ → Moved
shifted h k m = record { head = h; to = k; moves = m }

-- the world that such a step leads to
abbrev pub moved_to : World → Moved → World
moved_to w m = record { head = m.head; links = m.to; keys = w.keys; values = w.values }

-- chain c is drained, unless the first argument says no: the top becomes its greatest key
unfoldable pub drain_unless : Bool → Head → Links → List ℕ → ℕ → Moved
unfolding greatest_of drain_chain
drain_unless true h k keys c = record { head = h; to = k; moves = 0 }
drain_unless false h k keys c =
    let g : ℕ = greatest_of h.kind keys k.next (get_or k.first c 0) - 1 in
    let d : Drained = drain_chain h.kind keys (slot_key h.kind keys g) c k in
    record { head = topped_at h (key_word0 h.kind keys g) (key_word1 h.kind keys g); to = d.to; moves = d.moves }

-- the first argument says whether there is a top
unfoldable pub constrain_by : Bool → Head → Links → List ℕ → Moved
unfolding drain_unless busy_from
constrain_by false h k keys = drain_unless (eqb (get_or k.first waiting_chain 0) 0) h k keys waiting_chain
constrain_by true h k keys =
    let b : ℕ = busy_from waiting_chain k.first 0 in
    drain_unless (eqb b 0 || eqb b waiting_chain) h k keys b

unfoldable pub constrain_core : Head → Links → List ℕ → Moved
unfolding constrain_by
constrain_core h k keys = constrain_by h.topped h k keys

-- Slot i leaves a pool: its key and value become zero and it goes to the front of the free chain.
pub record Pool : Type 0 where
  pub to : Links
  pub keys : List ℕ
  pub values : List ℕ

abbrev pub cleared : Links → List ℕ → List ℕ → Pool
cleared k keys values = record { to = k; keys = keys; values = values }

unfoldable pub released : Kind → Links → List ℕ → List ℕ → ℕ → Pool
unfolding freed
released kind k keys values i = record {
  to = freed (eqb (get_or k.first free_chain 0) 0) k i (i + 1);
  keys = store_key kind keys i 0 0;
  values = set values i 0;
}

-- a world that gave out a slot: the moves of its constrain, and the slot's key words and value
pub record Popped : Type 0 where
  pub world : World
  pub moves : ℕ
  pub key0 : ℕ
  pub key1 : ℕ
  pub value : ℕ

abbrev pub popped : World → ℕ → ℕ → ℕ → ℕ → Popped
popped w moves a b v = record { world = w; moves = moves; key0 = a; key1 = b; value = v }

-- the tail of bucket 0, of a world led to by m, is given out
unfoldable pub pop_tail : Moved → List ℕ → List ℕ → Popped
unfolding tail_unhooked released
pop_tail m keys values =
    let u : Unhooked = tail_unhooked m.to in
    let p : Pool = released m.head.kind u.to keys values u.slot in
    record {
      world = record { head = resized m.head (m.head.len - 1); links = p.to; keys = p.keys; values = p.values };
      moves = m.moves;
      key0 = key_word0 m.head.kind keys u.slot;
      key1 = key_word1 m.head.kind keys u.slot;
      value = get_or values u.slot 0;
    }

-- one constrain, if the first argument says that bucket 0 is empty
unfoldable pub readied : Bool → Head → Links → List ℕ → Moved
unfolding constrain_core
readied true h k keys = constrain_core h k keys
readied false h k keys = record { head = h; to = k; moves = 0 }

-- ---- fresh

-- the next links of a fresh pool, from slot i on
unfoldable pub fresh_next : ℕ → ℕ → List ℕ
fresh_next i zero = []
fresh_next i (suc zero) = 0 ∷ []
fresh_next i (suc (suc k)) = suc (suc i) ∷ fresh_next (suc i) (suc k)

unfoldable pub fresh_first : ℕ → ℕ
fresh_first zero = 0
fresh_first (suc n) = 1

-- the free chain of 131 equal elements is set
unfoldable pub fresh_links : ℕ → Links
unfolding fresh_next fresh_first
fresh_links n = links (set (replicate chain_count 0) free_chain (fresh_first n)) (set (replicate chain_count 0) free_chain n) (fresh_next 0 n) (replicate n 0) (replicate 3 0)

unfoldable pub fresh_core : Kind → ℕ → Bool → ℕ → ℕ → World
unfolding fresh_links
fresh_core kind n topped a b = record {
  head = record { kind = kind; len = 0; topped = topped; top0 = a; top1 = b };
  links = fresh_links n;
  keys = replicate (words kind * n) 0;
  values = replicate n 0;
}

-- the state of a fresh heap: 131 equal chains, and then the free one set
unfoldable pub fresh_state : Kind → ℕ → Bool → ℕ → ℕ → State
unfolding fresh_first chain_set
fresh_state kind n topped a b = chain_set (record {
  head = record { kind = kind; len = 0; topped = topped; top0 = a; top1 = b };
  first = replicate chain_count 0;
  last = replicate chain_count 0;
  busy = replicate 3 0;
}) free_chain (fresh_first n) n
