-- What the calls do on an examined pool, as their code does it: tests and then the pool's steps, store by store.
-- Contracts of inner functions cite these; a reader of the promises need not.
use Rattle.std.specs.Prelude.{Bool, true, false, cond, List, ℕ, zero, suc, ◌+◌, ◌-◌, eqb, length, get_or, set}
use Rattle.keys.specs.Ordered.{ordered}
use Rattle.keys.specs.Table.{bare}
use Rattle.keys.specs.declared.kind.Kind.{Kind}
use Rattle.pool.specs.declared.state.Head.{Head}
use Rattle.pool.specs.World.{waiting_chain, free_chain, World, blank, key_word0, key_word1, store_key, top_of, within}
use Rattle.pool.specs.Examine.{fitting}
use Rattle.pool.specs.Core.{Moved, moved_to, Popped, busy_from, entered, readied, pop_tail, fresh_core}
use Rattle.engine.specs.Outcome.{Outcome, Listing, listing, room_for, refused, done, given, unless, key_code}

-- ---- constrain

-- the chain that a constrain drains: with a top the first busy bucket, and without one the waiting chain. 0 for none, as bucket 0
-- is never drained.
unfoldable pub to_drain : Bool → List ℕ → ℕ
unfolding busy_from
to_drain false first = cond (eqb (get_or first waiting_chain 0) 0) 0 waiting_chain
to_drain true first = let b : ℕ = busy_from waiting_chain first 0 in cond (eqb b waiting_chain) 0 b

-- ---- push and pop

-- the first code that is not 0
unfoldable pub or_else : ℕ → ℕ → ℕ
or_else zero d = d
or_else (suc c) d = suc c

-- what a push is told, f being the link to the first free slot
unfoldable pub push_code : Head → ℕ → ℕ → ℕ → ℕ
unfolding or_else
push_code h f a b = or_else (key_code h.kind a b) (cond (within h.topped (ordered h.kind a b) (top_of h)) (cond (eqb f 0) 7 0) 6)

unfoldable pub push_core : World → ℕ → ℕ → ℕ → Outcome
unfolding unless done push_code entered
push_core w a b v =
    let f : ℕ = get_or w.links.first free_chain 0 in
    unless (push_code w.head f a b) w (done (entered w (f - 1) a b v) 0)

-- "Pop takes the tail of bucket 0; if that is empty it constrains once and tries again." The length says whether there is an
-- entry; a pool that is not sound may still have none in bucket 0 then.
unfoldable pub pop_from : World → Moved → Outcome
unfolding refused given pop_tail
pop_from w m = elim (eqb (get_or m.to.last 0 0) 0) [
  | true ↦ refused (moved_to w m) 8
  | false ↦ let p : Popped = pop_tail m w.keys w.values in given p.world p.moves p.key0 p.key1 p.value
]

unfoldable pub pop_core : World → Outcome
unfolding refused readied pop_from
pop_core w = elim (eqb w.head.len 0) [
  | true ↦ refused w 8
  | false ↦ pop_from w (readied (eqb (get_or w.links.last 0 0) 0) w.head w.links w.keys)
]

unfoldable pub clear_core : World → Outcome
unfolding done fresh_core
clear_core w = done (fresh_core w.head.kind (length w.links.next) false 0 0) 0

unfoldable pub clear_to_core : World → ℕ → ℕ → Outcome
unfolding unless key_code done fresh_core
clear_to_core w a b = unless (key_code w.head.kind a b) w (done (fresh_core w.head.kind (length w.links.next) true a b) 0)

-- the two fresh calls, on any pool
unfoldable pub made_core : Kind → List ℕ → List ℕ → List ℕ → List ℕ → Outcome
unfolding blank refused done fresh_core
made_core kind keys values next back = elim (fitting (blank kind keys values next back)) [
  | false ↦ refused (blank (bare 0) keys values next back) 1
  | true ↦ done (fresh_core kind (length next) false 0 0) 0
]

unfoldable pub made_at_core : Kind → ℕ → ℕ → List ℕ → List ℕ → List ℕ → List ℕ → Outcome
unfolding blank refused unless key_code done fresh_core
made_at_core kind a b keys values next back = elim (fitting (blank kind keys values next back)) [
  | false ↦ refused (blank (bare 0) keys values next back) 1
  | true ↦ unless (key_code kind a b) (blank (bare 0) keys values next back) (done (fresh_core kind (length next) true a b) 0)
]

-- ---- listing

pub record Written : Type 0 where
  pub keys : List ℕ
  pub values : List ℕ
  pub count : ℕ

abbrev pub wrote : List ℕ → List ℕ → ℕ → Written
wrote ks vs n = record { keys = ks; values = vs; count = n }

-- slot s is written to the next place of the two lent slices
unfoldable pub written : Kind → List ℕ → List ℕ → ℕ → Written → Written
written kind keys values s o = record {
  keys = store_key kind o.keys o.count (key_word0 kind keys s) (key_word1 kind keys s);
  values = set o.values o.count (get_or values s 0);
  count = o.count + 1;
}

-- the slots from the link `at` on, in at most m turns
unfoldable pub list_from : ℕ → Kind → List ℕ → List ℕ → List ℕ → ℕ → Written → Written
unfolding written
list_from zero kind keys values next at o = o
list_from (suc m) kind keys values next zero o = o
list_from (suc m) kind keys values next (suc s) o = list_from m kind keys values next (get_or next s 0) (written kind keys values s o)

-- one chain, and m chains from c on, until `len` entries are written
unfoldable pub list_chain : ℕ → Kind → List ℕ → List ℕ → List ℕ → ℕ → Written → Written
unfolding list_from
list_chain len kind keys values next at o = list_from (len - o.count) kind keys values next at o

unfoldable pub list_chains : ℕ → ℕ → Kind → List ℕ → List ℕ → List ℕ → List ℕ → ℕ → Written → Written
unfolding list_chain
list_chains zero len kind keys values first next c o = o
list_chains (suc m) len kind keys values first next c o = list_chains m len kind keys values first next (c + 1) (list_chain len kind keys values next (get_or first c 0) o)

-- the waiting chain, then the buckets
unfoldable pub list_entries : ℕ → Kind → List ℕ → List ℕ → List ℕ → List ℕ → List ℕ → List ℕ → Written
unfolding list_chains list_chain
list_entries len kind keys values first next ks vs = list_chains waiting_chain len kind keys values first next 0 (list_chain len kind keys values next (get_or first waiting_chain 0) (wrote ks vs 0))

unfoldable pub list_all : World → List ℕ → List ℕ → Written
unfolding list_entries
list_all w ks vs = list_entries w.head.len w.head.kind w.keys w.values w.links.first w.links.next ks vs

unfoldable pub list_core : World → List ℕ → List ℕ → Listing
unfolding list_all
list_core w ks vs = elim (room_for w.head.kind w.head.len (length ks) (length vs)) [
  | false ↦ listing 4 w ks vs 0
  | true ↦ listing 0 w (list_all w ks vs).keys (list_all w ks vs).values w.head.len
]
