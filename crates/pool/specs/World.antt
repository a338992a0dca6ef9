-- Document 01's pool and state as one record of numbers and lists, the keys that its slots hold, and the chains that its links make.
use Rattle.std.specs.Prelude.{Bool, true, false, cond, ◌&&◌, List, ℕ, ◌+◌, ◌*◌, leb, length, get_or, set, replicate}
use Rattle.rule.specs.Width.{distance}
use Rattle.keys.specs.Ordered.{width, ordered, proper}
use Rattle.keys.specs.declared.kind.Kind.{Kind}
use Rattle.keys.specs.Table.{bare}
use Rattle.keys.specs.Ordered.{is_wide}
use Rattle.pool.specs.declared.state.Head.{Head}
use Rattle.pool.specs.declared.state.State.{State}
use Rattle.pool.specs.Chain.{tab, walk}

-- "131 chains: buckets 0 to 128, 129 the waiting chain (`initial`), 130 the free chain"; those below the waiting chain are the
-- buckets, those below the free chain hold entries
abbrev pub waiting_chain : ℕ
waiting_chain = 129

abbrev pub free_chain : ℕ
free_chain = 130

abbrev pub chain_count : ℕ
chain_count = 131

-- "the first and last link of each of 131 chains", "n u32 next links, n u32 back links"; "a link is 0 for none, else slot number plus one";
-- and the three busy words, which stand with the links because every store of a bucket's first link keeps them
pub record Links : Type 0 where
  pub first : List ℕ
  pub last : List ℕ
  pub next : List ℕ
  pub back : List ℕ
  pub busy : List ℕ

abbrev pub links : List ℕ → List ℕ → List ℕ → List ℕ → List ℕ → Links
links f l n b w = record { first = f; last = l; next = n; back = b; busy = w }

-- "kind, length, top (present or not, two words)": Head is the struct of the code
-- the same with another length, and with the top at these key words
abbrev pub resized : Head → ℕ → Head
resized h n = record { kind = h.kind; len = n; topped = h.topped; top0 = h.top0; top1 = h.top1 }

abbrev pub topped_at : Head → ℕ → ℕ → Head
topped_at h a b = record { kind = h.kind; len = h.len; topped = true; top0 = a; top1 = b }

-- the state (head, first and last links, busy words) and the pool (keys, values, next and back links)
pub record World : Type 0 where
  pub head : Head
  pub links : Links
  pub keys : List ℕ
  pub values : List ℕ

abbrev pub world : Head → Links → List ℕ → List ℕ → World
world h k keys values = record { head = h; links = k; keys = keys; values = values }

abbrev pub world_of : State → List ℕ → List ℕ → List ℕ → List ℕ → World
world_of s keys values next back = record { head = s.head; links = links s.first s.last next back s.busy; keys = keys; values = values }

-- the state with other ends of one chain
unfoldable pub chain_set : State → ℕ → ℕ → ℕ → State
chain_set s c f l = record { head = s.head; first = set s.first c f; last = set s.last c l; busy = s.busy }

-- the state that is all zero but for the kind, over a pool; "A refused fresh returns a state all zero (kind 0)."
unfoldable pub blank : Kind → List ℕ → List ℕ → List ℕ → List ℕ → World
blank kind keys values next back = record {
  head = record { kind = kind; len = 0; topped = false; top0 = 0; top1 = 0 };
  links = record { first = replicate chain_count 0; last = replicate chain_count 0; next = next; back = back; busy = replicate 3 0 };
  keys = keys;
  values = values;
}

unfoldable pub no_state : State
no_state = record { head = record { kind = bare 0; len = 0; topped = false; top0 = 0; top1 = 0 }; first = replicate chain_count 0; last = replicate chain_count 0; busy = replicate 3 0 }

-- ---- keys

-- the key words in a slot
unfoldable pub key_word0 : Kind → List ℕ → ℕ → ℕ
key_word0 kind keys s = cond (is_wide kind) (get_or keys (2 * s) 0) (get_or keys s 0)

unfoldable pub key_word1 : Kind → List ℕ → ℕ → ℕ
key_word1 kind keys s = cond (is_wide kind) (get_or keys (2 * s + 1) 0) 0

-- the key words of a slot are stored
unfoldable pub store_key : Kind → List ℕ → ℕ → ℕ → ℕ → List ℕ
store_key kind keys s a b = cond (is_wide kind) (set (set keys (2 * s) a) (2 * s + 1) b) (set keys s a)

abbrev pub word0 : World → ℕ → ℕ
word0 w s = key_word0 w.head.kind w.keys s

abbrev pub word1 : World → ℕ → ℕ
word1 w s = key_word1 w.head.kind w.keys s

-- the key in a slot, and the top, in ordered form
abbrev pub slot_key : Kind → List ℕ → ℕ → ℕ
slot_key kind keys s = ordered kind (key_word0 kind keys s) (key_word1 kind keys s)

abbrev pub key_at : World → ℕ → ℕ
key_at w s = slot_key w.head.kind w.keys s

abbrev pub top_of : Head → ℕ
top_of h = ordered h.kind h.top0 h.top1

abbrev pub top_key : World → ℕ
top_key w = top_of w.head

-- the distance of the key in a slot to the top
abbrev pub distance_at : World → ℕ → ℕ
distance_at w s = distance (width w.head.kind) (key_at w s) (top_key w)

-- ---- the chains

-- how many slots there are
abbrev pub size : World → ℕ
size w = length w.links.next

-- the first and last link of chain c
abbrev pub first_of : World → ℕ → ℕ
first_of w c = get_or w.links.first c 0

abbrev pub last_of : World → ℕ → ℕ
last_of w c = get_or w.links.last c 0

-- the slots of chain c, front to back: 0 to 128 are the buckets, 129 is the waiting chain and 130 the free chain
abbrev pub chain : World → ℕ → List ℕ
chain w c = walk (size w) w.links.next (first_of w c)

-- the 131 chains, and the 130 of them that are not free
unfoldable pub chains : World → List (List ℕ)
chains w = tab (chain w) 0 chain_count

unfoldable pub busy_chains : World → List (List ℕ)
busy_chains w = tab (chain w) 0 free_chain

-- ---- where a key belongs

-- where an entry belongs: in the bucket of its distance, if there is a top, else on the waiting chain
unfoldable pub place : Bool → ℕ → ℕ
place true d = d
place false d = waiting_chain

abbrev pub home : World → ℕ → ℕ
home w s = place w.head.topped (distance_at w s)

-- a key is at most the top, if there is one
unfoldable pub within : Bool → ℕ → ℕ → Bool
within true k t = leb k t
within false k t = true

-- a key that may stand under a head: "a key with a bit set above its total is .. in a pool or top code 2", "a NaN in a pool or top is code 2"
abbrev pub admits : Head → ℕ → ℕ → Bool
admits h a b = proper h.kind a b && within h.topped (ordered h.kind a b) (top_of h)

abbrev pub under : World → ℕ → Bool
under w s = admits w.head (word0 w s) (word1 w s)
