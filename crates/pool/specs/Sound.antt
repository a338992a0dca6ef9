-- When a world is fit and sound: document 01, "The pool and the state".
use Rattle.std.specs.Prelude.{◌≡◌, ◌≢◌, ◌↔◌, true, false, [], ℕ, ◌*◌, ◌^◌, ◌≤◌, ◌<◌, length, get_or}
use Rattle.rule.specs.Lists.{join}
use Rattle.pool.specs.Marks.{bit_at}
use Rattle.pool.specs.Chain.{count, Linked, Backed, last_from, On}
use Rattle.keys.specs.Ordered.{words, proper}
use Rattle.keys.specs.Table.{kind_fits}
use Rattle.pool.specs.World.{waiting_chain, free_chain, chain_count, Links, World, size, first_of, last_of, chain, chains, busy_chains, word0, word1, key_at, top_key, distance_at}

-- ---- what the types of the code give

pub record Typed (k : Links) : Type 0 where
  pub firsts : length k.first ≡ chain_count
  pub lasts : length k.last ≡ chain_count
  pub busies : length k.busy ≡ 3
  pub busy_fits : (j : ℕ) → get_or k.busy j 0 < 2 ^ 64

-- ---- code 1: "kind not 1 to 6, a table that breaks its limits or isn't zero in another kind, slice lengths unfit, n above 4,096"

unfoldable pub limit : ℕ
limit = 4096

pub record Fit (w : World) : Type 0 where
  pub kind_ok : kind_fits w.head.kind ≡ true
  pub some_keys : length w.keys ≡ words w.head.kind * size w
  pub some_values : length w.values ≡ size w
  pub some_backs : length w.links.back ≡ size w
  pub small : size w ≤ limit

-- ---- code 2: "A pool is sound when"

pub record Sound (w : World) : Type 0 where
  -- every slot is on exactly one chain (and nothing else is)
  pub once : (s : ℕ) → s < size w → count s (join (chains w)) ≡ 1
  pub only : (s : ℕ) → size w ≤ s → count s (join (chains w)) ≡ 0
  -- next links run from first to last and end in 0
  pub run : (c : ℕ) → c < chain_count → Linked w.links.next (first_of w c) (chain w c)
  pub ends : (c : ℕ) → c < chain_count → last_of w c ≡ last_from 0 (chain w c)
  -- back links run the other way, but are 0 on the free chain
  pub backs : (c : ℕ) → c < free_chain → Backed w.links.back 0 (chain w c)
  pub free_backs : (s : ℕ) → On s (chain w free_chain) → get_or w.links.back s 0 ≡ 0
  -- an empty chain has first and last 0
  pub no_first : (c : ℕ) → c < chain_count → chain w c ≡ [] → first_of w c ≡ 0
  pub no_last : (c : ℕ) → c < chain_count → chain w c ≡ [] → last_of w c ≡ 0
  -- bit b of the busy words is "set exactly when the bucket isn't empty, bits above 128 zero"
  pub busy_bits : (b : ℕ) → b < waiting_chain → (bit_at w.links.busy b ≡ 1) ↔ (chain w b ≢ [])
  pub busy_rest : (b : ℕ) → waiting_chain ≤ b → bit_at w.links.busy b ≡ 0
  -- length counts the slots outside the free chain
  pub counted : w.head.len ≡ length (join (busy_chains w))
  -- with no top, the buckets are empty and both top words are 0
  pub no_buckets : w.head.topped ≡ false → (c : ℕ) → c < waiting_chain → chain w c ≡ []
  pub no_top0 : w.head.topped ≡ false → w.head.top0 ≡ 0
  pub no_top1 : w.head.topped ≡ false → w.head.top1 ≡ 0
  -- with a top, the waiting chain is empty, every key is at most the top, and stands in the bucket of its distance to the top
  pub no_waiting : w.head.topped ≡ true → chain w waiting_chain ≡ []
  pub at_most : w.head.topped ≡ true → (c : ℕ) → c < waiting_chain → (s : ℕ) → On s (chain w c) → key_at w s ≤ top_key w
  pub placed : w.head.topped ≡ true → (c : ℕ) → c < waiting_chain → (s : ℕ) → On s (chain w c) → distance_at w s ≡ c
  -- free slots hold zero key and value
  pub zero_word0 : (s : ℕ) → On s (chain w free_chain) → word0 w s ≡ 0
  pub zero_word1 : (s : ℕ) → On s (chain w free_chain) → word1 w s ≡ 0
  pub zero_value : (s : ℕ) → On s (chain w free_chain) → get_or w.values s 0 ≡ 0
  -- every key is one of the kind, and so is the top: no bit above a mixed key's total, one word in kinds 1 to 3 and 6, no NaN
  pub of_kind : (c : ℕ) → c < free_chain → (s : ℕ) → On s (chain w c) → proper w.head.kind (word0 w s) (word1 w s) ≡ true
  pub top_of_kind : proper w.head.kind w.head.top0 w.head.top1 ≡ true

-- in arrays of the types' sizes, fit and sound: what the examination passes
pub record Whole (w : World) : Type 0 where
  pub typed : Typed w.links
  pub fit : Fit w
  pub sound : Sound w
