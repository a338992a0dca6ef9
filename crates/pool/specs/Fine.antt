-- The light facts that every function of the core may assume of the links. They say nothing of chains.
use Rattle.std.specs.Prelude.{◌≡◌, true, false, List, ℕ, ◌+◌, ◌*◌, ◌^◌, ◌≤◌, ◌<◌, length, get_or}
use Rattle.keys.specs.declared.kind.Kind.{Kind}
use Rattle.keys.specs.Ordered.{is_wide}
use Rattle.pool.specs.declared.state.Head.{Head}
use Rattle.pool.specs.Sound.{limit}
use Rattle.pool.specs.Marks.{summary}
use Rattle.pool.specs.World.{chain_count, Links}

-- every element is at most n
pub record Under (n : ℕ) (xs : List ℕ) : Type 0 where
  pub at : (k : ℕ) → get_or xs k 0 ≤ n

-- lengths, each link is one of n slots or none, and the busy words sum up the first links
pub record FineAt (n : ℕ) (k : Links) : Type 0 where
  pub small : n < 2 ^ 32
  pub firsts : length k.first ≡ chain_count
  pub lasts : length k.last ≡ chain_count
  pub nexts : length k.next ≡ n
  pub backs : length k.back ≡ n
  pub first : Under n k.first
  pub last : Under n k.last
  pub next : Under n k.next
  pub back : Under n k.back
  pub marks : k.busy ≡ summary k.first

abbrev pub Fine : Links → Type 0
Fine k = FineAt (length k.next) k

-- a key takes two words where the kind is 4 or 5, and one elsewhere
pub record Room (kind : Kind) (n : ℕ) (keys : List ℕ) : Type 0 where
  pub wide : is_wide kind ≡ true → length keys ≡ 2 * n
  pub narrow : is_wide kind ≡ false → length keys ≡ n

-- the key words of slot i are there
pub record Holds (kind : Kind) (keys : List ℕ) (i : ℕ) : Type 0 where
  pub wide : is_wide kind ≡ true → 2 * i + 1 < length keys
  pub narrow : is_wide kind ≡ false → i < length keys

-- what the calls on an examined pool may assume: bounds again, and nothing of chains
pub record Ready (h : Head) (k : Links) (keys values : List ℕ) : Type 0 where
  pub fine : Fine k
  pub room : Room h.kind (length k.next) keys
  pub sized : length values ≡ length k.next
  pub counted : h.len ≤ length k.next
  pub small : length k.next ≤ limit
