-- From a world to the rule's heap, with slots for entries, and from chains back to links.
use Rattle.std.specs.Prelude.{Bool, true, false, cond, List, [], ◌∷◌, ◌++◌, map, ℕ, suc, ◌+◌, ◌*◌, eqb, ltb, get_or, take, replicate}
use Rattle.std.proofs.Math.Option.{Option, none, some}
use Rattle.rule.specs.Rule.{Heap, empty}
use Rattle.keys.specs.Ordered.{words}
use Rattle.keys.specs.declared.kind.Kind.{Kind}
use Rattle.pool.specs.Chain.{tab, last_from}
use Rattle.pool.specs.Marks.{summary}
use Rattle.pool.specs.declared.state.Head.{Head}
use Rattle.pool.specs.World.{waiting_chain, free_chain, Links, World, topped_at, word0, word1, key_at, top_key, chains}

-- ---- reading a world

unfoldable pub top_in : Bool → ℕ → Option ℕ
top_in true t = some t
top_in false t = none

-- the heap with these 131 chains, the free one aside: "buckets 0 to 128, 129 the waiting chain"
unfoldable pub heap_in : Bool → ℕ → List (List ℕ) → Heap ℕ
heap_in t top ls = record { top = top_in t top; waiting = get_or ls waiting_chain []; buckets = take waiting_chain ls }

abbrev pub heap_of : World → List (List ℕ) → Heap ℕ
heap_of w ls = heap_in w.head.topped (top_key w) ls

-- the heap of slots that stands in a world
unfoldable pub heap : World → Heap ℕ
heap w = heap_of w (chains w)

-- ---- laying out

-- the 131 chains of a heap and its free slots: the buckets, then the waiting chain, then the free chain
unfoldable pub with_free : Heap ℕ → List ℕ → List (List ℕ)
with_free h free = h.buckets ++ h.waiting ∷ free ∷ []

-- the link to a chain's first slot, 0 if it is empty
unfoldable pub first_in : List ℕ → ℕ
first_in [] = 0
first_in (s ∷ ss) = suc s

-- the link to the slot after s on a chain: 0 if s is the last, or does not stand there
unfoldable pub after : ℕ → List ℕ → ℕ
after s [] = 0
after s (x ∷ xs) = cond (eqb s x) (first_in xs) (after s xs)

-- the link to the slot before s on a chain that follows the link p: 0 if s does not stand there
unfoldable pub before : ℕ → ℕ → List ℕ → ℕ
before p s [] = 0
before p s (x ∷ xs) = cond (eqb s x) p (before (suc x) s xs)

-- s stands on one chain, and the others add 0
unfoldable pub next_in : ℕ → List (List ℕ) → ℕ
next_in s [] = 0
next_in s (l ∷ ls) = after s l + next_in s ls

unfoldable pub back_in : ℕ → List (List ℕ) → ℕ
back_in s [] = 0
back_in s (l ∷ ls) = before 0 s l + back_in s ls

-- The links of these 131 chains of n slots: "next links run from first to last and end in 0;
-- back links run the other way, but are 0 on the free chain; an empty chain has first and last 0";
-- and the summary of the busy ones among the buckets.
unfoldable pub lay : List (List ℕ) → ℕ → Links
lay ls n = record {
  first = map first_in ls;
  last = map (last_from 0) ls;
  next = tab (λ s. next_in s ls) 0 n;
  back = tab (λ s. back_in s (take free_chain ls)) 0 n;
  busy = summary (map first_in ls);
}

-- ---- the fresh world, and the head after a constrain

-- "Fresh: no top, free chain 0, 1, 2 and so on, keys and values zero. Fresh at a key: the same with that top."
unfoldable pub fresh : Kind → ℕ → Bool → ℕ → ℕ → World
fresh kind n topped a b = record {
  head = record { kind = kind; len = 0; topped = topped; top0 = a; top1 = b };
  links = lay (with_free (empty none) (tab (λ s. s) 0 n)) n;
  keys = replicate (words kind * n) 0;
  values = replicate n 0;
}

-- the first slot with the greatest key, of s and others
unfoldable pub leading : (ℕ → ℕ) → ℕ → List ℕ → ℕ
leading key s [] = s
leading key s (x ∷ xs) = elim (ltb (key s) (key x)) [ true ↦ leading key x xs | false ↦ leading key s xs ]

-- the head after a constrain that moved these slots: "the top becomes the chain's greatest key"; if none was moved, nothing changes
unfoldable pub head_after : World → List ℕ → Head
head_after w [] = w.head
head_after w (s ∷ ss) = topped_at w.head (word0 w (leading (key_at w) s ss)) (word1 w (leading (key_at w) s ss))
