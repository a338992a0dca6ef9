-- The examination, as the code makes it: one pass, with what is left of a budget of n slots, and no marks.
use Rattle.std.specs.Prelude.{Bool, true, false, not, ◌&&◌, ◌||◌, List, ℕ, zero, suc, ◌+◌, ◌*◌, leb, ltb, eqb, length, get_or}
use Rattle.rule.specs.Width.{distance}
use Rattle.keys.specs.Ordered.{width, words}
use Rattle.keys.specs.declared.kind.Kind.{Kind}
use Rattle.keys.specs.Ordered.{proper}
use Rattle.keys.specs.Table.{kind_fits}
use Rattle.pool.specs.declared.state.Head.{Head}
use Rattle.pool.specs.Marks.{summary, same_words}
use Rattle.pool.specs.World.{free_chain, Links, World, size, key_word0, key_word1, slot_key, top_of, place, admits}
use Rattle.pool.specs.Sound.{limit}

-- ---- code 1

-- kind, and how long keys, values, next and back links are
unfoldable pub fits : Kind → ℕ → ℕ → ℕ → ℕ → Bool
fits kind keys values next back = kind_fits kind && eqb keys (words kind * next) && eqb values next && eqb back next && leb next limit

unfoldable pub fitting : World → Bool
unfolding fits
fitting w = fits w.head.kind (length w.keys) (length w.values) (size w) (length w.links.back)

-- ---- code 2

-- top words that are not in use are 0, and the top is a key of the kind
unfoldable pub headed : Head → Bool
headed h = (h.topped || (eqb h.top0 0 && eqb h.top1 0)) && proper h.kind h.top0 h.top1

-- slot s may stand on chain c after the link p: its back link, its key against the top, and the chain where it belongs
unfoldable pub stands_at : Head → List ℕ → List ℕ → ℕ → ℕ → ℕ → Bool
stands_at h keys back c p s =
    eqb (get_or back s 0) p && admits h (key_word0 h.kind keys s) (key_word1 h.kind keys s)
    && eqb (place h.topped (distance (width h.kind) (slot_key h.kind keys s) (top_of h))) c

-- slot s may stand on the free chain: its back link, key and value are 0
unfoldable pub empty_at : Kind → List ℕ → List ℕ → List ℕ → ℕ → Bool
empty_at kind keys values back s = eqb (get_or back s 0) 0 && eqb (key_word0 kind keys s) 0 && eqb (key_word1 kind keys s) 0 && eqb (get_or values s 0) 0

-- one step of a walk comes to slot s after the link p: on chain c, and on the free chain
unfoldable pub ok_busy : Head → Links → List ℕ → ℕ → ℕ → ℕ → Bool
unfolding stands_at
ok_busy h k keys c p s = ltb s (length k.next) && stands_at h keys k.back c p s

unfoldable pub ok_free : Kind → Links → List ℕ → List ℕ → ℕ → ℕ → Bool
unfolding empty_at
ok_free kind k keys values p s = ltb s (length k.next) && empty_at kind keys values k.back s

-- n if the test passes, else 0
abbrev pub gate : Bool → ℕ → ℕ
gate true n = n
gate false n = 0

-- a walk from the link l, after the link p, of at most `left` slots, which is to end at the link `end`:
-- 0 if it is refused, else one more than what is left of the budget
unfoldable pub verify : (ℕ → ℕ → Bool) → List ℕ → ℕ → ℕ → ℕ → ℕ → ℕ
verify ok next end zero p zero = gate (eqb p end) 1
verify ok next end zero p (suc s) = 0
verify ok next end (suc left) p zero = gate (eqb p end) (suc (suc left))
verify ok next end (suc left) p (suc s) = let r = verify ok next end left (suc s) (get_or next s 0) in gate (ok p s) r

-- chain c, which is not the free one: it may not end where the free chain ends
unfoldable pub apart : Links → ℕ → Bool
apart k c = eqb (get_or k.last c 0) 0 || not (eqb (get_or k.last c 0) (get_or k.last free_chain 0))

unfoldable pub verify_busy : Head → Links → List ℕ → ℕ → ℕ → ℕ
unfolding ok_busy verify apart
verify_busy h k keys c left = let r = verify (ok_busy h k keys c) k.next (get_or k.last c 0) left 0 (get_or k.first c 0) in gate (apart k c) r

-- `m` chains from c on; the last argument and the result are 0 for refused, else one more than the budget
unfoldable pub scan : Head → Links → List ℕ → ℕ → ℕ → ℕ → ℕ
unfolding verify_busy
scan h k keys zero c left = left
scan h k keys (suc m) c zero = 0
scan h k keys (suc m) c (suc left) = scan h k keys m (suc c) (verify_busy h k keys c left)

-- every chain but the free one, and the busy words, which are to sum up the first links
unfoldable pub scanned : Head → Links → List ℕ → ℕ
unfolding scan summary same_words
scanned h k keys = let r = scan h k keys free_chain 0 (suc (length k.next)) in gate (same_words (summary k.first) k.busy) r

-- after them: the free chain
unfoldable pub finish : World → ℕ → ℕ
unfolding ok_free verify
finish w zero = 2
finish w (suc left) = elim (eqb (left + w.head.len) (size w)
    && eqb (verify (ok_free w.head.kind w.links w.keys w.values) w.links.next (get_or w.links.last free_chain 0) left 0 (get_or w.links.first free_chain 0)) 1) [
      | true ↦ 0
      | false ↦ 2
    ]

unfoldable pub examined : World → ℕ
unfolding fitting headed finish scanned
examined w = elim (fitting w) [
  | false ↦ 1
  | true ↦ elim (headed w.head) [ false ↦ 2 | true ↦ finish w (scanned w.head w.links w.keys) ]
]
