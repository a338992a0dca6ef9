-- What the searches along a chain and along the buckets give, and what the steps of a constrain and a pop keep, on any fine links, sound or not.
use Prim.Native.Nat.{ℕ, zero, suc, ◌+◌, ◌-◌, ◌≤◌, ◌<◌}
use mathlib.Core.Path.{◌≡◌, refl, sym, subst}
use mathlib.Core.Bool.{Bool, true, false, cond, ◌||◌}
use mathlib.Core.List.{List}
use native.Mathlib.Omega.{arith}
use native.Mathlib.Decide.{ℕ_discrete}
use borrow.Author.Tests.{eq-eqb, ne_eqb}
use lib.Dec.{ltb, eqb}
use lib.ListN.{length, get_or}
use Rattle.keys.specs.declared.kind.Kind.{Kind}
use Rattle.pool.specs.declared.state.Head.{Head}
use Rattle.pool.specs.World.{waiting_chain, Links, slot_key}
use Rattle.pool.specs.Fine.{Under, FineAt, Room, Ready}
use Rattle.pool.specs.Core.{better, greatest_from, greatest_of, emptied, drain_chain, busy_from, Moved, drain_unless, constrain_by, constrain_core, readied, Unhooked, tail_unhooked}
use Rattle.pool.proofs.Fine.{emptied_fine, drained_fine, cut_fine, fine_of}

-- ---- the greatest key

-- a link to one of n slots
abbrev pub Slot : ℕ → ℕ → Type 0
Slot n l = (0 < l) × (l ≤ n)

module _ (kind : Kind) (keys next : List ℕ) (n : ℕ) (u : Under n next) where
  better_slot : (a b : ℕ) → Slot n a → Slot n b → Slot n (better kind keys a b)
  unfolding better
  better_slot a b p q = go (ltb (slot_key kind keys (b - 1)) (slot_key kind keys (a - 1)))
    where
      go : (t : Bool) → Slot n (cond t a b)
      go true = p
      go false = q

  greatest_from_lem : (m at best : ℕ) → at ≤ n → Slot n best → Slot n (greatest_from m kind keys next at best)
  unfolding greatest_from
  greatest_from_lem zero at best h s = s
  greatest_from_lem (suc m) at best h s = elim (ℕ_discrete at 0) [
    | yes e ↦ rw (eq-eqb at 0 e) s
    | no q ↦ rw (ne_eqb at 0 q) (greatest_from_lem m (get_or next (at - 1) 0) (better kind keys at best) (u.at (at - 1)) (better_slot at best (omega arith, h) s))
  ]

  pub greatest_slot : (a : ℕ) → Slot n a → Slot n (greatest_of kind keys next a)
  unfolding greatest_of
  greatest_slot a s = greatest_from_lem (length next) (get_or next (a - 1) 0) a (u.at (a - 1)) s

-- ---- the first busy bucket

pub busy_to : (m : ℕ) (first : List ℕ) (b : ℕ) → busy_from m first b ≤ b + m
unfolding busy_from
busy_to zero first b = omega arith
busy_to (suc m) first b = elim (ℕ_discrete (get_or first b 0) 0) [
  | yes e ↦ rw (eq-eqb (get_or first b 0) 0 e) (let h = busy_to m first (b + 1) in omega arith)
  | no q ↦ rw (ne_eqb (get_or first b 0) 0 q) (omega arith)
]

-- it is not empty, if there is one
pub busy_some : (m : ℕ) (first : List ℕ) (b : ℕ) → busy_from m first b < b + m → 0 < get_or first (busy_from m first b) 0
unfolding busy_from
busy_some zero first b = λ h. absurd (omega arith)
busy_some (suc m) first b = elim (ℕ_discrete (get_or first b 0) 0) [
  | yes e ↦ rw (eq-eqb (get_or first b 0) 0 e) (λ h. busy_some m first (b + 1) (omega arith))
  | no q ↦ rw (ne_eqb (get_or first b 0) 0 q) (λ h. omega arith)
]

-- ---- what a step keeps

-- the links are fine still, and the kind and the length are the head's
pub record Kept (n : ℕ) (h : Head) (m : Moved) : Type 0 where
  pub fine : FineAt n m.to
  pub kind : m.head.kind ≡ h.kind
  pub len : m.head.len ≡ h.len

chain_fine : (n : ℕ) (kind : Kind) (keys : List ℕ) (t c : ℕ) (k : Links) → FineAt n k → FineAt n (drain_chain kind keys t c k).to
unfolding drain_chain
chain_fine n kind keys t c k f = drained_fine n (length k.next) kind keys t (get_or k.first c 0) 0 (emptied k c) (emptied_fine n k c f) (f.first.at c)

module _ (n : ℕ) (h : Head) (k : Links) (keys : List ℕ) (f : FineAt n k) where
  drain_kept : (t : Bool) (c : ℕ) → Kept n h (drain_unless t h k keys c)
  unfolding drain_unless
  drain_kept true c = record { fine = f; kind = refl; len = refl }
  drain_kept false c =
      let g : ℕ = greatest_of h.kind keys k.next (get_or k.first c 0) - 1 in
      record { fine = chain_fine n h.kind keys (slot_key h.kind keys g) c k f; kind = refl; len = refl }

  by_kept : (t : Bool) → Kept n h (constrain_by t h k keys)
  unfolding constrain_by
  by_kept true = drain_kept (eqb (busy_from waiting_chain k.first 0) 0 || eqb (busy_from waiting_chain k.first 0) waiting_chain) (busy_from waiting_chain k.first 0)
  by_kept false = drain_kept (eqb (get_or k.first waiting_chain 0) 0) waiting_chain

  readied_kept : (t : Bool) → Kept n h (readied t h k keys)
  unfolding readied constrain_core
  readied_kept true = by_kept h.topped
  readied_kept false = record { fine = f; kind = refl; len = refl }

-- the room does for as many slots
pub room_as : {kind : Kind} {n m : ℕ} {keys : List ℕ} → m ≡ n → Room kind n keys → Room kind m keys
room_as e r = rw e r

kept_ready : {h : Head} {k : Links} {keys values : List ℕ} {m : Moved} → Ready h k keys values → Kept (length k.next) h m → Ready m.head m.to keys values
kept_ready {keys = keys} {m = m} r p = record {
  fine = fine_of p.fine;
  room = subst (λ (x : Kind). Room x (length m.to.next) keys) (sym p.kind) (room_as p.fine.nexts r.room);
  sized = omega (arith, p.fine.nexts);
  counted = omega (arith, p.fine.nexts);
  small = omega (arith, p.fine.nexts);
}

-- so after one constrain, if bucket 0 was empty, a pool is as ready as before, with as many entries
pub readied_ready : {h : Head} {k : Links} {keys values : List ℕ} (t : Bool) (m : Moved) → Ready h k keys values → m ≡ readied t h k keys
    → Ready m.head m.to keys values × (m.head.len ≡ h.len)
readied_ready {h} {k} {keys} {values} t m r e =
    let p : Kept (length k.next) h m = subst (Kept (length k.next) h) (sym e) (readied_kept _ h k keys r.fine t) in
    (kept_ready r p, p.len)

-- the links are fine, and the slot that left is one of n
pub record Loose (n : ℕ) (u : Unhooked) : Type 0 where
  pub fine : FineAt n u.to
  pub slot : u.slot < n

pub tail_loose : (n : ℕ) (k : Links) → FineAt n k → 0 < get_or k.last 0 0 → Loose n (tail_unhooked k)
unfolding tail_unhooked
tail_loose n k f h =
    let i : ℕ = get_or k.last 0 0 - 1 in
    let p : ℕ = get_or k.back i 0 in
    record { fine = cut_fine (eqb p 0) n k p f (f.back.at i); slot = omega (arith, f.last.at 0) }
