-- `pool::spread` meets its contract. The loop's invariant: what is left to move from here leads to what there was to do at the start.
use Prim.Native.Nat.{ℕ, ◌-◌}
use mathlib.Core.Path.{◌≡◌, refl, sym, ap, subst, ◌∙◌}
use mathlib.Core.List.{List}
use native.Mathlib.Omega.{arith}
use native.Mathlib.Nat.{sub-zero}
use lib.ListN.{length, get_or, set}
use Rattle.keys.specs.declared.kind.Kind.{Kind}
use Rattle.keys.specs.Ordered.{ordered}
use Rattle.pool.specs.World.{Links, links, slot_key}
use Rattle.pool.specs.Lent.{links_at}
use Rattle.pool.specs.Marks.{unmarked}
use Rattle.pool.specs.Fine.{FineAt}
use Rattle.pool.specs.Core.{emptied, drain_from, drain_chain}
use Rattle.pool.proofs.Fine.{appended_fine, emptied_fine, drain_turn, drain_stop, drain_end}
use Rattle.pool.proofs.Drain.{far_lt}
use Rattle.pool.proofs.CodeAlong.{KeyOf, far_as}
use Rattle.pool.proofs.along.spread.Goals as goal

-- before the loop: the chain is empty
begun : (s : Links) (c : ℕ) {b : List ℕ} → b ≡ unmarked s.busy c → links (set s.first c 0) (set s.last c 0) s.next s.back b ≡ emptied s c
unfolding emptied
begun s c e = ap (links (set s.first c 0) (set s.last c 0) s.next s.back) e

-- what there was to do at the start is the whole
whole : (kind : Kind) (keys : List ℕ) (top : ℕ) (s : Links) (c : ℕ) {b : List ℕ} → b ≡ unmarked s.busy c
    → drain_chain kind keys top c s ≡ drain_from (length s.next) kind keys top (get_or s.first c 0) 0 (links (set s.first c 0) (set s.last c 0) s.next s.back b)
unfolding drain_chain
whole kind keys top s c e = ap (drain_from (length s.next) kind keys top (get_or s.first c 0) 0) (sym (begun s c e))

pub loop-init : goal.loop-init
loop-init c =
    let x = c.args in
    let s : Links = links_at x.state.now x.next.now x.back.now in
    record {
      turns' = refl;
      link = c.requires.fine.first.at x.chain;
      fine = subst (FineAt (length x.next.now)) (sym (begun s x.chain c.unmark.ensures)) (emptied_fine _ _ x.chain c.requires.fine);
      head = refl;
      same = simp sub-zero;
    }

pub append-requires-clause-chain_bound : goal.append-requires-clause-chain_bound
append-requires-clause-chain_bound c =
    let key = c.of-key.result in
    let top = c.args.top in
    omega (arith, far_lt key.kind (slot_key key.kind key.keys.now key.slot) (ordered key.kind top.first top.second), c.distance-bucket.ensures)

pub loop-preserved : goal.loop-preserved
loop-preserved c =
    let l = c.loop in
    let x = c.args in
    let n = length x.next.now in
    let top = ordered x.reader.kind x.top.first x.top.second in
    let t : Links = links_at l.state l.next l.back in
    let key : KeyOf x.reader.kind x.keys.now (l.at - 1) c.of-key.result = record { kind' = c.of-key.ensures.kind; key' = c.of-key.ensures.key } in
    record {
      turns' = omega arith;
      link = l.invariant.fine.next.at (l.at - 1);
      fine = subst (FineAt n) (sym c.append.ensures.links) (appended_fine n t _ _ l.invariant.fine (omega arith));
      head = c.append.ensures.head ∙ l.invariant.head;
      same = l.invariant.same ∙ drain_turn x.reader.kind x.keys.now top l.at l.moves t n _ _ (omega arith) c.if-at-eq0.false (far_as _ _ _ _ key c.distance-bucket.ensures) c.append.ensures.links;
    }

pub returns-after-loop : goal.returns-after-loop
returns-after-loop c =
    let l = c.loop in
    let x = c.args in
    let s : Links = links_at x.state.now x.next.now x.back.now in
    record {
      head = l.invariant.head;
      moved = sym (whole x.reader.kind x.keys.now (ordered x.reader.kind x.top.first x.top.second) s x.chain c.unmark.ensures ∙ l.invariant.same ∙ drain_end x.reader.kind x.keys.now _ l.at l.moves _ (length x.next.now - l.moves) (omega arith));
    }

pub returns-then-at-eq0 : goal.returns-then-at-eq0
returns-then-at-eq0 c =
    let l = c.loop in
    let x = c.args in
    let s : Links = links_at x.state.now x.next.now x.back.now in
    record {
      head = l.invariant.head;
      moved = sym (whole x.reader.kind x.keys.now (ordered x.reader.kind x.top.first x.top.second) s x.chain c.unmark.ensures ∙ l.invariant.same ∙ drain_stop x.reader.kind x.keys.now _ l.at l.moves _ (length x.next.now - l.moves) c.if-at-eq0.true);
    }
