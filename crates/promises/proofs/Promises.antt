-- The promises: the three demands and the safety office's sentence, as theorems about the public calls themselves. A fresh heap is
-- any that new or new_at made (code 0), of kinds 1 to 6 and with at most 4,096 slots; `asks` is any sequence of calls, malformed
-- ones included. The words of the statements are in specs/; docs/PROMISES.md says the same in plain words.
use mathlib.Core.Path.{◌≡◌, refl, sym, ap, ◌∙◌, subst}
use mathlib.Core.Logic.{◌≢◌, ◌↔◌, ◌⊎◌}
use mathlib.Core.List.{List, [], ◌∷◌, ◌++◌}
use Prim.Native.Nat.{ℕ, zero, suc, ◌≤◌, ◌<◌}
use lib.ListN.{get_or}
use Rattle.keys.specs.declared.kind.Kind.{Kind}
use Rattle.keys.specs.Table.{bare}
use Rattle.rule.specs.Lists.{All, nil, sum}
use Rattle.rule.specs.Calls.{Above, NotAbove, Answer}
use Rattle.rule.specs.Rule.{empty}
use Rattle.rule.specs.Plain.{LastGreatest, plain_fresh}
use Rattle.rule.specs.Ledger.{bound, everyone, Account}
use Rattle.rule.specs.Forget.{heap_of}
use Rattle.rule.specs.Released.{releases, Descending, NoClear}
use Rattle.rule.proofs.Arranged.{few}
use Rattle.rule.proofs.Line.{empty_arranged}
use Rattle.rule.proofs.PlainWords.{last_greatest}
use Rattle.rule.proofs.Moves.{ledger_heap, moves_accounted as rule-accounted}
use Rattle.keys.specs.Ordered.{width, ordered}
use Rattle.pool.specs.World.{World, free_chain, blank, size, chain}
use Rattle.pool.specs.Sound.{Typed, Fit, Whole}
use Rattle.pool.specs.Examine.{examined}
use Rattle.keys.proofs.Ordered.{width_le}
use Rattle.engine.specs.Outcome.{refused, checked, unless, key_code}
use Rattle.heap.specs.Calls.{over, pushed, popped, cleared, cleared_to}
use Rattle.heap.proofs.Public.{Fair, FairList, refused_changes_nothing as calls-refused}
use Rattle.pool.specs.declared.lent.Entry.{Entry as BulkEntry}
use Rattle.bulk.specs.Bulk.{extended}
use Rattle.bulk.proofs.Promises.{extended_refused}
use Rattle.batch.specs.Batch.{batched, records, batch_code, batch}
use Rattle.batch.proofs.Batches.{batch_refused}
use Rattle.promises.specs.Runs.{Entry, key_of, Ask, AskPush, AskPop, AskConstrain, AskClear, AskClearTo, AskTop, AskLength, AskUnknown, Words, outcome, world_after, given_of, answer_of, answers_from, times, Ascending, standing}
use Rattle.promises.specs.Plain.{call_of, calls_of, plain_call, plain_answers_to}
use Rattle.promises.specs.Fresh.{Lent, Start, New, NewAt, started, start_top, StartWords}
use Rattle.promises.specs.Batches.{asks_of, bytes_from, pushes_of}
use Rattle.promises.specs.Codes.{CodesInOrder}
use Rattle.promises.specs.Promised.{RefusedChangesNothing, top_on, Bounded, list_in, slots, begun, list_after, rule_after, rule_moves, taken_by, ledger, reported}
use Rattle.promises.proofs.Holding.{Holds, holds_after, answers_next, answers_plain}
use Rattle.promises.proofs.Begin.{new_exactly, new_at_exactly, start_holds, cleared_anew, cleared_to_anew, sound_holds}
use Rattle.promises.proofs.Moving.{stands_ruled, moves_ruled}
use Rattle.promises.proofs.Releasing.{calls_fit, releases_descend}
use Rattle.promises.proofs.InTime.{timely_after, releases_in_time}
use Rattle.promises.proofs.Slots.{refused_exactly, serve_again}
use Rattle.promises.proofs.Codes.{codes_in_order as first-codes}
use Rattle.promises.proofs.Batches.{batch_runs, batch_words as words-of-batches, bulk_runs}

-- ---- Demand 1: "Any pool, state, record or key may be handed in. .. A refused call changes no byte of state, pool or answers."

call_refused : (w : World) (ask : Ask) → Fair w (outcome w ask)
unfolding outcome Fair checked unless refused
call_refused w (AskPush a b v) = calls-refused.push w a b v
call_refused w AskPop = calls-refused.pop w
call_refused w AskConstrain = calls-refused.constrain w
call_refused w AskClear = calls-refused.clear w
call_refused w (AskClearTo a b) = calls-refused.clear_to w a b
call_refused w AskTop = calls-refused.top w
call_refused w AskLength = calls-refused.len w
call_refused w AskUnknown = go (examined w)
  where
    go : (c : ℕ) → Fair w (unless c w (refused w 5))
    go zero n = refl
    go (suc c) n = refl

pub refused_changes_nothing : RefusedChangesNothing
unfolding Fair FairList started
refused_changes_nothing = record {
  calls = call_refused;
  fresh = fresh_refused;
  list = λ w ks vs. calls-refused.list w ks vs;
  bulk = extended_refused;
  batches = batch_refused;
}
  where
    fresh_refused : (p : Lent) (s : Start) → (started p s).code ≢ 0
        → started p s ≡ refused (blank (bare 0) p.keys p.values p.next p.back) (started p s).code
    fresh_refused p New = calls-refused.new p.kind p.keys p.values p.next p.back
    fresh_refused p (NewAt a b) = calls-refused.new_at p.kind a b p.keys p.values p.next p.back

-- "refuses with the number that document 01 fixes": each call with the first that is due, in the order 1 2 3 4 5 9 6 7 8
pub codes_in_order : CodesInOrder
codes_in_order = first-codes

-- ---- Demand 2, of any sound world

module _ {w : World} (h : Whole w) (a b v : ℕ) (p : key_code w.head.kind a b ≡ 0) where
  -- "a well-formed push fails exactly when its key is above the top or no slot is free"
  pub push_refused_exactly : ((pushed w a b v).code ≢ 0) ↔ (Above (top_on w) (ordered w.head.kind a b) ⊎ (chain w free_chain ≡ []))
  push_refused_exactly = refused_exactly h a b v p

  -- "and freed slots serve again": after a pop that gave an entry, a push that is not above the top is taken, and the free chain is
  -- then what it was before the pop, so it took the freed slot
  pub freed_slots_serve_again : (popped w).code ≡ 0 → let w' = (popped w).world in NotAbove (top_on w') (ordered w.head.kind a b)
      → ((pushed w' a b v).code ≡ 0) × (chain (pushed w' a b v).world free_chain ≡ chain w free_chain)
  freed_slots_serve_again given l = serve_again h given a b v p l

-- ---- The demands from a fresh heap on

-- new is done exactly for kinds 1 to 6, kind 5 with a table within its limits, and a fit pool of at most 4,096 slots, and new_at if its key may stand besides
pub new_done_exactly : (p : Lent) → ((started p New).code ≡ 0) ↔ Fit (blank p.kind p.keys p.values p.next p.back)
new_done_exactly = new_exactly

pub new_at_done_exactly : (p : Lent) (a b : ℕ)
    → ((started p (NewAt a b)).code ≡ 0) ↔ (Fit (blank p.kind p.keys p.values p.next p.back) × (key_code p.kind a b ≡ 0))
new_at_done_exactly = new_at_exactly

module _ (p : Lent) (s : Start) (start : StartWords s) (fresh : (started p s).code ≡ 0) where
  holding : Holds p.kind (slots p s) (begun p s) (plain_fresh (start_top p.kind s))
  holding = start_holds p s start fresh

  fresh_stands : standing (begun p s) ≡ empty (start_top p.kind s)
  unfolding plain_fresh
  fresh_stands = holding.stand ∙ sym (empty_arranged (width p.kind) (few (width_le p.kind)) (key_of p.kind) (start_top p.kind s))

  -- every sequence leaves a sound pool of that kind and size
  pub stays_sound : (asks : List Ask) → All Words asks → Whole (world_after (begun p s) asks)
  stays_sound asks ks = (holds_after holding asks ks).whole

  -- "Proved against the crate's own words as a plain list": code, entry, top and length, call by call
  pub answers_as_the_plain_list : (asks : List Ask) → All Words asks
      → answers_from p.kind (begun p s) asks ≡ plain_answers_to p.kind (slots p s) (plain_fresh (start_top p.kind s)) asks
  answers_as_the_plain_list asks ks = answers_plain holding asks ks

  -- "a pop takes the greatest key, among equals the last pushed": of the entries of the plain list, in push order
  pub pop_takes_the_last_greatest : (asks : List Ask) → All Words asks
      → LastGreatest (key_of p.kind) (list_after p s asks).held (given_of AskPop (popped (world_after (begun p s) asks)))
  unfolding outcome answer_of call_of plain_call
  pop_takes_the_last_greatest asks ks =
      let r = holds_after holding asks ks in
      let h = list_after p s asks in
      subst (LastGreatest (key_of p.kind) h.held) (sym (ap (λ (a : Answer Entry). a.given) (answers_next r AskPop tt)))
      (last_greatest (width p.kind) (few (width_le p.kind)) (key_of p.kind) (slots p s) h.top h.held)

  -- "where each entry stands": on the chains of the bucket rule, in its order
  pub entries_stand_by_the_rule : (asks : List Ask) → standing (world_after (begun p s) asks) ≡ rule_after p s asks
  entries_stand_by_the_rule asks =
      stands_ruled p.kind (slots p s) (begun p s) holding.whole holding.kind' holding.sized (empty (start_top p.kind s)) fresh_stands asks

  -- ---- The safety office

  module _ (before since : List Ask) (bs : All Words before) (ss : All Words since) (going : All NoClear (calls_of p.kind since)) where
    -- "no message handed out that is due before one already released": after any calls, while no clear is done, no pop hands out a
    -- key above one handed out before
    pub released_in_order : Descending (releases (key_of p.kind) (answers_from p.kind (world_after (begun p s) before) since))
    released_in_order = releases_descend (holds_after holding before bs) since ss going

  -- in kind 3's words: no time before one already released
  pub released_in_time : p.kind ≡ bare 3 → (before since : List Ask) → All Words before → All Words since → All NoClear (calls_of (bare 3) since)
      → Ascending (times (answers_from (bare 3) (world_after (begun p s) before) since))
  unfolding plain_fresh
  released_in_time k before since bs ss going =
      let r = holds_after (subst (λ (c : Kind). Holds c (slots p s) (begun p s) (plain_fresh (start_top p.kind s))) k holding) before bs in
      releases_in_time r (timely_after (bare 3) (slots p s) (plain_fresh (start_top p.kind s)) nil before bs) since ss going

  -- ---- Demand 3: "Over any sequence of calls since a fresh heap or a clear"

  module _ (asks : List Ask) (ks : All Words asks) where
    pub reports_by_the_rule : reported p s asks ≡ rule_moves p s asks
    reports_by_the_rule =
        moves_ruled p.kind (slots p s) (begun p s) holding.whole holding.kind' holding.sized (empty (start_top p.kind s)) fresh_stands asks

    -- every push that was taken is on the ledger once, by its number and with its own entry
    pub moves_accounted : Account (width p.kind) (key_of p.kind) (ledger p s asks) (taken_by p s asks) (reported p s asks)
    unfolding plain_fresh
    moves_accounted = subst (Account (width p.kind) (key_of p.kind) (ledger p s asks) (taken_by p s asks)) (sym reports_by_the_rule)
        (rule-accounted (width p.kind) (few (width_le p.kind)) (key_of p.kind) (slots p s) (start_top p.kind s) holding.fits
        (calls_of p.kind asks) (calls_fit p.kind asks ks))

    -- "each entry moves between buckets at most as often as its key, in ordered form, has zero bits at and below the highest place
    -- where it differs from the top it was first measured against .., once more if it was pushed while no top stood"
    pub moves_within_bound : All (λ e. e.moves ≤ bound (width p.kind) (key_of p.kind) e) (everyone (ledger p s asks))
    moves_within_bound = moves_accounted.each

    -- "The moves that calls report add up to exactly those of the bucket rule": those that its entries count
    pub moves_exact : sum (λ e. e.moves) (everyone (ledger p s asks)) ≡ reported p s asks
    moves_exact = moves_accounted.exact

    -- so they keep the summed bound
    pub moves_within_summed_bound : reported p s asks ≤ sum (bound (width p.kind) (key_of p.kind)) (everyone (ledger p s asks))
    moves_within_summed_bound = moves_accounted.summed

    -- and the ledger is the pool's: forget numbers and counts, and its entries stand where the pool has them
    pub ledger_stands : heap_of (λ e. e.entry) (ledger p s asks).heap ≡ standing (world_after (begun p s) asks)
    ledger_stands =
        ledger_heap (width p.kind) (key_of p.kind) (slots p s) (start_top p.kind s) (calls_of p.kind asks) ∙ sym (entries_stand_by_the_rule asks)

    -- ".. or a clear": a clear leaves the state and the pool that new made, and clear_to those of new_at, to the byte
    pub clear_is_new : (cleared (world_after (begun p s) asks)).world ≡ (started p New).world
    clear_is_new = cleared_anew p s fresh (holds_after holding asks ks)

    pub clear_to_is_new_at : (a b : ℕ) → key_code p.kind a b ≡ 0
        → (cleared_to (world_after (begun p s) asks) a b).world ≡ (started p (NewAt a b)).world
    clear_to_is_new_at a b k = cleared_to_anew p s fresh (holds_after holding asks ks) a b k

-- ---- The same from any sound pool on, whatever its history: the plain list is that of its entries, in list order

module _ {w : World} (h : Whole w) (b : Bounded w) (asks : List Ask) (ks : All Words asks) where
  pub answers_from_any_sound_world : answers_from w.head.kind w asks ≡ plain_answers_to w.head.kind (size w) (list_in w) asks
  answers_from_any_sound_world = answers_plain (sound_holds h b) asks ks

  pub released_from_any_sound_world : All NoClear (calls_of w.head.kind asks)
      → Descending (releases (key_of w.head.kind) (answers_from w.head.kind w asks))
  released_from_any_sound_world going = releases_descend (sound_holds h b) asks ks going

-- ---- What is promised of calls holds of batches and bulk pushes: they are sequences of calls

module _ (w : World) (typed : Typed w.links) where
  -- state, pool, answers and count of a batch that is not refused, byte for byte; bytes past the last answer stay
  pub batch_is_the_calls : (bs as' : List ℕ) → batch_code w bs as' ≡ 0 → let asks = asks_of w.head.kind bs in
      batch w bs as' ≡ batched 0 (world_after w asks) (over (bytes_from w asks) as') (records bs)
  batch_is_the_calls = batch_runs w typed

  -- state and pool of a bulk push that is not refused
  pub bulk_is_the_calls : (es : List BulkEntry) → (extended w es).code ≡ 0 → (extended w es).world ≡ world_after w (pushes_of es)
  bulk_is_the_calls = bulk_runs w typed

-- the calls of any bytes bring words of 64 bits, as the promises ask
pub batch_words : (kind : Kind) (bs : List ℕ) → ((k : ℕ) → get_or bs k 0 < 256) → All Words (asks_of kind bs)
batch_words kind bs small = words-of-batches bs small kind

-- calls after calls are one sequence, so batches and single calls may take turns
pub world_after_append : (w : World) (before since : List Ask) → world_after w (before ++ since) ≡ world_after (world_after w before) since
unfolding world_after
world_after_append w [] since = refl
world_after_append w (c ∷ cs) since = world_after_append (outcome w c).world cs since
