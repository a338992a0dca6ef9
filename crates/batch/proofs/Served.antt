-- A record on a sound world: the core does what document 01 says, the world stays sound, and its kind and its number of slots stay.
use mathlib.Core.Path.{◌≡◌, refl, sym, subst}
use mathlib.Core.Bool.{Bool, true, false, cond}
use mathlib.Core.List.{List, [], ◌∷◌}
use mathlib.Core.Option.{Option, none, some}
use Prim.Native.Nat.{ℕ, zero, suc}
use lib.Dec.{eqb}
use lib.ListN.{length}
use Rattle.std.specs.Prelude.{Ok, Err}
use Rattle.rule.specs.Rule.{Step, keep, constrain as ruleConstrain, pop as rulePop}
use Rattle.keys.specs.Ordered.{width, ordered}
use Rattle.pool.specs.declared.refusal.Refusal.TheVariants.{Malformed}
use Rattle.pool.specs.Codes.{refusal_code}
use Rattle.pool.specs.World.{free_chain, World, size, chain, key_at, top_key, within}
use Rattle.pool.specs.Sound.{Whole}
use Rattle.pool.specs.Lay.{heap, next_in, lay, fresh, head_after}
use Rattle.pool.proofs.Chains.{length_tab}
use Rattle.engine.specs.Outcome.{Outcome, refused, done, given, unless, key_code}
use Rattle.heap.specs.Calls.{push_into, push, constrain, pop_out, pop, clear, clear_to, top, len}
use Rattle.heap.proofs.Calls.{push_by, push_core_lem, push_whole, pop_core_lem, pop_whole, constrain_core_lem, constrain_whole, clear_core_lem, clear_whole, clear_to_core_lem, clear_to_whole, top_whole, len_whole}
use Rattle.batch.specs.declared.records.Record.{Record}
use Rattle.batch.specs.Records.{formed}
use Rattle.batch.specs.Batch.{operated, served}
use Rattle.batch.specs.Core.{named, operation_of, constrained_core, operated_core, asked_core, served_core}
use Rattle.batch.specs.declared.records.Operation.{Operation}

-- what holds of both sides holds of the one that is chosen
either : (P : Outcome → Type 0) (x : Bool) {o p : Outcome} → P o → P p → P (cond x o p)
either P true a b = a
either P false a b = b

-- what holds of every call, and of a refusal, holds of what a record gives
each : (P : Outcome → Type 0) (w : World) (r : Record) → P (push w r.key.first r.key.second r.value) → P (pop w) → P (constrain w) → P (clear w) → P (clear_to w r.key.first r.key.second) → P (top w) → P (len w)
    → P (refused w 5) → P (served w r)
unfolding served operated
each P w r p₁ p₂ p₃ p₄ p₅ p₆ p₇ p₀ =
    either P (formed w.head.kind r)
    (either P (eqb r.op 1) p₁ (either P (eqb r.op 2) p₂ (either P (eqb r.op 3) p₃ (either P (eqb r.op 4) p₄ (either P (eqb r.op 5) p₅ (either P (eqb r.op 6) p₆ p₇))))))
    p₀

-- ---- the core

module _ {w : World} (h : Whole w) (r : Record) where
  -- what is chosen acts as what each side does
  step : (x : Bool) (a b : Operation) {o p : Outcome} → operated_core w a ≡ o → operated_core w b ≡ p → operated_core w (cond x a b) ≡ cond x o p
  step true a b e f = e
  step false a b e f = f

  operated_core_lem : operated_core w (named r) ≡ operated w r
  unfolding operated_core operated constrained_core named
  operated_core_lem =
      step (eqb r.op 1) _ _ (push_core_lem h r.key.first r.key.second r.value)
      (step (eqb r.op 2) _ _ (pop_core_lem h)
      (step (eqb r.op 3) _ _ (constrain_core_lem h)
      (step (eqb r.op 4) _ _ (clear_core_lem h)
      (step (eqb r.op 5) _ _ (clear_to_core_lem h r.key.first r.key.second)
      (step (eqb r.op 6) _ _ refl refl)))))

  pub served_core_lem : served_core w r ≡ served w r
  unfolding served_core served asked_core operation_of refusal_code
  served_core_lem = go (formed w.head.kind r)
    where
      go : (x : Bool) → asked_core w (cond x (Ok (named r)) (Err Malformed)) ≡ cond x (operated w r) (refused w 5)
      go true = operated_core_lem
      go false = refl

  pub served_whole : Whole (served w r).world
  unfolding refused
  served_whole = each (λ (o : Outcome). Whole o.world) w r (push_whole h r.key.first r.key.second r.value) (pop_whole h) (constrain_whole h) (clear_whole h) (clear_to_whole h r.key.first r.key.second) (top_whole h) (len_whole h) h

-- ---- what stays

-- the kind, and the number of slots
pub record Kept (w u : World) : Type 0 where
  pub kind : u.head.kind ≡ w.head.kind
  pub slots : size u ≡ size w

abbrev Keeps : World → Outcome → Type 0
Keeps w o = Kept w o.world

refused_keeps : (w : World) (c : ℕ) → Keeps w (refused w c)
unfolding refused
refused_keeps w c = record { kind = refl; slots = refl }

-- links that are laid out are as many as they are laid for
laid : (ls : List (List ℕ)) (n : ℕ) → length (lay ls n).next ≡ n
unfolding lay
laid ls n = length_tab (λ s. next_in s ls) 0 n

into_keeps : (w : World) (a b v : ℕ) (free : List ℕ) → Keeps w (push_into w a b v free)
unfolding push_into done
into_keeps w a b v [] = refused_keeps w 7
into_keeps w a b v (s ∷ free) = record { kind = refl; slots = laid _ (size w) }

push_keeps : (w : World) (a b v : ℕ) → Keeps w (push w a b v)
unfolding unless
push_keeps w a b v = go (key_code w.head.kind a b) (within w.head.topped (ordered w.head.kind a b) (top_key w)) refl refl
  where
    go : (x : ℕ) (y : Bool) → key_code w.head.kind a b ≡ x → within w.head.topped (ordered w.head.kind a b) (top_key w) ≡ y → Keeps w (push w a b v)
    go (suc c) y p q = subst (Keeps w) (sym (push_by w a b v (suc c) y p q)) (refused_keeps w (suc c))
    go zero false p q = subst (Keeps w) (sym (push_by w a b v 0 false p q)) (refused_keeps w 6)
    go zero true p q = subst (Keeps w) (sym (push_by w a b v 0 true p q)) (into_keeps w a b v (chain w free_chain))

after_kind : (w : World) (moved : List ℕ) → (head_after w moved).kind ≡ w.head.kind
unfolding head_after
after_kind w [] = refl
after_kind w (s ∷ ss) = refl

constrain_keeps : (w : World) → Keeps w (constrain w)
unfolding constrain done
constrain_keeps w = record { kind = after_kind w (ruleConstrain (width w.head.kind) (key_at w) keep (heap w)).moved; slots = laid _ (size w) }

out_keeps : (w : World) (r : Step ℕ) (o : Option ℕ) → Keeps w (pop_out w r o)
unfolding pop_out given
out_keeps w r none = refused_keeps w 8
out_keeps w r (some s) = record { kind = after_kind w r.moved; slots = laid _ (size w) }

pop_keeps : (w : World) → Keeps w (pop w)
unfolding pop
pop_keeps w = let r = rulePop (width w.head.kind) (key_at w) keep (heap w) in out_keeps w r r.given

fresh_keeps : (w : World) (t : Bool) (a b : ℕ) → Keeps w (done (fresh w.head.kind (size w) t a b) 0)
unfolding fresh done
fresh_keeps w t a b = record { kind = refl; slots = laid _ (size w) }

to_keeps : (w : World) (a b : ℕ) → Keeps w (clear_to w a b)
unfolding clear_to unless
to_keeps w a b = go (key_code w.head.kind a b)
  where
    go : (x : ℕ) → Keeps w (unless x w (done (fresh w.head.kind (size w) true a b) 0))
    go (suc c) = refused_keeps w (suc c)
    go zero = fresh_keeps w true a b

-- any record, any world
pub served_keeps : (w : World) (r : Record) → Kept w (served w r).world
unfolding clear top len
served_keeps w r = each (Keeps w) w r (push_keeps w r.key.first r.key.second r.value) (pop_keeps w) (constrain_keeps w) (fresh_keeps w false 0 0) (to_keeps w r.key.first r.key.second)
    (record { kind = refl; slots = refl }) (record { kind = refl; slots = refl }) (refused_keeps w 5)
