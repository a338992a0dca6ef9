-- No second outcome: two answers of a call, with the pools that they leave, that satisfy its contract are the same, byte for byte.
use mathlib.Core.Path.{◌≡◌, refl, sym, ◌∙◌, ap}
use mathlib.Core.Bool.{false, cond}
use mathlib.Core.List.{List}
use Prim.Native.Nat.{ℕ}
use Rattle.std.proofs.Common.{Result, Ok, Err, Option, Some, None}
use Rattle.keys.specs.declared.kind.Kind.{Kind}
use Rattle.keys.specs.declared.words.Words.{Words}
use Rattle.pool.specs.declared.refusal.Refusal.{Refusal}
use Rattle.pool.specs.declared.state.State.{State}
use Rattle.pool.specs.declared.state.Answer.{Answer}
use Rattle.pool.specs.Codes.{told}
use Rattle.pool.specs.World.{World, world_of}
use Rattle.engine.specs.declared.popping.Popped.{Popped}
use Rattle.engine.specs.Outcome.{Outcome, answered, Listing}
use Rattle.engine.specs.Answers.{pop_answered, moves_answered, top_answered, len_answered}
use Rattle.heap.specs.Answers.{list_answered}
use Rattle.heap.specs.Calls.{pushed, popped, constrained, cleared, cleared_to, top_read, len_read, made, made_at, listed}
use Rattle.pool.proofs.Refusals.{result_of, result_err}

-- a pool's four slices
pub record Pool : Type 0 where
  pub keys : List ℕ
  pub values : List ℕ
  pub next : List ℕ
  pub back : List ℕ

abbrev pub over : State → Pool → World
over s p = world_of s p.keys p.values p.next p.back

-- a world tells its state and its pool
abbrev pub state_in : World → State
state_in w = record { head = w.head; first = w.links.first; last = w.links.last; busy = w.links.busy }

abbrev pub pool_in : World → Pool
pool_in w = record { keys = w.keys; values = w.values; next = w.links.next; back = w.links.back }

-- ---- answers by their form: `say` puts them in numbers, and `give` reads off those what a call gives

module _ {A : Type 0} (say : Result A Refusal → World → Outcome) (give : Outcome → A)
    (heard : (t : Result A Refusal) (w : World) → result_of (say t w).code (give (say t w)) ≡ t) (over_it : (t : Result A Refusal) (w : World) → (say t w).world ≡ w) where
  result_determined : (t t' : Result A Refusal) (w w' : World) → say t w ≡ say t' w' → t ≡ t'
  result_determined t t' w w' e = sym (heard t w) ∙ ap (λ (o : Outcome). result_of o.code (give o)) e ∙ heard t' w'

  answer_determined : (x : Outcome) (p p' : Pool) (r r' : Answer A Refusal) → say r.told (over r.state p) ≡ x → say r'.told (over r'.state p') ≡ x → (r ≡ r') × (p ≡ p')
  answer_determined x p p' r r' e f =
      let g = e ∙ sym f in
      let t = result_determined r.told r'.told (over r.state p) (over r'.state p') g in
      let w = sym (over_it r.told (over r.state p)) ∙ ap (λ (o : Outcome). o.world) g ∙ over_it r'.told (over r'.state p') in
      ((λ i. record { told = t i; state = state_in (w i) }), ap pool_in w)

-- a call that gives nothing but what it was told
abbrev done_answered : Result (Unit {0}) Refusal → World → Outcome
done_answered t w = answered (told t) w 0 false 0 0 0 0

done_heard : (t : Result (Unit {0}) Refusal) (w : World) → result_of (done_answered t w).code (tt {0}) ≡ t
unfolding told result_of
done_heard (Ok x) w = refl
done_heard (Err r) w = result_err r (tt {0})

-- the moves
moves_heard : (t : Result ℕ Refusal) (w : World) → result_of (moves_answered t w).code (moves_answered t w).moves ≡ t
unfolding moves_answered result_of
moves_heard (Ok n) w = refl
moves_heard (Err r) w = result_err r 0

moves_over : (t : Result ℕ Refusal) (w : World) → (moves_answered t w).world ≡ w
unfolding moves_answered
moves_over (Ok n) w = refl
moves_over (Err r) w = refl

-- what a pop gave
pop_of : Outcome → Popped
pop_of o = record { entry = record { key = record { first = o.key0; second = o.key1 }; value = o.value }; moves = o.moves }

pop_heard : (t : Result Popped Refusal) (w : World) → result_of (pop_answered t w).code (pop_of (pop_answered t w)) ≡ t
unfolding pop_answered pop_of result_of
pop_heard (Ok p) w = refl
pop_heard (Err r) w = result_err r _

pop_over : (t : Result Popped Refusal) (w : World) → (pop_answered t w).world ≡ w
unfolding pop_answered
pop_over (Ok p) w = refl
pop_over (Err r) w = refl

-- the top
top_of : Outcome → Option Words
top_of o = cond o.present (Some (record { first = o.key0; second = o.key1 })) None

top_heard : (t : Result (Option Words) Refusal) (w : World) → result_of (top_answered t w).code (top_of (top_answered t w)) ≡ t
unfolding top_answered top_of result_of
top_heard (Ok None) w = refl
top_heard (Ok (Some k)) w = refl
top_heard (Err r) w = result_err r _

top_over : (t : Result (Option Words) Refusal) (w : World) → (top_answered t w).world ≡ w
unfolding top_answered
top_over (Ok None) w = refl
top_over (Ok (Some k)) w = refl
top_over (Err r) w = refl

-- the length
len_heard : (t : Result ℕ Refusal) (w : World) → result_of (len_answered t w).code (len_answered t w).count ≡ t
unfolding len_answered result_of
len_heard (Ok n) w = refl
len_heard (Err r) w = result_err r 0

len_over : (t : Result ℕ Refusal) (w : World) → (len_answered t w).world ≡ w
unfolding len_answered
len_over (Ok n) w = refl
len_over (Err r) w = refl

-- ---- the calls

module _ (p p' : Pool) where
  pub determined_new : (kind : Kind) (keys values next back : List ℕ) (r r' : Answer (Unit {0}) Refusal) → answered (told r.told) (over r.state p) 0 false 0 0 0 0 ≡ made kind keys values next back
      → answered (told r'.told) (over r'.state p') 0 false 0 0 0 0 ≡ made kind keys values next back → (r ≡ r') × (p ≡ p')
  determined_new kind keys values next back = answer_determined done_answered (λ o. tt {0}) done_heard (λ t w. refl) (made kind keys values next back) p p'

  pub determined_new_at : (kind : Kind) (a b : ℕ) (keys values next back : List ℕ) (r r' : Answer (Unit {0}) Refusal)
      → answered (told r.told) (over r.state p) 0 false 0 0 0 0 ≡ made_at kind a b keys values next back
      → answered (told r'.told) (over r'.state p') 0 false 0 0 0 0 ≡ made_at kind a b keys values next back → (r ≡ r') × (p ≡ p')
  determined_new_at kind a b keys values next back = answer_determined done_answered (λ o. tt {0}) done_heard (λ t w. refl) (made_at kind a b keys values next back) p p'

  pub determined_push : (w : World) (a b v : ℕ) (r r' : Answer (Unit {0}) Refusal) → answered (told r.told) (over r.state p) 0 false 0 0 0 0 ≡ pushed w a b v
      → answered (told r'.told) (over r'.state p') 0 false 0 0 0 0 ≡ pushed w a b v → (r ≡ r') × (p ≡ p')
  determined_push w a b v = answer_determined done_answered (λ o. tt {0}) done_heard (λ t w. refl) (pushed w a b v) p p'

  pub determined_pop : (w : World) (r r' : Answer Popped Refusal) → pop_answered r.told (over r.state p) ≡ popped w
      → pop_answered r'.told (over r'.state p') ≡ popped w → (r ≡ r') × (p ≡ p')
  determined_pop w = answer_determined pop_answered pop_of pop_heard pop_over (popped w) p p'

  pub determined_constrain : (w : World) (r r' : Answer ℕ Refusal) → moves_answered r.told (over r.state p) ≡ constrained w
      → moves_answered r'.told (over r'.state p') ≡ constrained w → (r ≡ r') × (p ≡ p')
  determined_constrain w = answer_determined moves_answered (λ o. o.moves) moves_heard moves_over (constrained w) p p'

  pub determined_clear : (w : World) (r r' : Answer ℕ Refusal) → moves_answered r.told (over r.state p) ≡ cleared w
      → moves_answered r'.told (over r'.state p') ≡ cleared w → (r ≡ r') × (p ≡ p')
  determined_clear w = answer_determined moves_answered (λ o. o.moves) moves_heard moves_over (cleared w) p p'

  pub determined_clear_to : (w : World) (a b : ℕ) (r r' : Answer ℕ Refusal) → moves_answered r.told (over r.state p) ≡ cleared_to w a b
      → moves_answered r'.told (over r'.state p') ≡ cleared_to w a b → (r ≡ r') × (p ≡ p')
  determined_clear_to w a b = answer_determined moves_answered (λ o. o.moves) moves_heard moves_over (cleared_to w a b) p p'

-- the readers change nothing by their types, so the answer is all there is
pub determined_top : (w : World) (r r' : Result (Option Words) Refusal) → top_answered r w ≡ top_read w → top_answered r' w ≡ top_read w → r ≡ r'
determined_top w r r' e f = result_determined top_answered top_of top_heard top_over r r' w w (e ∙ sym f)

pub determined_len : (w : World) (r r' : Result ℕ Refusal) → len_answered r w ≡ len_read w → len_answered r' w ≡ len_read w → r ≡ r'
determined_len w r r' e f = result_determined len_answered (λ o. o.count) len_heard len_over r r' w w (e ∙ sym f)

-- a list also changes its two rooms
module _ (w : World) (ks vs : List ℕ) where
  list_heard : (t : Result ℕ Refusal) → result_of (list_answered t w ks vs).code (list_answered t w ks vs).count ≡ t
  unfolding list_answered result_of
  list_heard (Ok n) = refl
  list_heard (Err r) = result_err r 0

  list_rooms : (t : Result ℕ Refusal) → ((list_answered t w ks vs).keys ≡ ks) × ((list_answered t w ks vs).values ≡ vs)
  unfolding list_answered
  list_rooms (Ok n) = (refl, refl)
  list_rooms (Err r) = (refl, refl)

pub determined_list : (w : World) (ks vs ks₁ vs₁ ks₂ vs₂ : List ℕ) (r r' : Result ℕ Refusal) → list_answered r w ks₁ vs₁ ≡ listed w ks vs → list_answered r' w ks₂ vs₂ ≡ listed w ks vs
    → (r ≡ r') × (ks₁ ≡ ks₂) × (vs₁ ≡ vs₂)
determined_list w ks vs ks₁ vs₁ ks₂ vs₂ r r' e f =
    let g = e ∙ sym f in
    let a = list_rooms w ks₁ vs₁ r in
    let b = list_rooms w ks₂ vs₂ r' in (
      sym (list_heard w ks₁ vs₁ r) ∙ ap (λ (l : Listing). result_of l.code l.count) g ∙ list_heard w ks₂ vs₂ r',
      sym a.0 ∙ ap (λ (l : Listing). l.keys) g ∙ b.0,
      sym a.1 ∙ ap (λ (l : Listing). l.values) g ∙ b.1,
    )
