-- What the code of a bulk push asks for, on plain values: what a turn of each loop does, and the whole call.
use mathlib.Core.Path.{◌≡◌, refl, sym, ap, ◌∙◌, subst}
use mathlib.Core.List.{List, [], ◌∷◌}
use Prim.Native.Nat.{ℕ, zero, suc, ◌+◌, ◌-◌, ◌≤◌, ◌<◌}
use native.Mathlib.Numerals.{add-one}
use lib.ListN.{length, get_or, drop, drop_of_length-le}
use lib.Seq.{drop-cons}
use Rattle.std.specs.Prelude.{Result, Ok, Err, MatchResult}
use Rattle.pool.specs.declared.lent.Entry.{Entry}
use Rattle.pool.specs.declared.refusal.Refusal.{Refusal}
use Rattle.pool.specs.declared.state.Head.{Head}
use Rattle.pool.specs.Codes.{refusal_code, told}
use Rattle.pool.specs.World.{World, size}
use Rattle.pool.specs.Sound.{Typed, Whole}
use Rattle.pool.specs.Examine.{examined}
use Rattle.pool.proofs.Refusals.{refusal_some}
use Rattle.pool.proofs.Follows.{examined_whole}
use Rattle.engine.specs.Outcome.{Outcome}
use Rattle.engine.specs.Core.{push_code, push_core}
use Rattle.heap.proofs.Calls.{push_core_lem, push_whole}
use Rattle.bulk.specs.declared.extending.Stop.{Stop}
use Rattle.bulk.specs.Answers.{bulk_answered}
use Rattle.bulk.specs.Bulk.{bulk, extend, bulk_unless, extended}
use Rattle.bulk.specs.Wide.{no_entry}
use Rattle.bulk.specs.Core.{Found, found, found_in, found_at, tested, push_all}
use Rattle.bulk.proofs.Each.{tested_by, refused_is, taken_is}

-- what is told, with its place
at_place_is : (i : ℕ) (t : Result Unit Refusal) (r : Result Unit Stop) → MatchResult t (λ x. r ≡ Ok x) (λ e. r ≡ Err (record { refusal = e; place = i })) → found_in r ≡ found_at i (told t)
unfolding found_in found_at told
at_place_is i (Ok x) r e = ap found_in e
at_place_is i (Err e) r p = ap found_in p ∙ go (refusal_code e) (refusal_some e)
  where
    go : (c : ℕ) → (c ≡ 0 → ⊥) → found c i ≡ found_at i c
    go zero n = absurd (n refl)
    go (suc c) n = refl

pub at_place_told : (i c : ℕ) (t : Result Unit Refusal) (r : Result Unit Stop) → MatchResult t (λ x. r ≡ Ok x) (λ e. r ≡ Err (record { refusal = e; place = i })) → told t ≡ c → found_in r ≡ found_at i c
at_place_told i c t r e is = at_place_is i t r e ∙ ap (found_at i) is

-- the number is 0 exactly where nothing is refused
pub found_none : {T : Type 0} (x : T) (i c : ℕ) → found_in (Ok x) ≡ found_at i c → c ≡ 0
unfolding found_in found_at
found_none x i zero e = refl
found_none x i (suc c) e = sym (ap (λ (t : Found). t.code) e)

pub found_some : (T : Type 0) (s : Stop) (i c : ℕ) → found_in {T = T} (Err s) ≡ found_at i c → c ≡ 0 → ⊥
unfolding found_in found_at
found_some T s i c e z = refusal_some s.refusal (ap (λ (t : Found). t.code) (e ∙ ap (found_at i) z))

-- the entries from place i on
module _ (es : List Entry) (i : ℕ) where
  rest_end : length es ≤ i → drop i es ≡ []
  rest_end l = drop_of_length-le es l

  rest_turn : i < length es → drop i es ≡ get_or es i no_entry ∷ drop (i + 1) es
  rest_turn l = drop-cons es i no_entry l ∙ ap (λ (k : ℕ). get_or es i no_entry ∷ drop k es) (sym (add-one i))

  -- ---- a turn of the test, of an entry e

  module _ (h : Head) (f : ℕ) where
    module _ {t : Found} (same : t ≡ tested h f i (drop i es)) where
      pub test_end : {T : Type 0} (x : T) → length es ≤ i → found_in (Ok x) ≡ t
      unfolding found_in tested
      test_end x l = sym (same ∙ ap (tested h f i) (rest_end l))

      module _ {e : Entry} (is : e ≡ get_or es i no_entry) (l : i < length es) where
        test_by : (c : ℕ) → push_code h f e.key.first e.key.second ≡ c → t ≡ (elim c as (λ x. Found) [ zero ↦ tested h (f - 1) (suc i) (drop (i + 1) es) | suc d ↦ found (suc d) i ])
        test_by c p = same ∙ ap (tested h f i) (rest_turn l ∙ ap (λ (x : Entry). x ∷ drop (i + 1) es) (sym is)) ∙ tested_by e (drop (i + 1) es) h f i c p

        -- the entry passes
        pub test_passed : push_code h f e.key.first e.key.second ≡ 0 → t ≡ tested h (f - 1) (i + 1) (drop (i + 1) es)
        test_passed p = test_by 0 p ∙ ap (λ (k : ℕ). tested h (f - 1) k (drop (i + 1) es)) (sym (add-one i))

        -- or it is refused
        pub test_refused : (T : Type 0) (s : Stop) → found_in {T = T} (Err s) ≡ found_at i (push_code h f e.key.first e.key.second) → found_in {T = T} (Err s) ≡ t
        unfolding found_at
        test_refused T s told = told ∙ sym (test_by (push_code h f e.key.first e.key.second) refl ∙ go (push_code h f e.key.first e.key.second) (found_some T s i (push_code h f e.key.first e.key.second) told))
          where
            go : (c : ℕ) → (c ≡ 0 → ⊥) → (elim c as (λ x. Found) [ zero ↦ tested h (f - 1) (suc i) (drop (i + 1) es) | suc d ↦ found (suc d) i ]) ≡ found_at i c
            go zero z = absurd (z refl)
            go (suc c) z = refl

  -- ---- a turn of the pushes

  module _ (w : World) {w' : World} (same : w' ≡ push_all w (drop i es)) where
    pub push_end : length es ≤ i → w ≡ w'
    unfolding push_all
    push_end l = sym (same ∙ ap (push_all w) (rest_end l))

    -- with what the engine gave
    pub push_turn : {e : Entry} → e ≡ get_or es i no_entry → i < length es → (o : Outcome) → o ≡ push_core w e.key.first e.key.second e.value → w' ≡ push_all o.world (drop (i + 1) es)
    unfolding push_all
    push_turn {e} is l o p = same ∙ ap (push_all w) (rest_turn l ∙ ap (λ (x : Entry). x ∷ drop (i + 1) es) (sym is)) ∙ ap (λ (x : Outcome). push_all x.world (drop (i + 1) es)) (sym p)

-- a push of the engine leaves a sound world
pub push_stays : {w : World} → Whole w → (a b v : ℕ) (o : Outcome) → o ≡ push_core w a b v → Whole o.world
push_stays h a b v o e = subst (λ (x : Outcome). Whole x.world) (sym (e ∙ push_core_lem h a b v)) (push_whole h a b v)

-- ---- the whole call

-- the pool passes the examination: it is sound
pub pool_sound : (w : World) (t : Result Unit Refusal) (x : Unit) → MatchResult t (λ y. ◌≡◌ {A = Result Unit Stop} (Ok x) (Ok y)) (λ e. ◌≡◌ {A = Result Unit Stop} (Ok x) (Err (record { refusal = e; place = 0 }))) → told t ≡ examined w → Typed w.links → Whole w
pool_sound w t x e is y = (examined_whole w y).0 (found_none x 0 (examined w) (at_place_told 0 (examined w) t (Ok x) e is))

module _ (w : World) (es : List Entry) where
  -- the pool is refused: the state and the pool that were handed in, and place 0
  pub pool_refused : (T : Type 0) (s : Stop) → found_in {T = T} (Err s) ≡ found_at 0 (examined w) → bulk_answered {T = T} (Err s) w ≡ extended w es
  unfolding found_in found_at bulk_answered extended bulk_unless
  pool_refused T s = go (examined w)
    where
      go : (c : ℕ) → found_in {T = T} (Err s) ≡ found_at 0 c → bulk (refusal_code s.refusal) w s.place ≡ bulk_unless c w (extend w es)
      go zero e = absurd (found_some T s 0 0 e refl)
      go (suc c) e = ap (λ (t : Found). bulk t.code w t.place) e

  module _ (h : Whole w) {f : ℕ} (free : f ≡ size w - w.head.len) where
    counted_as : {t : Found} → t ≡ tested w.head f 0 es → t ≡ tested w.head (size w - w.head.len) 0 es
    counted_as told = told ∙ ap (λ (n : ℕ). tested w.head n 0 es) free

    -- an entry is refused
    pub entry_refused : (T : Type 0) (s : Stop) → found_in {T = T} (Err s) ≡ tested w.head f 0 es → bulk_answered {T = T} (Err s) w ≡ extended w es
    unfolding found_in bulk_answered
    entry_refused T s told = refused_is h es (found (refusal_code s.refusal) s.place) (counted_as told) (refusal_some s.refusal)

    -- none is, and all are pushed
    pub all_pushed : {T : Type 0} (x : T) → found_in (Ok x) ≡ tested w.head f 0 es → {w' : World} → w' ≡ push_all w es → bulk_answered (Ok x) w' ≡ extended w es
    unfolding found_in bulk_answered
    all_pushed x told e = taken_is h es (found 0 0) (counted_as told) refl e
