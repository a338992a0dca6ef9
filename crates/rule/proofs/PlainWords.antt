-- Demand 2: whatever the calls, the bucket rule answers as the plain list does.
use mathlib.Core.Path.{◌≡◌, refl, sym, ◌∙◌, ap, subst}
use mathlib.Core.Bool.{true, false, cond}
use mathlib.Core.List.{List, [], ◌∷◌, ◌++◌}
use mathlib.Core.Option.{Option, none, some}
use Prim.Native.Nat.{ℕ, zero, suc, ◌<◌}
use lib.ListN.{length}
use Rattle.rule.specs.Lists.{All, cons}
use Rattle.rule.specs.Calls.{Call, Push, Pop, Constrain, Clear, ClearTo, Top, Length, refusal, WellFormed}
use Rattle.rule.specs.Rule.{bucket_count, Heap, empty, keep, serve, answers, heap_after}
use Rattle.rule.specs.Arrange.{arrange, Fits, moves, after}
use Rattle.rule.specs.Plain.{pick, LastGreatest, plain_fresh, PlainServed, plain_served, plain_serve, plain_answers, plain_after}
use Rattle.rule.proofs.Lists.{map_same}
use Rattle.rule.proofs.Arranged.{picked}
use Rattle.rule.proofs.Line.{Lined, lined, line, placed, swept_list, popped_list, serve_line, fits_line, empty_arranged}

module _ (B : ℕ) {E : Type 0} (key : E → ℕ) (n : ℕ) where
  after_keep : (old : Option ℕ) (m : ℕ) (e : E) → after B key keep old m e ≡ e
  after_keep old m e = elim (moves B key old m e) as (λ b. cond b e e ≡ e) [ true ↦ refl | false ↦ refl ]

  -- the rule's account without its moves
  unfoldable pub bare : Lined E → PlainServed E
  bare l = record { heap = l.heap; answer = l.answer }

  -- and that is the plain list's
  pub line_tells : (old : Option ℕ) (es : List E) (c : Call E) → bare (line B key keep n old es c) ≡ plain_serve key n (record { top = old; held = es }) c
  unfolding bare line lined plain_serve plain_served swept_list popped_list
  line_tells old es (Push e) = go (refusal n old (length es) (key e))
    where
      go : (r : ℕ)
          → bare (elim r as (λ x. Lined E) [ zero ↦ lined (record { top = old; held = es ++ e ∷ [] }) [] 0 none none | suc c ↦ lined (record { top = old; held = es }) [] (suc c) none none ])
          ≡ elim r as (λ x. PlainServed E) [ zero ↦ plain_served (record { top = old; held = es ++ e ∷ [] }) 0 none none | suc c ↦ plain_served (record { top = old; held = es }) (suc c) none none ]
      go zero = refl
      go (suc c) = refl
  line_tells old [] Pop = refl
  line_tells old (e ∷ es) Pop =
      let p = pick key e es in
      let m = key p.best in
      rw (map_same (after B key keep old m) (after_keep old m) p.before, map_same (after B key keep old m) (after_keep old m) p.after, after_keep old m p.best)
  line_tells old [] Constrain = refl
  line_tells old (e ∷ es) Constrain =
      let m = key (pick key e es).best in
      ap (λ l. plain_served (record { top = some m; held = l }) 0 none none) (map_same (after B key keep old m) (after_keep old m) (e ∷ es))
  line_tells old es Clear = refl
  line_tells old es (ClearTo k) = refl
  line_tells old es Top = refl
  line_tells old es Length = refl

module _ (B : ℕ) (small : B < bucket_count) {E : Type 0} (key : E → ℕ) (n : ℕ) where
  pub arranged_plain : (old : Option ℕ) (es : List E) → Fits B key old es → (cs : List (Call E)) → All (WellFormed B key) cs
      → answers B key keep n (arrange B key old es) cs ≡ plain_answers key n (record { top = old; held = es }) cs
  unfolding answers plain_answers placed bare
  arranged_plain old es f [] w = refl
  arranged_plain old es f (c ∷ cs) (cons w ws) =
      let l = line B key keep n old es c in
      ap (λ s. s.answer ∷ answers B key keep n s.heap cs) (serve_line B small key keep (λ t e. refl) n old es f c)
      ∙ ap (λ as'. l.answer ∷ as') (arranged_plain l.heap.top l.heap.held (fits_line B small key keep (λ t e. refl) n old es f c w) cs ws)
      ∙ ap (λ t. t.answer ∷ plain_answers key n t.heap cs) (line_tells B key n old es c)

  stand_told : (old : Option ℕ) (es : List E) → Fits B key old es → (cs : List (Call E)) → All (WellFormed B key) cs
      → heap_after B key keep n (arrange B key old es) cs ≡ arrange B key (plain_after key n (record { top = old; held = es }) cs).top (plain_after key n (record { top = old; held = es }) cs).held
  unfolding heap_after plain_after placed bare
  stand_told old es f [] w = refl
  stand_told old es f (c ∷ cs) (cons w ws) =
      let l = line B key keep n old es c in
      ap (λ s. heap_after B key keep n s.heap cs) (serve_line B small key keep (λ t e. refl) n old es f c)
      ∙ stand_told l.heap.top l.heap.held (fits_line B small key keep (λ t e. refl) n old es f c w) cs ws
      ∙ ap (λ t. arrange B key (plain_after key n t.heap cs).top (plain_after key n t.heap cs).held) (line_tells B key n old es c)

  -- the list keeps its keys at most the top
  fits_after : (old : Option ℕ) (es : List E) → Fits B key old es → (cs : List (Call E)) → All (WellFormed B key) cs
      → let h = plain_after key n (record { top = old; held = es }) cs in Fits B key h.top h.held
  unfolding plain_after bare
  fits_after old es f [] w = f
  fits_after old es f (c ∷ cs) (cons w ws) =
      subst (λ (t : PlainServed E). let h = plain_after key n t.heap cs in Fits B key h.top h.held) (line_tells B key n old es c)
      (let l = line B key keep n old es c in fits_after l.heap.top l.heap.held (fits_line B small key keep (λ t e. refl) n old es f c w) cs ws)

  pub last_greatest : (old : Option ℕ) (es : List E) → LastGreatest key es (plain_serve key n (record { top = old; held = es }) Pop).answer.given
  unfolding plain_serve plain_served
  last_greatest old [] = refl
  last_greatest old (e ∷ es) = (pick key e es, refl, picked key e es)

  -- a pop of arranged entries gives the greatest key, among equals the last
  arranged_pop : (old : Option ℕ) (es : List E) → Fits B key old es → LastGreatest key es (serve B key keep n (arrange B key old es) Pop).answer.given
  unfolding placed bare
  arranged_pop old es f =
      subst (LastGreatest key es)
      (sym (ap (λ s. s.answer.given) (serve_line B small key keep (λ t e. refl) n old es f Pop) ∙ ap (λ (t : PlainServed E). t.answer.given) (line_tells B key n old es Pop)))
      (last_greatest old es)

  -- Fresh, or fresh at a key, with n slots: every list of well-formed calls is answered as by the plain list.
  pub answers_as_the_plain_list : (start : Option ℕ) → Fits B key start [] → (cs : List (Call E)) → All (WellFormed B key) cs
      → answers B key keep n (empty start) cs ≡ plain_answers key n (plain_fresh start) cs
  unfolding plain_fresh
  answers_as_the_plain_list start f cs ws = rw (empty_arranged B small key start) (arranged_plain start [] f cs ws)

  -- And then every entry of the plain list stands where `arrange` says.
  pub entries_stand_arranged : (start : Option ℕ) → Fits B key start [] → (cs : List (Call E)) → All (WellFormed B key) cs
      → heap_after B key keep n (empty start) cs ≡ arrange B key (plain_after key n (plain_fresh start) cs).top (plain_after key n (plain_fresh start) cs).held
  unfolding plain_fresh
  entries_stand_arranged start f cs ws = ap (λ h. heap_after B key keep n h cs) (empty_arranged B small key start) ∙ stand_told start [] f cs ws

  -- "A pop takes the greatest key, among equals the last pushed": of the entries of the plain list, in push order.
  pub pop_takes_the_last_greatest : (start : Option ℕ) → Fits B key start [] → (cs : List (Call E)) → All (WellFormed B key) cs
      → LastGreatest key (plain_after key n (plain_fresh start) cs).held (serve B key keep n (heap_after B key keep n (empty start) cs) Pop).answer.given
  unfolding plain_fresh
  pop_takes_the_last_greatest start f cs ws =
      let h = plain_after key n (record { top = start; held = [] }) cs in
      subst (λ (x : Heap E). LastGreatest key h.held (serve B key keep n x Pop).answer.given) (sym (entries_stand_arranged start f cs ws))
      (arranged_pop h.top h.held (fits_after start [] f cs ws))
