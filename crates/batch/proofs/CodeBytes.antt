-- What the proofs of the code on bytes, records and answers lean on: laws on plain values.
use mathlib.Core.Path.{◌≡◌, refl, sym, ap, ap₂, ◌∙◌}
use mathlib.Core.Bool.{Bool, true, false, cond, ◌&&◌, ◌||◌}
use mathlib.Core.List.{List, [], ◌∷◌, append_assoc}
use Prim.Native.Nat.{ℕ, zero, suc, ◌+◌, ◌-◌, ◌*◌, ◌/◌, ◌%◌, ◌^◌, ◌≤◌, ◌<◌}
use native.Mathlib.Nat.{add-zero, add_assoc, pow-suc, div-div-eq-div-mul, div-one}
use native.Mathlib.Omega.{arith}
use borrow.Author.Tests.{eq-eqb, ne_eqb}
use borrow.Rule.Slice.PartMut.{mid_of, put_mid}
use lib.Dec.{eqb}
use lib.ListN.{length, get_or, set, take, drop}
use lib.Seq.{sets, sets-eq, drop-drop, get_or-take, get_or-drop}
use Rattle.std.specs.Int.{Width, w32, w64, byte_at, bytes_low_first, to_le_bytes, from_le_bytes, from_bool}
use Rattle.std.specs.Prelude.{Option, Some, None, is_some, unwrap_or, Result, Ok, Err}
use Rattle.keys.specs.declared.words.Words.{Words}
use Rattle.keys.specs.declared.kind.Kind.{Kind}
use Rattle.keys.specs.Ordered.{well_formed}
use Rattle.pool.specs.declared.refusal.Refusal.{Refusal}
use Rattle.pool.specs.declared.refusal.Refusal.TheVariants.{Malformed}
use Rattle.pool.specs.Codes.{refusal_code}
use Rattle.heap.specs.Calls.{over}
use Rattle.heap.proofs.ListLaws.{sets_over}
use Rattle.batch.specs.declared.records.Record.{Record}
use Rattle.batch.specs.declared.records.Operation.{Operation}
use Rattle.batch.specs.declared.records.Operation.TheVariants.{Push, Pop, Constrain, Clear, ClearTo, Top, Length}
use Rattle.batch.specs.Bytes.{number, bytes_of}
use Rattle.batch.specs.Records.{record_at, bare, fields_fit, formed}
use Rattle.batch.specs.Batch.{answer}
use Rattle.batch.specs.Core.{named, operation_of, shown_first, shown_second, shown, answer_told}
use Rattle.batch.specs.declared.serving.Reply.{Reply}
use Rattle.batch.proofs.Numbers.{low_byte, high_bytes}

-- ---- bytes

-- a byte of a part
part_byte : (bs : List ℕ) (at n k : ℕ) → k < n → get_or (take n (drop at bs)) k 0 ≡ get_or bs (at + k) 0
part_byte bs at n k l = get_or-take n (drop at bs) k 0 l ∙ get_or-drop at bs k 0

eight : (l : List ℕ) → from_le_bytes w64 l
    ≡ get_or l 0 0 + get_or l 1 0 * 256 + get_or l 2 0 * 65536 + get_or l 3 0 * 16777216 + get_or l 4 0 * 4294967296 + get_or l 5 0 * 1099511627776 + get_or l 6 0 * 281474976710656 + get_or l 7 0 * 72057594037927936
eight l = refl

weighed : (bs : List ℕ) (at : ℕ) → from_le_bytes w64 (take 8 (drop at bs)) ≡ number 8 bs at
unfolding number
weighed bs at =
    let b : (k : ℕ) → k < 8 → get_or (take 8 (drop at bs)) k 0 ≡ get_or bs (at + k) 0 = part_byte bs at 8 in
    let b0 = b 0 (omega arith) ∙ ap (λ (k : ℕ). get_or bs k 0) (add-zero at) in
    let b1 = b 1 (omega arith) in
    let b2 = b 2 (omega arith) in
    let b3 = b 3 (omega arith) in
    let b4 = b 4 (omega arith) in
    let b5 = b 5 (omega arith) in
    let b6 = b 6 (omega arith) in
    let b7 = b 7 (omega arith) in
    eight (take 8 (drop at bs)) ∙ simp add_assoc (omega (arith, b0, b1, b2, b3, b4, b5, b6, b7))

-- the eight bytes that were copied, weighed
pub word_is : (bs : List ℕ) (at : ℕ) {word : List ℕ} {w : ℕ} → w ≡ from_le_bytes w64 word → word ≡ mid_of at (at + 8 - at) bs → w ≡ number 8 bs at
word_is bs at e f =
    let k : at + 8 - at ≡ 8 = omega arith in
    e ∙ ap (from_le_bytes w64) (f ∙ ap (λ (n : ℕ). take n (drop at bs)) k) ∙ weighed bs at

-- the library's bytes of a number, from its byte k on
byte_low : (k x : ℕ) → byte_at k x ≡ x / 256 ^ k % 256
byte_low zero x = omega arith
byte_low (suc k) x = refl

low_first : (n k x : ℕ) → bytes_low_first k n x ≡ bytes_of n (x / 256 ^ k)
unfolding bytes_of
low_first zero k x = refl
low_first (suc n) k x =
    ap₂ (λ (b : ℕ) (l : List ℕ). b ∷ l) (byte_low k x)
    (low_first n (suc k) x ∙ ap (λ (y : ℕ). bytes_of n y) (ap (λ (m : ℕ). x / m) (pow-suc 256 k) ∙ sym (div-div-eq-div-mul x (256 ^ k) 256)))

first_bytes : (n x : ℕ) → bytes_low_first 0 n x ≡ bytes_of n x
first_bytes n x = low_first n 0 x ∙ ap (λ (y : ℕ). bytes_of n y) (div-one x)

pub half_bytes : (x : ℕ) → to_le_bytes w32 x ≡ bytes_of 4 x
half_bytes x = first_bytes 4 x

pub word_bytes : (x : ℕ) → to_le_bytes w64 x ≡ bytes_of 8 x
word_bytes x = first_bytes 8 x

-- a part that is all written
pub put_is : (l : List ℕ) (at n : ℕ) (new bs : List ℕ) → new ≡ bs → length bs ≡ n → at + n ≤ length l → put_mid at (at + n - at) l new ≡ sets l at bs
put_is l at n new bs e m room =
    let k : at + n - at ≡ length bs = omega arith in
    rw (e, k, drop-drop (length bs) at l) (sym (append_assoc (take at l) bs (drop (at + length bs) l)) ∙ sym (sets-eq bs l at (omega arith)))

-- ---- records

-- a word is its first byte and the seven after it
first_byte : (bs : List ℕ) (at : ℕ) → number 8 bs at ≡ get_or bs at 0 + 256 * number 7 bs (at + 1)
unfolding number
first_byte bs at = refl

-- the first word gives the operation and whether the rest is zero
pub record_is : (bs : List ℕ) (at : ℕ) {h a b v : ℕ} → get_or bs at 0 < 256 → h ≡ number 8 bs at → a ≡ number 8 bs (at + 8) → b ≡ number 8 bs (at + 16) → v ≡ number 8 bs (at + 24)
    → ◌≡◌ {A = Record} (record { op = h % 256; rest = eqb (h / 256) 0; key = record { first = a; second = b }; value = v }) (record_at bs at)
unfolding record_at
record_is bs at s eh ea eb ev =
    let e = eh ∙ first_byte bs at in
    let o = ap (λ (x : ℕ). x % 256) e ∙ low_byte (get_or bs at 0) (number 7 bs (at + 1)) s in
    let r = ap (λ (x : ℕ). eqb (x / 256) 0) e ∙ ap (λ (x : ℕ). eqb x 0) (high_bytes (get_or bs at 0) (number 7 bs (at + 1)) s) in
    λ i. record { op = o i; rest = r i; key = record { first = ea i; second = eb i }; value = ev i }

-- is it one of the operations that take nothing?
bare_op : ℕ → Bool
bare_op op = eqb op 2 || eqb op 3 || eqb op 4 || eqb op 6 || eqb op 7

known : (op : ℕ) → (op ≡ 1 → ⊥) → (op ≡ 5 → ⊥) → 1 ≤ op → op < 8 → bare_op op ≡ true
unfolding bare_op
known zero n m a b = absurd (omega arith)
known (suc zero) n m a b = absurd (n refl)
known (suc (suc zero)) n m a b = refl
known (suc (suc (suc zero))) n m a b = refl
known (suc (suc (suc (suc zero)))) n m a b = refl
known (suc (suc (suc (suc (suc zero))))) n m a b = absurd (m refl)
known (suc (suc (suc (suc (suc (suc zero)))))) n m a b = refl
known (suc (suc (suc (suc (suc (suc (suc zero))))))) n m a b = refl
known (suc (suc (suc (suc (suc (suc (suc (suc op)))))))) n m a b = absurd (omega arith)

-- the operations
module _ (r : Record) where
  pub named_push : r.op ≡ 1 → Push (record { key = r.key; value = r.value }) ≡ named r
  unfolding named
  named_push e = rw e

  pub named_pop : r.op ≡ 2 → Pop ≡ named r
  unfolding named
  named_pop e = rw e

  pub named_constrain : r.op ≡ 3 → Constrain ≡ named r
  unfolding named
  named_constrain e = rw e

  pub named_clear : r.op ≡ 4 → Clear ≡ named r
  unfolding named
  named_clear e = rw e

  pub named_clear_to : r.op ≡ 5 → ClearTo r.key ≡ named r
  unfolding named
  named_clear_to e = rw e

  pub named_top : r.op ≡ 6 → Top ≡ named r
  unfolding named
  named_top e = rw e

  pub named_length : ((k : ℕ) → 1 ≤ k → k < 7 → r.op ≡ k → ⊥) → Length ≡ named r
  unfolding named
  named_length out = rw (ne 1 (omega arith) (omega arith), ne 2 (omega arith) (omega arith), ne 3 (omega arith) (omega arith), ne 4 (omega arith) (omega arith), ne 5 (omega arith) (omega arith), ne 6 (omega arith) (omega arith))
    where
      ne : (k : ℕ) → 1 ≤ k → k < 7 → eqb r.op k ≡ false
      ne k a b = ne_eqb r.op k (out k a b)

-- the fields that each operation uses
module _ (kind : Kind) (r : Record) where
  pub fit_push : r.op ≡ 1 → fields_fit kind r ≡ well_formed kind r.key.first r.key.second
  unfolding fields_fit
  fit_push e = simp (eq-eqb r.op 1 e)

  pub fit_clear : r.op ≡ 5 → fields_fit kind r ≡ (well_formed kind r.key.first r.key.second && eqb r.value 0)
  unfolding fields_fit
  fit_clear e = simp (ne_eqb r.op 1 (λ (q : r.op ≡ 1). omega arith), eq-eqb r.op 5 e)

  fit_rest : (r.op ≡ 1 → ⊥) → (r.op ≡ 5 → ⊥) → fields_fit kind r ≡ (bare_op r.op && bare r)
  unfolding fields_fit bare_op
  fit_rest n m = simp (ne_eqb r.op 1 n, ne_eqb r.op 5 m)

  pub fit_bare : (r.op ≡ 1 → ⊥) → (r.op ≡ 5 → ⊥) → 1 ≤ r.op → r.op < 8 → fields_fit kind r ≡ bare r
  fit_bare n m a b = fit_rest n m ∙ ap (λ (k : Bool). k && bare r) (known r.op n m a b)

  pub fit_unknown : ((k : ℕ) → 1 ≤ k → k < 8 → r.op ≡ k → ⊥) → fields_fit kind r ≡ false
  unfolding bare_op
  fit_unknown out =
      fit_rest (out 1 (omega arith) (omega arith)) (out 5 (omega arith) (omega arith))
      ∙ simp (ne 2 (omega arith) (omega arith), ne 3 (omega arith) (omega arith), ne 4 (omega arith) (omega arith), ne 6 (omega arith) (omega arith), ne 7 (omega arith) (omega arith))
    where
      ne : (k : ℕ) → 1 ≤ k → k < 8 → eqb r.op k ≡ false
      ne k a b = ne_eqb r.op k (out k a b)

  pub formed_by : {b : Bool} → r.rest ≡ b → formed kind r ≡ (b && fields_fit kind r)
  unfolding formed
  formed_by e = ap (λ (b : Bool). b && fields_fit kind r) e

  -- what a record asks for
  pub not_formed : formed kind r ≡ false → Err Malformed ≡ operation_of kind r
  unfolding operation_of
  not_formed e = rw e

  pub is_formed : formed kind r ≡ true → {o : Operation} → o ≡ named r → Ok o ≡ operation_of kind r
  unfolding operation_of
  is_formed f e = rw (e, f)

-- ---- answers

-- each field written at its place, one after the other
pub answer_is : (l : List ℕ) (code : ℕ) (present : Bool) (moves len key0 key1 value : ℕ) {f : ℕ} {l2 l4 l8 l12 l16 l24 l32 : List ℕ} → 40 ≤ length l → f ≡ cond present 1 0
    → l2 ≡ sets (set (set l 0 code) 1 f) 2 (0 ∷ 0 ∷ []) → l4 ≡ sets l2 4 (to_le_bytes w32 moves) → l8 ≡ sets l4 8 (to_le_bytes w32 len) → l12 ≡ sets l8 12 (0 ∷ 0 ∷ 0 ∷ 0 ∷ [])
    → l16 ≡ sets l12 16 (to_le_bytes w64 key0) → l24 ≡ sets l16 24 (to_le_bytes w64 key1) → l32 ≡ sets l24 32 (to_le_bytes w64 value)
    → l32 ≡ over (answer code present moves len key0 key1 value) l
unfolding answer bytes_of
answer_is l code present moves len key0 key1 value enough ef e2 e4 e8 e12 e16 e24 e32 =
    e32 ∙ ap₂ (λ (x b : List ℕ). sets x 32 b)
    (e24 ∙ ap₂ (λ (x b : List ℕ). sets x 24 b)
    (e16 ∙ ap₂ (λ (x b : List ℕ). sets x 16 b)
    (e12 ∙ ap (λ (x : List ℕ). sets x 12 (bytes_of 4 0))
    (e8 ∙ ap₂ (λ (x b : List ℕ). sets x 8 b)
    (e4 ∙ ap₂ (λ (x b : List ℕ). sets x 4 b)
    (e2 ∙ ap (λ (x : ℕ). sets (set (set l 0 code) 1 x) 2 (0 ∷ 0 ∷ [])) ef)
    (half_bytes moves)) (half_bytes len))) (word_bytes key0)) (word_bytes key1)) (word_bytes value)
    ∙ sets_over (answer code present moves len key0 key1 value) l enough

no_words : Words
no_words = record { first = 0; second = 0 }

first_is : (o : Option Words) → (unwrap_or o no_words).first ≡ shown_first o
unfolding shown_first no_words
first_is None = refl
first_is (Some k) = refl

second_is : (o : Option Words) → (unwrap_or o no_words).second ≡ shown_second o
unfolding shown_second no_words
second_is None = refl
second_is (Some k) = refl

flag_is : (b : Bool) → from_bool b ≡ cond b 1 0
flag_is true = refl
flag_is false = refl

on_to : (w : Width) {x y : ℕ} {b : List ℕ} → b ≡ to_le_bytes w x → x ≡ y → b ≡ to_le_bytes w y
on_to w e q = e ∙ ap (to_le_bytes w) q

-- .. as the code asks for them
pub show_is : (l : List ℕ) (code : ℕ) (s : Reply) (len : ℕ) {k : Words} {p : Bool} {f : ℕ} {l2 l4 l8 l12 l16 l24 l32 b4 b8 b16 b24 b32 : List ℕ} → 40 ≤ length l
    → k ≡ unwrap_or s.key (record { first = 0; second = 0 }) → p ≡ is_some s.key → f ≡ from_bool p
    → b4 ≡ to_le_bytes w32 s.moves → b8 ≡ to_le_bytes w32 len → b16 ≡ to_le_bytes w64 k.first → b24 ≡ to_le_bytes w64 k.second → b32 ≡ to_le_bytes w64 s.value
    → l2 ≡ sets (set (set l 0 code) 1 f) 2 (0 ∷ 0 ∷ []) → l4 ≡ sets l2 4 b4 → l8 ≡ sets l4 8 b8 → l12 ≡ sets l8 12 (0 ∷ 0 ∷ 0 ∷ 0 ∷ []) → l16 ≡ sets l12 16 b16 → l24 ≡ sets l16 24 b24 → l32 ≡ sets l24 32 b32
    → l32 ≡ over (shown code s len) l
unfolding shown no_words
show_is l code s len {k} {l2 = l2} {l4 = l4} {l8 = l8} {l12 = l12} {l16 = l16} {l24 = l24} enough ek ep ef e4 e8 e16 e24 e32 f2 f4 f8 f12 f16 f24 f32 =
    let first : k.first ≡ shown_first s.key = ap (λ (k : Words). k.first) ek ∙ first_is s.key in
    let second : k.second ≡ shown_second s.key = ap (λ (k : Words). k.second) ek ∙ second_is s.key in
    answer_is l code (is_some s.key) s.moves len (shown_first s.key) (shown_second s.key) s.value enough (ef ∙ ap from_bool ep ∙ flag_is (is_some s.key))
    f2 (f4 ∙ ap (sets l2 4) e4) (f8 ∙ ap (sets l4 8) e8) f12
    (f16 ∙ ap (sets l12 16) (on_to w64 e16 first)) (f24 ∙ ap (sets l16 24) (on_to w64 e24 second)) (f32 ∙ ap (sets l24 32) e32)

pub told_ok : (l : List ℕ) (len : ℕ) {t : Result Reply Refusal} {s : Reply} {out : List ℕ} → t ≡ Ok s → out ≡ over (shown 0 s len) l → out ≡ over (answer_told t len) l
unfolding answer_told
told_ok l len e q = q ∙ rw e

pub told_err : (l : List ℕ) (len : ℕ) {t : Result Reply Refusal} {r : Refusal} {s : Reply} {code : ℕ} {out : List ℕ} → t ≡ Err r → code ≡ refusal_code r → s ≡ record { moves = 0; key = None; value = 0; count = 0 } → out ≡ over (shown code s len) l
    → out ≡ over (answer_told t len) l
unfolding answer_told shown shown_first shown_second
told_err l len e c f q = q ∙ rw (e, c, f)
