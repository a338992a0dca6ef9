-- `key_rounds::rounds::mixed_round` meets its contract, at every table and key: `pack_unpack` of `keys`, and a number has one pair of words.
use mathlib.Core.Path.{◌≡◌, refl, sym, ap, ap₂, ◌∙◌}
use mathlib.Core.Bool.{true, true≢false}
use Prim.Native.Nat.{ℕ, ◌^◌, ◌<◌}
use borrow.Author.Tests.{ltb-true}
use borrow.Author.Rules.{rules}
use Rattle.std.proofs.Common.{Option, Some, None, is_some, IfSome}
use Rattle.keys.specs.declared.kind.Table.{Table}
use Rattle.keys.specs.declared.mixed_key.Mixed.{Mixed}
use Rattle.keys.specs.declared.packing.Parts.{Parts}
use Rattle.keys.specs.Parts.{total}
use Rattle.keys.specs.Table.{table_parts, table_fits, mixed}
use Rattle.keys.specs.Ordered.{pair_form, width, well_formed}
use Rattle.keys.specs.Packing.{parts_fit, packed_of, parts_of}
use Rattle.keys.proofs.Ordered.{well_formed_mixed, width_mixed, mixed_fit, one_pair}
use Rattle.keys.proofs.Packed.{unpacked_fit, pack_unpack}
use Rattle.key_rounds.proofs.rounds.mixed_round.Goals as goal

abbrev words : ℕ → ℕ → Mixed
words a b = record { 0 = a; 1 = b }

module _ (t : Table) (a b : ℕ) (fit : table_fits t ≡ true) (well : well_formed (mixed t) a b ≡ true) where
  no-bit-above : pair_form a b < 2 ^ total (table_parts t)
  no-bit-above =
      let w : width (mixed t) ≡ total (table_parts t) = width_mixed (mixed t) refl ∙ ap total (mixed_fit t fit) in
      rw w at (ltb-true (pair_form a b) (2 ^ width (mixed t)) (sym (well_formed_mixed (mixed t) a b refl) ∙ well))

  comes_back : (r : Option Mixed) (x : Parts) → b < 2 ^ 64 → ((k : Mixed) → r ≡ Some k → k.1 < 2 ^ 64) → x ≡ parts_of t (pair_form a b)
      → is_some r ≡ parts_fit t x → IfSome r (λ k. pair_form k.0 k.1 ≡ packed_of t x) → r ≡ Some (words a b)
  comes_back None x hb hd e f p = absurd (true≢false (sym (f ∙ ap (parts_fit t) e ∙ unpacked_fit t (pair_form a b) fit)))
  comes_back (Some k) x hb hd e f p =
      let q = one_pair k.0 (hd k refl) a hb (p ∙ ap (packed_of t) e ∙ pack_unpack t (pair_form a b) fit no-bit-above) in
      ap₂ (λ (m n : ℕ). Some (words m n)) q.0 q.1

pub returns : goal.returns
returns c =
    let x = c.args in
    λ fit well.
    comes_back x.table x.key.0 x.key.1 fit well c.pack.result c.unpack.result (search rules) (λ k e. search rules) c.unpack.ensures c.pack.ensures.fits c.pack.ensures.key
