-- The kinds by name: each name but `Plain` is that of one number.
use mathlib.Core.Path.{◌≡◌}
use mathlib.Core.Logic.{◌≢◌}
use Prim.Native.Nat.{ℕ}
use native.Mathlib.Omega.{arith}
use Rattle.std.proofs.lemmas.Bool.Decides.{nat_tests}
use Rattle.keys.specs.declared.kind.KindName.{KindName}
use Rattle.keys.specs.declared.kind.KindName.TheVariants.{Signed, Reversed, Pair, Mixed, Float}
use Rattle.keys.specs.Names.{name_of}

module _ (n : ℕ) where
  pub signed_is : Signed ≡ name_of n → n ≡ 2
  unfolding name_of
  signed_is e = grind (arith, nat_tests)

  pub reversed_is : Reversed ≡ name_of n → n ≡ 3
  unfolding name_of
  reversed_is e = grind (arith, nat_tests)

  pub pair_is : Pair ≡ name_of n → n ≡ 4
  unfolding name_of
  pair_is e = grind (arith, nat_tests)

  pub mixed_is : Mixed ≡ name_of n → n ≡ 5
  unfolding name_of
  mixed_is e = grind (arith, nat_tests)

  pub float_is : Float ≡ name_of n → n ≡ 6
  unfolding name_of
  float_is e = grind (arith, nat_tests)

  -- and each other name is that of another number
  module _ {k : KindName} (e : k ≡ name_of n) where
    pub not_signed : k ≢ Signed → n ≢ 2
    unfolding name_of
    not_signed p = grind (arith, nat_tests)

    pub not_reversed : k ≢ Reversed → n ≢ 3
    unfolding name_of
    not_reversed p = grind (arith, nat_tests)

    pub not_pair : k ≢ Pair → n ≢ 4
    unfolding name_of
    not_pair p = grind (arith, nat_tests)

    pub not_mixed : k ≢ Mixed → n ≢ 5
    unfolding name_of
    not_mixed p = grind (arith, nat_tests)

    pub not_float : k ≢ Float → n ≢ 6
    unfolding name_of
    not_float p = grind (arith, nat_tests)
