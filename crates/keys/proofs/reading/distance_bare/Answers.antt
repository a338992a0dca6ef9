-- `keys::reading::distance_bare` meets its contract: each arm measures the ordered forms of its kind.
use mathlib.Core.Path.{sym, ap₂, ◌∙◌}
use native.Mathlib.Omega.{arith}
use Rattle.keys.specs.Ordered.{pair_form}
use Rattle.keys.proofs.Names.{signed_is, reversed_is, pair_is, float_is, not_signed, not_reversed, not_pair, not_float}
use Rattle.keys.proofs.Ordered.{as_signed, as_reversed, as_pair, as_float, as_plain, distance_as, width_word, width_pair}
use borrow.Author.Rules.{rules}
use Rattle.keys.proofs.reading.distance_bare.Goals as goal

pub returns-in-Signed : goal.returns-in-Signed
returns-in-Signed c =
    let x = c.args in
    let e = signed_is _ c.in-Signed.ensures in
    c.distance.ensures
    ∙ distance_as (sym (width_word x.kind (λ f. omega arith) (λ f. omega arith))) (as_signed x.kind _ x.a.first x.a.second (search rules) e c.from.ensures)
    (as_signed x.kind _ x.b.first x.b.second (search rules) e c.from-in-Signed.ensures)

pub returns-in-Reversed : goal.returns-in-Reversed
returns-in-Reversed c =
    let x = c.args in
    let e = reversed_is _ c.in-Reversed.ensures in
    c.distance-in-Reversed.ensures
    ∙ distance_as (sym (width_word x.kind (λ f. omega arith) (λ f. omega arith))) (as_reversed x.kind x.a.first x.a.second (search rules) e)
    (as_reversed x.kind x.b.first x.b.second (search rules) e)

pub returns-in-Pair : goal.returns-in-Pair
returns-in-Pair c =
    let x = c.args in
    let e = pair_is _ c.in-Pair.ensures in
    let p = c.from-in-Pair.ensures in
    let q = c.from-in-Pair-2.ensures in
    c.distance-in-Pair.ensures
    ∙ distance_as (sym (width_pair x.kind e)) (ap₂ pair_form p.0 p.1 ∙ as_pair x.kind x.a.first x.a.second (search rules) (search rules) e)
    (ap₂ pair_form q.0 q.1 ∙ as_pair x.kind x.b.first x.b.second (search rules) (search rules) e)

pub returns-in-Float : goal.returns-in-Float
returns-in-Float c =
    let x = c.args in
    let e = float_is _ c.in-Float.ensures in
    c.distance-in-Float.ensures
    ∙ distance_as (sym (width_word x.kind (λ f. omega arith) (λ f. omega arith))) (as_float x.kind x.a.first x.a.second e) (as_float x.kind x.b.first x.b.second e)

pub returns-in_default : goal.returns-in_default
returns-in_default c =
    let x = c.args in
    let n = x.kind.number in
    let e = c.name.ensures in
    let r = c.in_default in
    let two = not_signed n e r.not-Signed in
    let three = not_reversed n e r.not-Reversed in
    let four = not_pair n e r.not-Pair in
    let six = not_float n e r.not-Float in
    let five = c.requires in
    c.distance-in_default.ensures
    ∙ distance_as (sym (width_word x.kind four five)) (as_plain x.kind x.a.first x.a.second (search rules) two three four five six)
    (as_plain x.kind x.b.first x.b.second (search rules) two three four five six)
