-- `key_rounds::distance_lines` meets its contract: both distances are laws of `keys`.
use mathlib.Core.Path.{◌∙◌}
use borrow.Author.Tests.{eq-eqb}
use Rattle.keys.proofs.Examples.{pair_far, pair_near}
use Rattle.key_rounds.proofs.distance_lines.Goals as goal

pub expect-requires : goal.expect-requires
expect-requires g c =
    let a = c.words.ensures in
    let b = c.words-2.ensures in
    eq-eqb c.distance-far.result 65 ((rw (c.bare.ensures, a.0, a.1, b.0, b.1) at c.distance-far.ensures) ∙ pair_far)

pub expect-requires-2 : goal.expect-requires-2
expect-requires-2 g c =
    let a = c.words-3.ensures in
    let b = c.words-4.ensures in
    eq-eqb c.distance-near.result 1 ((rw (c.bare-2.ensures, a.0, a.1, b.0, b.1) at c.distance-near.ensures) ∙ pair_near)
