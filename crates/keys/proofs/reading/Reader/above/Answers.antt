-- `keys::reading::Reader::above` meets its contract: a mixed key is compared as its ordered form.
use mathlib.Core.Path.{◌≡◌, ap₂, ◌∙◌}
use Prim.Native.Nat.{ℕ, ◌^◌, ◌<◌}
use lib.Dec.{ltb}
use Rattle.keys.specs.Ordered.{ordered}
use Rattle.keys.specs.Masks.{masked}
use Rattle.keys.proofs.Names.{mixed_is, not_mixed}
use Rattle.keys.proofs.Ordered.{masked_ordered}
use borrow.Author.Rules.{rules}
use Rattle.keys.proofs.reading.Reader.above.Goals as goal

pub returns-in-Mixed : goal.returns-in-Mixed
returns-in-Mixed c =
    let x = c.args in
    let s = x.self in
    let p = c.from.ensures in
    let q = c.from-in-Mixed.ensures in
    let e = mixed_is _ c.in-Mixed.ensures in
    let form : (a b : ℕ) → b < 2 ^ 64 → masked s.masks a b ≡ ordered s.kind a b =
    λ a b h. masked_ordered s.kind a b h s.masks (search (rules, c.well_formed)) (search (rules, c.well_formed)) (s.reads.mixed e) e in
    c.above.ensures ∙ ap₂ ltb (ap₂ (masked s.masks) q.0 q.1 ∙ form x.b.first x.b.second (search rules)) (ap₂ (masked s.masks) p.0 p.1 ∙ form x.a.first x.a.second (search rules))

pub above_bare-requires : goal.above_bare-requires
above_bare-requires c = not_mixed _ c.name.ensures c.in_default.not-Mixed
