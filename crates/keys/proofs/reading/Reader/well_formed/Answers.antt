-- `keys::reading::Reader::well_formed` meets its contract.
use mathlib.Core.Path.{sym, ap, ap₂, ◌∙◌}
use mathlib.Core.Bool.{not}
use Prim.Native.Nat.{ℕ}
use lib.Dec.{ltb}
use Rattle.keys.specs.Ordered.{pair_form}
use Rattle.keys.proofs.Names.{mixed_is, pair_is, not_pair, not_mixed}
use Rattle.keys.proofs.Ordered.{well_formed_pair, well_formed_word, masked_holds}
use borrow.Author.Rules.{rules}
use Rattle.keys.proofs.reading.Reader.well_formed.Goals as goal

pub returns-in-Mixed : goal.returns-in-Mixed
returns-in-Mixed c =
    let s = c.args.self in
    let k = c.args.key in
    let p = c.from.ensures in
    let e = mixed_is _ c.in-Mixed.ensures in
    c.holds.ensures ∙ ap (λ (n : ℕ). not (ltb (pair_form s.masks.full.0 s.masks.full.1) n)) (ap₂ pair_form p.0 p.1)
    ∙ masked_holds s.kind k.first k.second (search rules) s.masks (search rules) (search rules) (s.reads.mixed e) e

pub returns-in-Pair : goal.returns-in-Pair
returns-in-Pair c =
    let x = c.args in
    sym (well_formed_pair x.self.kind x.key.first x.key.second (pair_is _ c.in-Pair.ensures))

pub returns-in_default : goal.returns-in_default
returns-in_default c =
    let x = c.args in
    let n = x.self.kind.number in
    let e = c.name.ensures in
    sym (well_formed_word x.self.kind x.key.first x.key.second (not_pair n e c.in_default.not-Pair) (not_mixed n e c.in_default.not-Mixed))
