-- `key_rounds::rounds::parts_round` meets its contract, at every table and all parts: `unpack_pack` of `keys`.
use mathlib.Core.Path.{sym, ap, ◌∙◌}
use Rattle.keys.specs.Packing.{parts_of}
use Rattle.keys.proofs.Packed.{unpack_pack}
use Rattle.key_rounds.proofs.rounds.parts_round.Goals as goal

pub returns : goal.returns
returns c =
    let x = c.args in
    let e = c.in_ok-key.ensures in
    record {
      fits = e.fits;
      back = c.unpack.ensures ∙ ap (parts_of x.table) e.key ∙ unpack_pack x.table x.parts (sym e.fits);
    }
