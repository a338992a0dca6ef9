-- `keys::mask::masks_of` meets its contract: part by part, the masks are those of the parts so far.
use mathlib.Core.Path.{sym, subst}
use mathlib.Core.List.{[], ◌∷◌}
use Prim.Native.Nat.{◌+◌, ◌≤◌}
use native.Mathlib.Omega.{arith}
use Rattle.keys.specs.Parts.{total}
use Rattle.keys.specs.Table.{code_bits, code_part}
use Rattle.keys.specs.Masks.{Masked}
use Rattle.keys.proofs.Tables.{fit, no_masks, masked_none, masked_more, full_room, flip_room, parts_two, parts_three, parts_four, bits_two, bits_three, sum_four}
use Rattle.keys.proofs.mask.masks_of.Goals as goal

pub with_part-one-requires : goal.with_part-one-requires
unfolding total code_part
with_part-one-requires c =
    let t = c.args.table in
    let f = fit t c.requires in
    let m0 = masked_none in
    let l : total ([]) + code_bits t.first ≤ 128 = omega (arith, bits_two t f) in
    record { code_value = f.one; full_bound = full_room no_masks ([]) (code_bits t.first) m0 l; flip_bound = flip_room no_masks ([]) (code_bits t.first) m0 l }

pub with_part-two-requires : goal.with_part-two-requires
unfolding total code_part
with_part-two-requires c =
    let t = c.args.table in
    let f = fit t c.requires in
    let m0 = masked_none in
    let m1 = masked_more no_masks c.with_part-one.result [] t.first m0 c.with_part-one.ensures.full c.with_part-one.ensures.flip in
    let l : total (code_part t.first ∷ []) + code_bits t.second ≤ 128 = omega (arith, bits_two t f) in
    record { code_value = f.two; full_bound = full_room c.with_part-one.result (code_part t.first ∷ []) (code_bits t.second) m1 l; flip_bound = flip_room c.with_part-one.result (code_part t.first ∷ []) (code_bits t.second) m1 l }

pub returns-then-table-eq0 : goal.returns-then-table-eq0
returns-then-table-eq0 c =
    let t = c.args.table in
    let f = fit t c.requires in
    let m0 = masked_none in
    let m1 = masked_more no_masks c.with_part-one.result [] t.first m0 c.with_part-one.ensures.full c.with_part-one.ensures.flip in
    let m2 = masked_more c.with_part-one.result c.with_part-two.result (code_part t.first ∷ []) t.second m1 c.with_part-two.ensures.full c.with_part-two.ensures.flip in
    subst (Masked c.with_part-two.result) (sym (parts_two t c.if-table-eq0.true)) m2

pub with_part-three-requires : goal.with_part-three-requires
unfolding total code_part
with_part-three-requires c =
    let t = c.args.table in
    let f = fit t c.requires in
    let m0 = masked_none in
    let m1 = masked_more no_masks c.with_part-one.result [] t.first m0 c.with_part-one.ensures.full c.with_part-one.ensures.flip in
    let m2 = masked_more c.with_part-one.result c.with_part-two.result (code_part t.first ∷ []) t.second m1 c.with_part-two.ensures.full c.with_part-two.ensures.flip in
    let l : total (code_part t.first ∷ code_part t.second ∷ []) + code_bits t.third ≤ 128 = omega (arith, bits_three t f c.if-table-eq0.false) in
    record { code_value = f.three c.if-table-eq0.false; full_bound = full_room c.with_part-two.result (code_part t.first ∷ code_part t.second ∷ []) (code_bits t.third) m2 l; flip_bound = flip_room c.with_part-two.result (code_part t.first ∷ code_part t.second ∷ []) (code_bits t.third) m2 l }

pub returns-then-table-eq0-2 : goal.returns-then-table-eq0-2
returns-then-table-eq0-2 c =
    let t = c.args.table in
    let f = fit t c.requires in
    let m0 = masked_none in
    let m1 = masked_more no_masks c.with_part-one.result [] t.first m0 c.with_part-one.ensures.full c.with_part-one.ensures.flip in
    let m2 = masked_more c.with_part-one.result c.with_part-two.result (code_part t.first ∷ []) t.second m1 c.with_part-two.ensures.full c.with_part-two.ensures.flip in
    let m3 = masked_more c.with_part-two.result c.with_part-three.result (code_part t.first ∷ code_part t.second ∷ []) t.third m2 c.with_part-three.ensures.full c.with_part-three.ensures.flip in
    subst (Masked c.with_part-three.result) (sym (parts_three t c.if-table-eq0.false c.if-table-eq0-2.true)) m3

pub with_part-requires : goal.with_part-requires
unfolding total code_part
with_part-requires c =
    let t = c.args.table in
    let f = fit t c.requires in
    let m0 = masked_none in
    let m1 = masked_more no_masks c.with_part-one.result [] t.first m0 c.with_part-one.ensures.full c.with_part-one.ensures.flip in
    let m2 = masked_more c.with_part-one.result c.with_part-two.result (code_part t.first ∷ []) t.second m1 c.with_part-two.ensures.full c.with_part-two.ensures.flip in
    let m3 = masked_more c.with_part-two.result c.with_part-three.result (code_part t.first ∷ code_part t.second ∷ []) t.third m2 c.with_part-three.ensures.full c.with_part-three.ensures.flip in
    let l : total (code_part t.first ∷ code_part t.second ∷ code_part t.third ∷ []) + code_bits t.fourth ≤ 128 = omega (arith, f.sum, sum_four t c.if-table-eq0.false c.if-table-eq0-2.false) in
    record { code_value = f.four c.if-table-eq0.false c.if-table-eq0-2.false; full_bound = full_room c.with_part-three.result (code_part t.first ∷ code_part t.second ∷ code_part t.third ∷ []) (code_bits t.fourth) m3 l; flip_bound = flip_room c.with_part-three.result (code_part t.first ∷ code_part t.second ∷ code_part t.third ∷ []) (code_bits t.fourth) m3 l }

pub returns : goal.returns
returns c =
    let t = c.args.table in
    let f = fit t c.requires in
    let m0 = masked_none in
    let m1 = masked_more no_masks c.with_part-one.result [] t.first m0 c.with_part-one.ensures.full c.with_part-one.ensures.flip in
    let m2 = masked_more c.with_part-one.result c.with_part-two.result (code_part t.first ∷ []) t.second m1 c.with_part-two.ensures.full c.with_part-two.ensures.flip in
    let m3 = masked_more c.with_part-two.result c.with_part-three.result (code_part t.first ∷ code_part t.second ∷ []) t.third m2 c.with_part-three.ensures.full c.with_part-three.ensures.flip in
    let m4 = masked_more c.with_part-three.result c.with_part.result (code_part t.first ∷ code_part t.second ∷ code_part t.third ∷ []) t.fourth m3 c.with_part.ensures.full c.with_part.ensures.flip in
    subst (Masked c.with_part.result) (sym (parts_four t c.if-table-eq0.false c.if-table-eq0-2.false)) m4
