-- `keys::packing::join` meets its contract: part by part, the number has room for the next one.
use Rattle.keys.proofs.Packed.{limits, fitting, room_two, room_three, room_four, joins}
use Rattle.keys.proofs.packing.join.Goals as goal

pub with_lowest-two-requires : goal.with_lowest-two-requires
with_lowest-two-requires c =
    let a = c.args in
    let f = fitting a.table a.parts c.requires in
    record { code_bound = (limits a.table f.table).two; part_bound = f.second; key_bound = room_two a.table a.parts c.requires }

pub with_lowest-three-requires : goal.with_lowest-three-requires
with_lowest-three-requires c =
    let a = c.args in
    let f = fitting a.table a.parts c.requires in
    record { code_bound = (limits a.table f.table).three; part_bound = f.third; key_bound = room_three a.table a.parts c.requires _ c.with_lowest-two.ensures }

pub with_lowest-requires : goal.with_lowest-requires
with_lowest-requires c =
    let a = c.args in
    let f = fitting a.table a.parts c.requires in
    record { code_bound = (limits a.table f.table).four; part_bound = f.fourth; key_bound = room_four a.table a.parts c.requires _ c.with_lowest-two.ensures _ c.with_lowest-three.ensures }

pub returns : goal.returns
returns c =
    let a = c.args in
    joins a.table a.parts c.requires _ c.with_lowest-two.ensures _ c.with_lowest-three.ensures _ c.with_lowest.ensures
