-- `keys::packing::split` meets its contract: from the lowest part up.
use Rattle.keys.proofs.Packed.{limits, reads}
use Rattle.keys.proofs.packing.split.Goals as goal

pub without_lowest-three-requires : goal.without_lowest-three-requires
without_lowest-three-requires c = (limits c.args.table c.requires).four

pub without_lowest-two-requires : goal.without_lowest-two-requires
without_lowest-two-requires c = (limits c.args.table c.requires).three

pub without_lowest-one-requires : goal.without_lowest-one-requires
without_lowest-one-requires c = (limits c.args.table c.requires).two

pub lowest-requires : goal.lowest-requires
lowest-requires c = (limits c.args.table c.requires).one

pub lowest-requires-2 : goal.lowest-requires-2
lowest-requires-2 c = (limits c.args.table c.requires).two

pub lowest-requires-3 : goal.lowest-requires-3
lowest-requires-3 c = (limits c.args.table c.requires).three

pub lowest-requires-4 : goal.lowest-requires-4
lowest-requires-4 c = (limits c.args.table c.requires).four

pub returns : goal.returns
returns c =
    let start = c in
    reads start.args.table _ _ _ _ _ start.requires
    c.without_lowest-three.ensures c.without_lowest-two.ensures c.without_lowest-one.ensures
    c.lowest.ensures c.lowest-2.ensures c.lowest-3.ensures c.lowest-4.ensures
