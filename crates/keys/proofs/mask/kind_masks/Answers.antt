-- `keys::mask::kind_masks` meets its contract.
use Rattle.keys.proofs.Names.{not_mixed}
use Rattle.keys.proofs.mask.kind_masks.Goals as goal

pub returns-in-Mixed : goal.returns-in-Mixed
returns-in-Mixed c = record { mixed = λ e. c.table_masks.ensures }

pub returns-in_default : goal.returns-in_default
returns-in_default c = record { mixed = λ e. absurd (not_mixed c.args.kind.number c.name.ensures c.in_default.not-Mixed e) }
