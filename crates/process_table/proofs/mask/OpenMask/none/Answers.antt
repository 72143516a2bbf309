use Rattle.process_table.proofs.MaskLaws.{none_marked}
use Rattle.process_table.proofs.mask.OpenMask.none.Goals as goal

pub returns : goal.returns
returns c = none_marked
