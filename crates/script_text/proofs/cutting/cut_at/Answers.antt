use Rattle.std.proofs.Common.{sym}
use Rattle.script_text.proofs.Cuts.{first_index}
use Rattle.script_text.proofs.cutting.cut_at.Goals as goal

pub parted-requires : goal.parted-requires
parted-requires c = first_index c.args.mark c.args.bytes.now c.first_of.result (sym c.first_of.ensures)
