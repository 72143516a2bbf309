use Rattle.std.proofs.Common.{arith}
use Rattle.process_table.proofs.MaskLaws.{opened_marked}
use Rattle.process_table.proofs.mask.OpenMask.with.Goals as goal

pub returns : goal.returns
returns c slots entry marks = opened_marked c.args.self.bits slots marks c.args.fd entry (omega arith)
