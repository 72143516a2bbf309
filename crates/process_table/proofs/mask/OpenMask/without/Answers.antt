use Rattle.std.proofs.Common.{arith}
use Rattle.process_table.proofs.MaskLaws.{freed_marked}
use Rattle.process_table.proofs.mask.OpenMask.without.Goals as goal

pub returns : goal.returns
returns c slots marks = freed_marked c.args.self.bits slots marks c.args.fd (omega arith)
