use Rattle.std.proofs.Common.{arith}
use Rattle.process_table.proofs.MaskLaws.{none_open, next_is_open, next_within}
use Rattle.process_table.proofs.mask.OpenMask.next_open.Goals as goal

pub returns-then-behind-eq0-clause-none : goal.returns-then-behind-eq0-clause-none
returns-then-behind-eq0-clause-none c slots marks = none_open c.args.self.bits slots marks c.args.from (omega arith)

pub returns-clause-least : goal.returns-clause-least
returns-clause-least c slots marks =
    let within = next_within c.args.self.bits c.args.from (omega arith) (omega arith) (omega arith) in
    next_is_open c.args.self.bits slots marks c.args.from (omega arith) (omega arith) within

pub returns-clause-within : goal.returns-clause-within
returns-clause-within c = next_within c.args.self.bits c.args.from (omega arith) (omega arith) (omega arith)
