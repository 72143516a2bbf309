use Rattle.std.proofs.Common.{Some, ap, arith, sym, ◌∙◌}
use Rattle.process_table.proofs.MaskLaws.{none_lowest, some_lowest}
use Rattle.process_table.proofs.mask.OpenMask.lowest_free.Goals as goal

pub returns-then-self-eq4294967295-clause-least : goal.returns-then-self-eq4294967295-clause-least
returns-then-self-eq4294967295-clause-least c slots marks = sym (none_lowest c.args.self.bits slots marks (omega arith))

pub returns-clause-least : goal.returns-clause-least
returns-clause-least c slots marks = ap Some c.trailing_ones.ensures ∙ sym (some_lowest c.args.self.bits slots marks (omega arith))
