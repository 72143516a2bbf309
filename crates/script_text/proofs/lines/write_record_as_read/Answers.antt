use Rattle.std.proofs.Common.{ℕ, List, subst}
use Rattle.call_types.specs.Writing.{Appends}
use Rattle.script_text.proofs.AsWritten.{copied}
use Rattle.script_text.proofs.lines.write_record_as_read.Goals as goal

pub returns-then-is_as_written : goal.returns-then-is_as_written
returns-then-is_as_written c =
    subst (λ (text : List ℕ). Appends c.write_copied.result c.args.out.now.items c.write_copied.new.out.items text)
    (copied c.args.place c.args.line.now c.args.«record».now (c.is_as_written.ensures c.if-is_as_written.true) c.requires) c.write_copied.ensures
