use Rattle.std.proofs.Common.{sym, subst}
use Rattle.call_types.specs.CallTable.{parts}
use Rattle.call_types.specs.declared.call.Call.{Call}
use Rattle.script_text.specs.Proved.Copied.{FieldsAsWritten}
use Rattle.script_text.proofs.copies.has_fields_as_written.Goals as goal

pub returns-in-Write : goal.returns-in-Write
returns-in-Write c = λ yes. subst (λ (call : Call). FieldsAsWritten c.args.line.now (parts call).entry.fields (parts call).values) (sym c.in-Write.is)
    (c.ends_as_written.ensures yes)

pub returns-in-Pwrite : goal.returns-in-Pwrite
returns-in-Pwrite c = λ yes. subst (λ (call : Call). FieldsAsWritten c.args.line.now (parts call).entry.fields (parts call).values) (sym c.in-Pwrite.is)
    (c.ends_as_written-in-Pwrite.ensures yes)
