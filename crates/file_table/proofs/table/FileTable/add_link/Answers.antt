use Rattle.std.proofs.Common.{refl, sym, ◌∙◌}
use Rattle.slots.specs.Proved.Uses.{one_more, with_value}
use Rattle.file_table.specs.Proved.Files.{named}
use Rattle.file_table.proofs.UseLaws.{edited_as, edited_twice}
use Rattle.file_table.proofs.table.FileTable.add_link.Goals as goal

pub returns-clause-slots : goal.returns-clause-slots
returns-clause-slots c =
    let used = c.value_mut-used.result.now in
    rw (← c.self.view_is)
    (edited_as c.self.inside.files.0 c.args.file (λ x. one_more (with_value named x)) used _ c.value_mut-used.ensures.value refl ∙
    sym (edited_twice c.self.inside.files.0 c.args.file one_more (with_value named)))
