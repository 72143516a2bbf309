use Rattle.std.proofs.Common.{ap, sym, ◌∙◌, ◌+◌}
use Rattle.slots.specs.Proved.Uses.{one_more, with_value}
use Rattle.pipe_table.specs.Proved.Pipes.{with_end}
use Rattle.pipe_table.proofs.UseLaws.{edited_as, edited_twice}
use Rattle.pipe_table.proofs.PipeTable.add_end.Goals as goal

pub returns-clause-slots : goal.returns-clause-slots
returns-clause-slots c =
    let used = c.value_mut-used.result.now in
    let more = with_value (with_end c.args.mode) in
    rw (← c.self.view_is)
    (edited_as c.self.inside.pipes.0 c.args.pipe (λ x. one_more (more x)) used _ c.value_mut-used.ensures.value
    (ap (λ pipe. record used { value = pipe; uses = used.uses + 1 }) c.add_end.ensures) ∙
    sym (edited_twice c.self.inside.pipes.0 c.args.pipe one_more more))
