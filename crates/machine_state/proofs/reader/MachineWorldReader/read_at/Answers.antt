use Rattle.std.proofs.Common.{sym, ◌∙◌, arith}
use Rattle.machine_state.proofs.LentLaws.{bytes_lent, bytes_unlent, no_bytes}
use Rattle.machine_state.proofs.reader.MachineWorldReader.read_at.Goals as goal

pub returns-in-Some-clause-content : goal.returns-in-Some-clause-content
returns-in-Some-clause-content c = rw (← c.self.view_is, bytes_lent c.self.inside.files.0 c.args.file c.in-Some.bytes.now (sym c.in-Some.ensures))
    c.content_at.ensures.content

pub returns-in-Some-clause-within : goal.returns-in-Some-clause-within
returns-in-Some-clause-within c = rw (← c.self.view_is, bytes_lent c.self.inside.files.0 c.args.file c.in-Some.bytes.now (sym c.in-Some.ensures))
    c.content_at.ensures.within

pub returns-in-None-clause-content : goal.returns-in-None-clause-content
returns-in-None-clause-content c = rw (← c.self.view_is, bytes_unlent c.self.inside.files.0 c.args.file (sym c.in-None.ensures))
    (c.empty.ensures ∙ no_bytes c.args.start c.args.count)

pub returns-in-None-clause-within : goal.returns-in-None-clause-within
returns-in-None-clause-within c = rw (← c.self.view_is, bytes_unlent c.self.inside.files.0 c.args.file (sym c.in-None.ensures)) (omega arith)
