use Rattle.std.proofs.Common.{sym, ◌∙◌, ap, length}
use Rattle.machine_state.proofs.LentLaws.{bytes_lent, bytes_unlent}
use Rattle.machine_state.proofs.reader.MachineWorldReader.length_of.Goals as goal

pub returns-in-Some : goal.returns-in-Some
returns-in-Some c = rw (← c.self.view_is) (c.len.ensures ∙
    ap length (sym (bytes_lent c.self.inside.files.0 c.args.file c.in-Some.bytes.now (sym c.in-Some.ensures))))

pub returns-in-None : goal.returns-in-None
returns-in-None c = rw (← c.self.view_is) (ap length (sym (bytes_unlent c.self.inside.files.0 c.args.file (sym c.in-None.ensures))))
