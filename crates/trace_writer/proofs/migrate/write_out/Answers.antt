use Rattle.std.proofs.Common.{rules}
use Rattle.logged_streams.specs.Streams.{IsBroken}
use Rattle.logged_streams.proofs.WriteLemmas.{wrote_all}
use Rattle.trace_writer.proofs.MigratingLemmas.{breaks_so}
use Rattle.trace_writer.proofs.migrate.write_out.Goals as goal

pub returns-in_default-Ok : goal.returns-in_default-Ok
returns-in_default-Ok g c =
    wrote_all c.args.writer.now c.write_all.new.self c.args.bytes.now c.write_all.result.0 c.write_all.ensures.front (search rules) (search rules)

pub returns-in_default-Err : goal.returns-in_default-Err
returns-in_default-Err g c =
    let broken : IsBroken c.write_all.new.self.log = search rules in
    breaks_so c.args.writer.now c.write_all.new.self c.args.bytes.now c.args.before c.write_all.result.0 c.write_all.ensures.front broken
    c.write_all.ensures.few
