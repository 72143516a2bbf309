use Rattle.std.proofs.Common.{rules}
use Rattle.logged_streams.specs.Streams.{IsBroken}
use Rattle.logged_streams.proofs.WriteLemmas.{wrote_all}
use Rattle.job_core.proofs.OutputLemmas.{front_written}
use Rattle.job_core.proofs.output.write_lines.Goals as goal

pub returns-in_default-Ok-clause-text : goal.returns-in_default-Ok-clause-text
returns-in_default-Ok-clause-text g c =
    wrote_all c.args.writer.now c.write_all.new.self c.args.text.now c.write_all.result.0 c.write_all.ensures.front (search rules) (search rules)

pub returns-in_default-Err-clause-front : goal.returns-in_default-Err-clause-front
returns-in_default-Err-clause-front g c =
    let broken : IsBroken c.write_all.new.self.log = search rules in
    front_written c.args.writer.now c.write_all.new.self c.args.text.now c.write_all.result.0 c.write_all.ensures.front broken c.write_all.ensures.few
