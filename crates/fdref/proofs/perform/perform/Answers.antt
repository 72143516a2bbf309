use Rattle.std.proofs.Common.{subst}
use Rattle.logged_streams.specs.Streams.{LoggedReaderState}
use Rattle.job_core.specs.Outcomes.{OutcomesEnd}
use Rattle.job_core.specs.Replay.{ReplayEnds}
use Rattle.fdref.proofs.perform.perform.Goals as goal

pub returns-in-Replay : goal.returns-in-Replay
returns-in-Replay g c =
    rw c.in-Replay.is (subst (λ (r : LoggedReaderState). ReplayEnds c.in-Replay.limits c.in-Replay.spelling r.remaining c.args.writer.now c.replay.new.writer
    c.replay.result) c.new-reader.ensures c.replay.ensures.ends)

pub returns-in-Outcomes : goal.returns-in-Outcomes
returns-in-Outcomes g c =
    rw c.in-Outcomes.is
    (subst (λ (r : LoggedReaderState). OutcomesEnd c.in-Outcomes.limits c.in-Outcomes.most c.in-Outcomes.telling r.remaining c.args.writer.now
    c.outcomes.new.writer c.outcomes.result) c.new-reader-in-Outcomes.ensures c.outcomes.ensures.ends)
