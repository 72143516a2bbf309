use Rattle.job_core.proofs.MigrateLemmas.{verdicts_kept}
use Rattle.job_core.proofs.migrate_file.migrations_keep_verdicts.Goals as goal

pub returns : goal.returns
returns c = verdicts_kept c.headers_are_read.ensures c.no_frame_begins_another.ensures.records c.stops_are_no_frames.ensures.records
