use Rattle.plain_world.proofs.CallLaws.{nothing_read, nothing_is_written, nothing_pwritten}
use Rattle.plain_world.proofs.file_laws.nothing_asked.Goals as goal

pub returns : goal.returns
returns c = record { read = nothing_read; write = nothing_is_written; pwrite = nothing_pwritten }
