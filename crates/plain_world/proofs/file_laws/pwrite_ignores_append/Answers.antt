use Rattle.plain_world.proofs.CallLaws.{pwrite_puts, pwrite_same_under_append}
use Rattle.plain_world.proofs.file_laws.pwrite_ignores_append.Goals as goal

pub returns : goal.returns
returns c = record { call = pwrite_puts; append = pwrite_same_under_append }
