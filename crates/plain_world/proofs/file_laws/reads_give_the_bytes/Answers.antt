use Rattle.plain_world.proofs.CallLaws.{read_gives, pread_gives, read_moves}
use Rattle.plain_world.proofs.file_laws.reads_give_the_bytes.Goals as goal

pub returns : goal.returns
returns c = record { read = read_gives; pread = pread_gives; offset = read_moves }
