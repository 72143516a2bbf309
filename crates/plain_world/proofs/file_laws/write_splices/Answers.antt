use Rattle.plain_world.proofs.BytesLaws.{write_splices}
use Rattle.plain_world.proofs.CallLaws.{write_puts}
use Rattle.plain_world.proofs.file_laws.write_splices.Goals as goal

pub returns : goal.returns
returns c = record { call = write_puts; bytes = write_splices }
