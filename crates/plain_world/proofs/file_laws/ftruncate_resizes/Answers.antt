use Rattle.plain_world.proofs.BytesLaws.{ftruncate_resizes}
use Rattle.plain_world.proofs.CallLaws.{ftruncate_leaves_resized}
use Rattle.plain_world.proofs.file_laws.ftruncate_resizes.Goals as goal

pub returns : goal.returns
returns c = record { bytes = ftruncate_resizes; call = ftruncate_leaves_resized }
