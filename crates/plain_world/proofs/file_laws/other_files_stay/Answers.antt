use Rattle.plain_world.proofs.CallLaws.{own_file_alone}
use Rattle.plain_world.proofs.file_laws.other_files_stay.Goals as goal

pub returns : goal.returns
returns c = own_file_alone
