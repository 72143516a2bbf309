use Rattle.plain_world.proofs.OpenLaws.{open_keeps_files, open_keeps_others, open_makes_empty}
use Rattle.plain_world.proofs.file_laws.open_keeps_files.Goals as goal

pub returns : goal.returns
returns c = record { present = open_keeps_files; others = open_keeps_others; new = open_makes_empty }
