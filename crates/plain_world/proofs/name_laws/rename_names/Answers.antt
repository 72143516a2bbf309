use Rattle.plain_world.proofs.NameLaws.{rename_names, rename_of_one_file}
use Rattle.plain_world.proofs.name_laws.rename_names.Goals as goal

pub returns : goal.returns
returns c = record { names = rename_names; same = rename_of_one_file }
