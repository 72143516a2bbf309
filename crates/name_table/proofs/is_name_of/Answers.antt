use Rattle.std.proofs.Common.{rules}
use Rattle.std.proofs.lemmas.Map.Text.{is_eq-slice_cmp}
use Rattle.name_table.proofs.is_name_of.Goals as goal

pub returns : goal.returns
returns c = rw (is_eq-slice_cmp c.args.name.now c.args.entry.now.0) (search rules)
