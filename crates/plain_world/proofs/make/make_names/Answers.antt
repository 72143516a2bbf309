use Rattle.std.proofs.Common.{◌∙◌, ap}
use Rattle.call_types.specs.Names.{file_of, without_name}
use Rattle.posix_model.proofs.NameLemmas.{gone_name, still_none}
use Rattle.plain_world.proofs.make.make_names.Goals as goal

pub put-requires-in-Move : goal.put-requires-in-Move
put-requires-in-Move c =
    let names = c.args.world.now.names in
    let new = c.into_name-new.result in
    let first = c.remove-in-Move.ensures ∙ ap (λ n. without_name n names) c.as_slice-in-Move-2.ensures.value in
    let second = c.remove-in-Move-2.ensures ∙ ap (λ es. without_name c.as_slice-in-Move-3.result.now es) first in
    ap (λ es. file_of new es) second ∙ still_none c.as_slice-in-Move-3.result.now new (without_name new names) (gone_name new names)
