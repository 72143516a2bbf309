use Rattle.std.proofs.Common.{List, Bool, [], ◌∷◌, ◌++◌, rules}
use Rattle.std.specs.Option.{is_none}
use Rattle.call_types.specs.declared.errno.Errno.{Errno}
use Rattle.posix_model.specs.Types.{ENOENT}
use Rattle.posix_model.specs.Open.{name_faults}
use Rattle.calls.proofs.FaultLemmas.{first_of_both}
use Rattle.calls.proofs.rename.rename_fault.Goals as goal

pub returns : goal.returns
returns c =
    let later : List (Bool × Errno) = (is_none c.args.found, ENOENT) ∷ [] in
    let new = name_faults c.args.new.now in
    rw (first_of_both (name_faults c.args.old.now) (new ++ later), first_of_both new later) (search rules)
