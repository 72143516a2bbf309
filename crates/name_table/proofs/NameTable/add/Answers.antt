use Rattle.std.proofs.Common.{◌≡◌, rules, sym, subst}
use Rattle.std.specs.Prelude.{insert}
use Rattle.name_table.specs.Proved.Places.{rank_of, IsNamed}
use Rattle.name_table.proofs.NameLaws.{added_named}
use Rattle.name_table.proofs.NameTable.add.Goals as goal

pub invariant_of-self : goal.invariant_of-self
invariant_of-self c =
    let es = c.self.inside.entries.items in
    let items : c.insert.new.self.items ≡ insert es (rank_of c.args.name es) (c.args.name, c.args.file) = search rules in
    subst IsNamed (sym items) (added_named c.args.name c.args.file es c.self.invariant (search rules))
