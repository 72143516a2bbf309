use Rattle.std.proofs.Common.{◌∙◌, ap, sym, rules, Some}
use Rattle.name_table.specs.Proved.Places.{HasName}
use Rattle.name_table.proofs.NameLaws.{place_found}
use Rattle.name_table.proofs.NameTable.find.Goals as goal

pub returns : goal.returns
returns c =
    let name = c.args.name.now in
    let es = c.self.inside.entries.items in
    let place = c.in_ok-place.place in
    let has : HasName name es place = search rules in
    let entry = c.index.result.now in
    rw (← c.self.view_is) (sym ((place_found name es place entry c.self.invariant has.within (has.has entry)).0 ∙ ap (λ e. Some e.1) (sym c.index.ensures)))
