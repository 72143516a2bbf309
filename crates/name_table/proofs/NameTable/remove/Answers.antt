use Rattle.std.proofs.Common.{◌≡◌, ◌∙◌, ap, sym, subst, rules, Some, [], List, ℕ, cond}
use Rattle.std.specs.List.{remove}
use Rattle.std.specs.Prelude.{count_by, ◌==◌, ◌+◌}
use Rattle.name_table.specs.Proved.Places.{HasName, IsNamed}
use Rattle.name_table.proofs.NameLaws.{place_found, removed_named, links_removed}
use Rattle.name_table.proofs.NameTable.remove.Goals as goal

pub invariant_of-self : goal.invariant_of-self
invariant_of-self c =
    let name = c.args.name.now in
    let es = c.self.inside.entries.items in
    let place = c.in_ok-place.place in
    let has : HasName name es place = search rules in
    let items : c.remove.new.self.items ≡ remove es place = search rules in
    subst IsNamed (sym (items ∙ (place_found name es place ([], 0) c.self.invariant has.within (has.has ([], 0))).1)) (removed_named name es c.self.invariant)

pub returns-clause-entries : goal.returns-clause-entries
returns-clause-entries c =
    let name = c.args.name.now in
    let es = c.self.inside.entries.items in
    let place = c.in_ok-place.place in
    let has : HasName name es place = search rules in
    let items : c.remove.new.self.items ≡ remove es place = search rules in
    rw (← c.self.view_is) (items ∙ (place_found name es place ([], 0) c.self.invariant has.within (has.has ([], 0))).1)

pub returns-clause-file : goal.returns-clause-file
returns-clause-file c =
    let name = c.args.name.now in
    let es = c.self.inside.entries.items in
    let place = c.in_ok-place.place in
    let has : HasName name es place = search rules in
    let entry = c.remove.result in
    rw (← c.self.view_is) (sym ((place_found name es place entry c.self.invariant has.within (has.has entry)).0 ∙
    ap (λ e. Some e.1) (sym c.remove.ensures.value)))

pub returns-clause-links : goal.returns-clause-links
returns-clause-links c =
    let es = c.self.inside.entries.items in
    let place = c.in_ok-place.place in
    let has : HasName c.args.name.now es place = search rules in
    let items : c.remove.new.self.items ≡ remove es place = search rules in
    let entry = c.remove.result in
    rw (← c.self.view_is) (λ other. rw items (subst (λ (e : List ℕ × ℕ). count_by (λ x. x.1 == other) (remove es place) + cond (e.1 == other) 1 0 ≡ count_by
    (λ x. x.1 == other) es) (sym c.remove.ensures.value)
    (links_removed es place other entry has.within)))
