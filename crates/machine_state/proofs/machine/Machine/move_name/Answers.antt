use Rattle.std.proofs.Common.{◌≡◌, ◌∙◌, ap, sym, Some}
use Rattle.std.specs.Option.{unwrap_or}
use Rattle.call_types.specs.Names.{file_of, with_name, without_name}
use Rattle.posix_model.proofs.NameLemmas.{still_none}
use Rattle.machine_state.specs.Held.{stored_in, world_in}
use Rattle.machine_state.proofs.StoredLaws.{same_links, after_move}
use Rattle.machine_state.proofs.machine.Machine.move_name.Goals as goal

pub add-requires-clause-new : goal.add-requires-clause-new
add-requires-clause-new c =
    let none = rw (← c.self.view_is) at c.requires.new in
    rw c.remove.ensures.entries (still_none c.args.old.now c.args.new (stored_in c.self.inside).names none)

pub invariant_of-self : goal.invariant_of-self
invariant_of-self c =
    let s = stored_in c.self.inside in
    let none = rw (← c.self.view_is) at c.requires.new in
    let fewer = rw c.remove.ensures.entries at c.in-Some.ensures.links in
    let is : file_of c.args.old.now s.names ≡ Some c.in-Some.file = sym c.remove.ensures.file ∙ c.in-Some.is in
    rw (c.add.ensures, c.remove.ensures.entries) (after_move s c.self.invariant c.args.old.now c.args.new c.in-Some.file is none
    (same_links s c.self.invariant c.args.old.now c.args.new c.in-Some.file none fewer))

pub returns-clause-world : goal.returns-clause-world
returns-clause-world c =
    let s = stored_in c.self.inside in
    let is : file_of c.args.old.now s.names ≡ Some c.in-Some.file = sym c.remove.ensures.file ∙ c.in-Some.is in
    rw (← c.self.view_is, c.add.ensures, c.remove.ensures.entries)
    (ap (λ x. record (world_in s) { names = with_name c.args.new (unwrap_or x 0) (without_name c.args.old.now s.names) }) (sym is))

pub returns-clause-links : goal.returns-clause-links
returns-clause-links c =
    let none = rw (← c.self.view_is) at c.requires.new in
    let fewer = rw c.remove.ensures.entries at c.in-Some.ensures.links in
    rw (← c.self.view_is, c.add.ensures, c.remove.ensures.entries)
    (same_links (stored_in c.self.inside) c.self.invariant c.args.old.now c.args.new c.in-Some.file none fewer)
