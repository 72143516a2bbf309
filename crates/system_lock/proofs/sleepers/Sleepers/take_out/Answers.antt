use Rattle.std.proofs.Common.{◌∙◌, ℕ, List, Option, map, ap, sym}
use Rattle.std.specs.List.{remove}
use Rattle.system_lock.proofs.SleeperLaws.{map_removed}
use Rattle.system_lock.proofs.WatchLaws as laws
use Rattle.system_lock.proofs.sleepers.Sleepers.take_out.Goals as goal

pub returns-in-Some-clause-asleep : goal.returns-in-Some-clause-asleep
returns-in-Some-clause-asleep c = ◌∙◌ {A = List ℕ} c.remove.ensures.items
    (laws.one_removed c.args.process c.args.self.now.asleep.items c.in-Some.at c.requires.distinct (sym c.place_of.ensures ∙ c.in-Some.is)).1

pub returns-in-Some-clause-pipes : goal.returns-in-Some-clause-pipes
returns-in-Some-clause-pipes c = λ f is.
    let at = c.in-Some.at in
    ◌∙◌ {A = List (Option ℕ)} c.remove-in-Some.ensures.items
    (ap (λ (l : List (Option ℕ)). remove l at) is ∙
    (sym (map_removed f c.args.self.now.asleep.items at) ∙ ap (λ (l : List ℕ). map f l) (sym c.remove.ensures.items)))

pub returns-in_default-clause-asleep : goal.returns-in_default-clause-asleep
returns-in_default-clause-asleep c = laws.none_removed c.args.process c.args.self.now.asleep.items (sym c.place_of.ensures ∙ c.in_default.is)
