use Rattle.std.proofs.Common.{rules}
use Rattle.std.proofs.lemmas.List.Sorted.{answers_always}
use Rattle.slots.proofs.EntryLaws.{searched}
use Rattle.slots.proofs.numbered.index_of.Goals as goal

pub returns : goal.returns
returns g c =
    let facts = c.binary_search_by_key.ensures in
    let by_key = facts.position (λ e. e.0) (answers_always _ _ _ (λ f a r g called. search rules)) in
    let found = searched 0 c.args.entries.now c.requires.0 c.args.number c.requires.1 c.binary_search_by_key.result facts.bound by_key in
    record { there = found.there; gone = found.gone }
