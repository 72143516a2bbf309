use Rattle.plain_world.proofs.StepLaws.{lowest_is_least, no_lowest_is_full}
use Rattle.plain_world.proofs.laws.lowest_is_least.Goals as goal

pub returns : goal.returns
returns c = record { there = lowest_is_least; full = no_lowest_is_full }
