use Rattle.std.proofs.Common.{◌∙◌, sym}
use Rattle.run_core.proofs.closing.gather_seats.Goals as goal

pub returns-clause-all : goal.returns-clause-all
returns-clause-all g c = sym c.in_ok-parted.ensures.all ∙ (c.in_ok-parted.parted.shares.ok.0 ∙ c.in_ok-sums.ensures.all)
