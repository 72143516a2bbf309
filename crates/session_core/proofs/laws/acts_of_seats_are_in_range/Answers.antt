use Rattle.session_core.proofs.LawLemmas.{acts_of_seats_fit}
use Rattle.session_core.proofs.laws.acts_of_seats_are_in_range.Goals as goal

pub returns : goal.returns
returns c = acts_of_seats_fit
