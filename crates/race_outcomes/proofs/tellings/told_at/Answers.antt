use Rattle.std.proofs.Common.{rules, refl}
use Rattle.race_outcomes.proofs.TellingLemmas.{says_there}
use Rattle.race_outcomes.proofs.tellings.told_at.Goals as goal

pub returns : goal.returns
returns c = (
  says_there c.args.calls.now c.args.seats.now c.args.explored.now.met (record { text = c.write_seats.new.out; place = c.args.place })
      c.in_ok-told.told c.requires c.in_ok-told.ensures (search rules) (search rules),
  refl,
)
