use Rattle.file_extents.proofs.Rooms.{room_there}
use Rattle.file_extents.proofs.spread.reserve_within.Goals as goal

pub returns-clause-succeeds : goal.returns-clause-succeeds
returns-clause-succeeds c = λ has. c.reserve.ensures.succeeds (room_there c.args.table.now c.args.start c.args.count has c.requires.some c.requires.within)
