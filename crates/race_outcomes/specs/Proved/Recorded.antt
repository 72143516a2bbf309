-- What a move is recorded as, and where it leads.
use Rattle.std.specs.Prelude.{◌≡◌, ℕ, List, Option, None, Some}
use Rattle.posix_model.specs.Types.{Bounds}
use Rattle.race_outcomes.specs.declared.lanes.Lane.{Lane}
use Rattle.race_outcomes.specs.declared.position.Position.{Position}
use Rattle.race_outcomes.specs.declared.witness.Recorded.{Recorded}
use Rattle.race_outcomes.specs.Moves.{move}
use Rattle.race_outcomes.specs.Witnesses.{record_of}

-- the record of a move and where it leads, if the lane of this number can move
abbrev pub RecordsMove : Bounds → List Lane → Position → ℕ → Option Recorded → Type 0
RecordsMove bounds lanes from number None = (record_of bounds lanes from number ≡ None) × (move bounds lanes from number ≡ None)
RecordsMove bounds lanes from number (Some both) = (record_of bounds lanes from number ≡ Some both.one) × (move bounds lanes from number ≡ Some both.to)
