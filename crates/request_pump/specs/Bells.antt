-- How often a bell is rung (own).
use Rattle.std.specs.Prelude.{ℕ, zero, suc, ◌+◌}
use Rattle.logged_streams.specs.Streams.{one_more}

-- how often it was rung: to ask for room, and at the end of a piece (own)
pub record BellState : Type 0 where
  pub rooms : ℕ
  pub pieces : ℕ

-- room was asked for once more (own)
abbrev pub asked_for_room : BellState → BellState
asked_for_room bell = record { rooms = one_more bell.rooms; pieces = bell.pieces }

-- the end of a piece was rung once more (own)
abbrev pub rung_for_piece : BellState → BellState
rung_for_piece bell = record { rooms = bell.rooms; pieces = one_more bell.pieces }

-- so many more, up to the greatest number that can be told (own)
abbrev pub more_by : ℕ → ℕ → ℕ
more_by count zero = count
more_by count (suc more) = one_more (count + more)
