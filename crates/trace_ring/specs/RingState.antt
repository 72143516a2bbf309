-- What contracts see of the ring of a trace (own).
use Rattle.std.specs.Prelude.{ℕ, Bool, List}
use Rattle.call_types.specs.declared.act.Record.{Record}

-- the records that were put in, for how many more there is known to be room, and whether the reading end was taken (own)
pub record RingState : Type 0 where
  pub sent : List Record
  pub free : ℕ
  pub is_taken : Bool
