-- What is done to the ring of a trace (own).
use Rattle.std.specs.Prelude.{◌≡◌, ℕ, ◌+◌, false, [], ◌∷◌, ◌++◌}
use Rattle.call_types.specs.declared.act.Record.{Record}
use Rattle.trace_ring.specs.RingState.{RingState}

-- a ring with room for so many records, and both its ends (own)
abbrev pub fresh_ring : ℕ → RingState
fresh_ring room = record { sent = []; free = room; is_taken = false }

-- one record more was put in (own)
pub record Pushes (old new : RingState) (r : Record) : Type 0 where
  pub sent : new.sent ≡ old.sent ++ r ∷ []
  pub free : old.free ≡ new.free + 1
  pub is_taken : new.is_taken ≡ old.is_taken
