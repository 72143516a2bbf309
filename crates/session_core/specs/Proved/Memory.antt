-- Readers and writers over memory (own).
use Rattle.std.specs.Prelude.{◌≡◌, ℕ, ◌+◌, ◌%◌, ◌≤◌, ◌<◌, ◌==◌, Bool, false, List, [], ◌++◌, Option, None, Some, length, min, max, take, if◌then◌else◌}
use Rattle.std.specs.declared.io.ErrorKind.{ErrorKind}
use Rattle.std.specs.declared.io.ErrorKind.TheVariants as kinds
use Rattle.session_core.specs.declared.memory.Manner.{Manner}
use Rattle.session_core.specs.MemoryStreams.{ReaderState}

-- whether this call is the one that fails
abbrev pub fails_now : Option ℕ → ℕ → Bool
fails_now None call = false
fails_now (Some at) call = at == call

-- what befalls a call
abbrev pub fault_of : Manner → ℕ → Option ErrorKind
fault_of manner call =
    if fails_now manner.fails_at call then Some kinds.ConnectionReset else if (call % (manner.interruptions + 1)) == 0 then None else Some kinds.Interrupted

-- how many bytes a reader gives: at most so many, no more than there is room for, and no more than it has left
abbrev pub given_count : ℕ → ℕ → ℕ → ℕ
given_count most room left = min (min room (max most 1)) left

-- so many bytes are given; none are given only where there are none or none fit
pub record GivesFront (old new : ReaderState) (buffer : List ℕ) (count : ℕ) : Type 0 where
  pub within : count ≤ length buffer
  pub gives : old.rest ≡ take count buffer ++ new.rest
  pub some : count ≡ 0 → 0 < length buffer → new.rest ≡ []
  pub count_is : count ≡ given_count old.manner.most (length buffer) (length old.rest)
  pub calls : new.calls ≡ old.calls
  pub manner : new.manner ≡ old.manner
