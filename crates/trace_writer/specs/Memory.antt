-- What contracts see of a sink over memory (own).
use Rattle.std.specs.Prelude.{ℕ, Bool, false, List, []}

-- the bytes that it took, how many of its calls failed, and whether it was synced after the last write (own)
pub record MemoryState : Type 0 where
  pub bytes : List ℕ
  pub failures : ℕ
  pub is_synced : Bool

-- a sink that holds nothing, and was not synced (own)
abbrev pub fresh_sink : MemoryState
fresh_sink = record { bytes = []; failures = 0; is_synced = false }
