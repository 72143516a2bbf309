-- What is held of the answers of a session (own).
use Rattle.std.specs.Prelude.{ℕ, List}
use Rattle.logged_streams.specs.Streams.{LoggedWriterState}
use Rattle.session_core.specs.declared.told.Told.{Told}

-- the writer; the bytes that are not written yet; how many were, as it is told; and the answers
pub record OutputState : Type 0 where
  pub sink : LoggedWriterState
  pub unsent : List ℕ
  pub sent : ℕ
  pub answers : List Told
