-- What a session has answered, and what of it is written (own).
use Rattle.std.specs.Prelude.{◌≡◌, ℕ, List, [], ◌∷◌, ◌++◌, Option, length}
use Rattle.std.specs.Io.KnownBytes.{Appends}
use Rattle.frame_codec.specs.Decoding.{told_place}
use Rattle.session_core.specs.Answers.{answers_text, IsFrontWritten}
use Rattle.logged_streams.specs.Streams.{fresh_log, IsWrittenNoMore}
use Rattle.session_core.specs.declared.told.Told.{Told}
use Rattle.session_core.specs.OutputState.{OutputState}

-- nothing was answered
abbrev pub fresh_output : Option (List ℕ) → OutputState
fresh_output contents = record { sink = record { contents = contents; log = fresh_log }; unsent = []; sent = 0; answers = [] }

-- the answers' text was written after what the writer held, all of it but what is not written yet
pub record Holds (base : Option (List ℕ)) (o : OutputState) : Type 0 where
  pub text : List ℕ
  pub appends : Appends base o.sink.contents text
  pub is : text ++ o.unsent ≡ answers_text o.answers
  pub sent_is : o.sent ≡ told_place (length text)

-- the first bytes of the answers' text were written after what the writer held, and no more is written to it
pub record Broke (base : Option (List ℕ)) (o : OutputState) : Type 0 where
  pub front : IsFrontWritten base o.sink.contents o.answers o.sent
  pub broken : IsWrittenNoMore o.sink.log

-- what is written stays the text of the answers
abbrev pub KeepsHolding : OutputState → OutputState → Type 0
KeepsHolding old new = (base : Option (List ℕ)) → Holds base old → Holds base new

-- what is written is a front of the text of the answers
abbrev pub Breaks : OutputState → OutputState → Type 0
Breaks old new = (base : Option (List ℕ)) → Holds base old → Broke base new

-- a gate was asked: nothing has changed of what is answered, of what is written, and of what is still to be written
pub record Passes (old new : OutputState) : Type 0 where
  pub contents : new.sink.contents ≡ old.sink.contents
  pub unsent : new.unsent ≡ old.unsent
  pub sent : new.sent ≡ old.sent
  pub answers : new.answers ≡ old.answers

-- one answer more, whose frame is still to be written
pub record Puts (old new : OutputState) (answer : Told) : Type 0 where
  pub answers : new.answers ≡ old.answers ++ answer ∷ []
  pub holds : KeepsHolding old new

-- the answers stay
pub record Flushes (old new : OutputState) : Type 0 where
  pub answers : new.answers ≡ old.answers
  pub holds : KeepsHolding old new

-- all of them are written
pub record SendsAll (old new : OutputState) : Type 0 where
  pub flushes : Flushes old new
  pub all : new.unsent ≡ []

-- the answers stay, and no more is written
pub record FailsToSend (old new : OutputState) : Type 0 where
  pub answers : new.answers ≡ old.answers
  pub breaks : Breaks old new
