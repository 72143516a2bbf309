-- What a session answers, as bytes and as receipts (own).
use Rattle.std.specs.Prelude.{◌≡◌, ℕ, List, [], ◌∷◌, ◌++◌, Option, length}
use Rattle.std.specs.List.{flat_map}
use Rattle.std.specs.Io.KnownBytes.{Appends}
use Rattle.frame_codec.specs.Frames.{frame}
use Rattle.frame_codec.specs.Answers.{answer_bytes}
use Rattle.frame_codec.specs.Decoding.{told_place}
use Rattle.frame_codec.specs.declared.answer.Answer.TheVariants as answers
use Rattle.record_book.specs.Seat.{Receipted}
use Rattle.session_core.specs.declared.told.Told.{Told}
use Rattle.session_core.specs.declared.told.Told.TheVariants as told

-- the frame of an answer
abbrev pub told_bytes : Told → List ℕ
told_bytes (told.Recorded receipt) = frame (answer_bytes (answers.Recorded receipt.place receipt.record_is.outcome))
told_bytes (told.Refused refusal) = frame (answer_bytes (answers.Refused refusal))

-- the frames of answers
abbrev pub answers_text : List Told → List ℕ
answers_text all = flat_map told_bytes all

-- the first bytes of the answers' text were written after what a writer held: so many, as it is told
pub record IsFrontWritten (old new : Option (List ℕ)) (answers : List Told) (sent : ℕ) : Type 0 where
  pub text : List ℕ
  pub rest : List ℕ
  pub appends : Appends old new text
  pub is : text ++ rest ≡ answers_text answers
  pub sent_is : sent ≡ told_place (length text)

-- the receipt of an answer, if it has one
abbrev pub receipt_of : Told → List Receipted
receipt_of (told.Recorded receipt) = receipt ∷ []
receipt_of (told.Refused refusal) = []

-- the receipts of answers
abbrev pub receipts_of : List Told → List Receipted
receipts_of all = flat_map receipt_of all
