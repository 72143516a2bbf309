-- The streams of requests, of answers and of records.
use Rattle.std.proofs.Common.{ℕ, ◌^◌, ◌<◌, List, sym, ap, ◌∙◌, arith}
use Rattle.frame_codec.specs.Requests.{request_bytes, RequestFits, SpellsRequest}
use Rattle.frame_codec.specs.Answers.{answer_bytes, AnswerFits, SpellsAnswer}
use Rattle.frame_codec.specs.Records.{record_bytes, RecordFits, SpellsRecord}
use Rattle.frame_codec.specs.Proved.Reading.{Reading, payload_at}
use Rattle.frame_codec.specs.Proved.ReadingRequests.{request_at}
use Rattle.frame_codec.specs.Proved.ReadingAnswers.{answer_at}
use Rattle.frame_codec.specs.Proved.ReadingRecords.{record_at}
use Rattle.frame_codec.proofs.Steps.{Reads, some_is, payload_again}
use Rattle.frame_codec.proofs.RequestReads.{request_reads}
use Rattle.frame_codec.proofs.AnswerReads.{answer_reads}
use Rattle.frame_codec.proofs.RecordReads.{record_reads}
use Rattle.frame_codec.proofs.KindLaws.{Spelled}
use Rattle.frame_codec.proofs.StreamLaws.{OneValue}

one_value : {A : Type 0} (text : A → List ℕ) (Fits : A → Type 0) (read : Reading A) → Reads text Fits read → OneValue (Spelled text Fits)
one_value text Fits read r = λ a b payload h k.
    some_is a b (sym (payload_again text Fits read r a h.0) ∙ ap (payload_at read) (sym h.1 ∙ k.1) ∙ payload_again text Fits read r b k.0)

pub one_request : OneValue SpellsRequest
one_request = one_value request_bytes RequestFits request_at request_reads

pub one_answer : OneValue SpellsAnswer
one_answer = one_value answer_bytes AnswerFits answer_at answer_reads

pub one_record : OneValue SpellsRecord
one_record = one_value record_bytes RecordFits record_at record_reads

pub small_requests : 65792 < 2 ^ 32
small_requests = omega arith

pub small_answers : 66048 < 2 ^ 32
small_answers = omega arith

pub small_records : 66048 < 2 ^ 32
small_records = omega arith
