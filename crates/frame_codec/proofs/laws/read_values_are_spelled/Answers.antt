use Rattle.frame_codec.specs.Requests.{request_bytes, RequestFits}
use Rattle.frame_codec.specs.Answers.{answer_bytes, AnswerFits}
use Rattle.frame_codec.specs.Records.{record_bytes, RecordFits}
use Rattle.frame_codec.specs.Proved.ReadingRequests.{request_at}
use Rattle.frame_codec.specs.Proved.ReadingAnswers.{answer_at}
use Rattle.frame_codec.specs.Proved.ReadingRecords.{record_at}
use Rattle.frame_codec.proofs.Steps.{payload_takes}
use Rattle.frame_codec.proofs.RequestReads.{request_reads}
use Rattle.frame_codec.proofs.AnswerReads.{answer_reads}
use Rattle.frame_codec.proofs.RecordReads.{record_reads}
use Rattle.frame_codec.proofs.laws.read_values_are_spelled.Goals as goal

pub returns-clause-requests : goal.returns-clause-requests
returns-clause-requests c = λ request payload h e. payload_takes request_bytes RequestFits request_at request_reads payload request h e

pub returns-clause-answers : goal.returns-clause-answers
returns-clause-answers c = λ answer payload h e. payload_takes answer_bytes AnswerFits answer_at answer_reads payload answer h e

pub returns-clause-records : goal.returns-clause-records
returns-clause-records c = λ r payload h e. payload_takes record_bytes RecordFits record_at record_reads payload r h e
