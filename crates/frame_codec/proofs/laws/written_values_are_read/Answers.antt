use Rattle.frame_codec.specs.Requests.{request_bytes, RequestFits}
use Rattle.frame_codec.specs.Answers.{answer_bytes, AnswerFits}
use Rattle.frame_codec.specs.Records.{record_bytes, RecordFits}
use Rattle.frame_codec.specs.Proved.ReadingRequests.{request_at}
use Rattle.frame_codec.specs.Proved.ReadingAnswers.{answer_at}
use Rattle.frame_codec.specs.Proved.ReadingRecords.{record_at}
use Rattle.frame_codec.proofs.Steps.{payload_again}
use Rattle.frame_codec.proofs.RequestReads.{request_reads}
use Rattle.frame_codec.proofs.AnswerReads.{answer_reads}
use Rattle.frame_codec.proofs.RecordReads.{record_reads}
use Rattle.frame_codec.proofs.laws.written_values_are_read.Goals as goal

pub returns-clause-requests : goal.returns-clause-requests
returns-clause-requests c = λ request h. payload_again request_bytes RequestFits request_at request_reads request h

pub returns-clause-answers : goal.returns-clause-answers
returns-clause-answers c = λ answer h. payload_again answer_bytes AnswerFits answer_at answer_reads answer h

pub returns-clause-records : goal.returns-clause-records
returns-clause-records c = λ r h. payload_again record_bytes RecordFits record_at record_reads r h
