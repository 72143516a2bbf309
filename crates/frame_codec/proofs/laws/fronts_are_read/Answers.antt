use Rattle.frame_codec.specs.Requests.{SpellsRequest}
use Rattle.frame_codec.specs.Answers.{SpellsAnswer}
use Rattle.frame_codec.specs.Records.{SpellsRecord}
use Rattle.frame_codec.proofs.StreamLaws.{front_reads}
use Rattle.frame_codec.proofs.KindStreams.{one_request, one_answer, one_record, small_requests, small_answers, small_records}
use Rattle.frame_codec.proofs.laws.fronts_are_read.Goals as goal

pub returns-clause-requests : goal.returns-clause-requests
returns-clause-requests c = front_reads SpellsRequest 65792 small_requests one_request

pub returns-clause-answers : goal.returns-clause-answers
returns-clause-answers c = front_reads SpellsAnswer 66048 small_answers one_answer

pub returns-clause-records : goal.returns-clause-records
returns-clause-records c = front_reads SpellsRecord 66048 small_records one_record
