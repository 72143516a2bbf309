use Rattle.frame_codec.specs.Requests.{SpellsRequest}
use Rattle.frame_codec.specs.Answers.{SpellsAnswer}
use Rattle.frame_codec.specs.Records.{SpellsRecord}
use Rattle.frame_codec.proofs.StreamLaws.{one_reading, longest}
use Rattle.frame_codec.proofs.KindStreams.{one_request, one_answer, one_record, small_requests, small_answers, small_records}
use Rattle.frame_codec.proofs.laws.bytes_have_one_reading.Goals as goal

pub returns-clause-requests : goal.returns-clause-requests
returns-clause-requests c = one_reading SpellsRequest 65792 small_requests one_request

pub returns-clause-answers : goal.returns-clause-answers
returns-clause-answers c = one_reading SpellsAnswer 66048 small_answers one_answer

pub returns-clause-records : goal.returns-clause-records
returns-clause-records c = one_reading SpellsRecord 66048 small_records one_record

pub returns-clause-most_requests : goal.returns-clause-most_requests
returns-clause-most_requests c = longest SpellsRequest 65792 small_requests one_request

pub returns-clause-most_answers : goal.returns-clause-most_answers
returns-clause-most_answers c = longest SpellsAnswer 66048 small_answers one_answer

pub returns-clause-most_records : goal.returns-clause-most_records
returns-clause-most_records c = longest SpellsRecord 66048 small_records one_record
