use Rattle.frame_codec.specs.Requests.{SpellsRequest}
use Rattle.frame_codec.specs.Answers.{SpellsAnswer}
use Rattle.frame_codec.specs.Records.{SpellsRecord}
use Rattle.frame_codec.proofs.StreamLaws.{no_frame_there}
use Rattle.frame_codec.proofs.KindStreams.{small_requests, small_answers, small_records}
use Rattle.frame_codec.proofs.laws.stops_are_no_frames.Goals as goal

pub returns-clause-requests : goal.returns-clause-requests
returns-clause-requests c = no_frame_there SpellsRequest 65792 small_requests

pub returns-clause-answers : goal.returns-clause-answers
returns-clause-answers c = no_frame_there SpellsAnswer 66048 small_answers

pub returns-clause-records : goal.returns-clause-records
returns-clause-records c = no_frame_there SpellsRecord 66048 small_records
