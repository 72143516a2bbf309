use Rattle.frame_codec.specs.Requests.{SpellsRequest}
use Rattle.frame_codec.specs.Answers.{SpellsAnswer}
use Rattle.frame_codec.specs.Records.{SpellsRecord}
use Rattle.frame_codec.proofs.StreamLaws as laws
use Rattle.frame_codec.proofs.laws.cuts_do_not_matter.Goals as goal

pub returns-clause-requests : goal.returns-clause-requests
returns-clause-requests c = laws.cuts_do_not_matter SpellsRequest 65792

pub returns-clause-answers : goal.returns-clause-answers
returns-clause-answers c = laws.cuts_do_not_matter SpellsAnswer 66048

pub returns-clause-records : goal.returns-clause-records
returns-clause-records c = laws.cuts_do_not_matter SpellsRecord 66048
