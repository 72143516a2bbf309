use Rattle.std.proofs.Common.{arith}
use Rattle.frame_codec.specs.Answers.{answer_bytes, AnswerFits}
use Rattle.frame_codec.specs.Proved.ReadingAnswers.{answer_at}
use Rattle.frame_codec.proofs.Steps.{are_bytes}
use Rattle.frame_codec.proofs.AnswerReads.{answer_reads}
use Rattle.frame_codec.proofs.KindLaws.{gives_value}
use Rattle.frame_codec.proofs.frame_kind.AnswersFrameKind.value.Goals as goal

pub returns : goal.returns
returns c =
    gives_value answer_bytes AnswerFits answer_at answer_reads c.answer_of.result c.args.payload.now
    (are_bytes c.args.payload.now (λ i. omega (arith, c.type_inv.payload i))) c.answer_of.ensures
