use Rattle.std.proofs.Common.{arith}
use Rattle.frame_codec.specs.Records.{record_bytes, RecordFits}
use Rattle.frame_codec.specs.Proved.ReadingRecords.{record_at}
use Rattle.frame_codec.proofs.Steps.{are_bytes}
use Rattle.frame_codec.proofs.RecordReads.{record_reads}
use Rattle.frame_codec.proofs.KindLaws.{gives_value}
use Rattle.frame_codec.proofs.frame_kind.RecordsFrameKind.value.Goals as goal

pub returns : goal.returns
returns c =
    gives_value record_bytes RecordFits record_at record_reads c.record_of.result c.args.payload.now
    (are_bytes c.args.payload.now (λ i. omega (arith, c.type_inv.payload i))) c.record_of.ensures
