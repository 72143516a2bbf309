use Rattle.std.proofs.Common.{arith}
use Rattle.frame_codec.specs.Requests.{request_bytes, RequestFits}
use Rattle.frame_codec.specs.Proved.ReadingRequests.{request_at}
use Rattle.frame_codec.proofs.Steps.{are_bytes}
use Rattle.frame_codec.proofs.RequestReads.{request_reads}
use Rattle.frame_codec.proofs.KindLaws.{gives_value}
use Rattle.frame_codec.proofs.frame_kind.RequestsFrameKind.value.Goals as goal

pub returns : goal.returns
returns c =
    gives_value request_bytes RequestFits request_at request_reads c.request_of.result c.args.payload.now
    (are_bytes c.args.payload.now (λ i. omega (arith, c.type_inv.payload i))) c.request_of.ensures
