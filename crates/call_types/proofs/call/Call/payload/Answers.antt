use Rattle.std.proofs.Common.{ap, sym}
use Rattle.call_types.specs.CallTable.{payload_of}
use Rattle.call_types.proofs.call.Call.payload.Goals as goal

pub returns-in-Write : goal.returns-in-Write
returns-in-Write c = ap payload_of (sym c.in-Write.is)

pub returns-in-Pwrite : goal.returns-in-Pwrite
returns-in-Pwrite c = ap payload_of (sym c.in-Pwrite.is)
