use Rattle.std.proofs.Common.{subst}
use Rattle.rtrb.specs.Ring.{sent, producer_capacity}
use Rattle.logged_streams.specs.Streams.{ReadsOnce}
use Rattle.request_pump.proofs.ReadLemmas as laws
use Rattle.request_pump.proofs.pump.pump_on.Goals as goal

pub returns-in-Bytes-clause-pumps : goal.returns-in-Bytes-clause-pumps
returns-in-Bytes-clause-pumps g c =
    laws.bytes_read (producer_capacity c.pump_piece.new.ring.producer) c.args.source.now c.read.new.self c.read.new.buffer c.in-Bytes.count _ c.args.decoder.now
    c.pump_piece.new.decoder (sent c.args.ring.now.producer) (sent c.pump_piece.new.ring.producer)
    c.pump_piece.result c.requires.sound (subst (ReadsOnce c.args.source.now c.read.new.self c.read.new.buffer) c.in-Bytes.is c.read.ensures.reads)
    c.split_at.ensures.front c.pump_piece.ensures.pumps c.pump_piece.ensures.end
