-- A record is no longer than a payload may be, where no act but one that reads is answered with data.
use Rattle.std.proofs.Common.{◌+◌, ◌≤◌, length, refl, arith}
use Rattle.call_types.specs.declared.act.Act.{Act}
use Rattle.call_types.specs.declared.act.Act.TheVariants as acts
use Rattle.call_types.specs.declared.act.Record.{Record}
use Rattle.call_types.specs.declared.call.Call.{Call}
use Rattle.call_types.specs.declared.call.Call.TheVariants as calls
use Rattle.call_types.specs.declared.outcome.Outcome.{Outcome}
use Rattle.call_types.specs.declared.outcome.Outcome.TheVariants as outcomes
use Rattle.call_types.specs.declared.outcome.Reply.TheVariants as replies
use Rattle.call_types.specs.CallTable.{parts, fields_length}
use Rattle.frame_codec.specs.Fields.{number_bytes}
use Rattle.frame_codec.specs.Requests.{call_bytes, CallFits}
use Rattle.frame_codec.specs.Answers.{outcome_bytes, OutcomeFits}
use Rattle.frame_codec.specs.Records.{act_bytes, record_bytes, ActFits, RecordFits, SpellsRecord}
use Rattle.frame_codec.specs.Proved.Laws.{MayRead, DataIsRead}
use Rattle.frame_codec.specs.Frames.{frame, IsFrame}
use Rattle.frame_codec.proofs.Lengths.{call_length, record_length}

-- the fields of a call, the longest of which are those of a pwrite
pub fields_short : (call : Call) → CallFits call → fields_length (parts call).entry.fields (parts call).values ≤ 65716
fields_short (calls.Open name flags) h = omega (arith, h.1.0.1)
fields_short (calls.Write fd bytes) h = omega (arith, h.1.0.1)
fields_short (calls.Pwrite fd start bytes) h = omega (arith, h.1.1.0.1)
fields_short (calls.Mkfifo name) h = omega (arith, h.0.1)
fields_short (calls.Link old new) h = omega (arith, h.0.1, h.1.0.1)
fields_short (calls.Unlink name) h = omega (arith, h.0.1)
fields_short (calls.Rename old new) h = omega (arith, h.0.1, h.1.0.1)
fields_short other h = omega arith

act_short : (act : Act) → ActFits act → length (act_bytes act) ≤ 65717
act_short (acts.Call call) h = omega (arith, call_length call, fields_short call h)
act_short other h = omega arith

call_reads : (call : Call) → MayRead (acts.Call call) → length (call_bytes call) ≤ 17
call_reads (calls.Read fd count) h = omega (arith, call_length (calls.Read fd count))
call_reads (calls.Pread fd start count) h = omega (arith, call_length (calls.Pread fd start count))
call_reads other h = absurd h

act_reads : (act : Act) → MayRead act → length (act_bytes act) ≤ 17
act_reads (acts.Call call) h = call_reads call h
act_reads acts.Resume h = omega arith
act_reads other h = absurd h

both_short : (act : Act) (outcome : Outcome) → ActFits act → OutcomeFits outcome → DataIsRead act outcome →
    length (act_bytes act) + length (outcome_bytes outcome) ≤ 66044
unfolding number_bytes
both_short act (outcomes.Reply (replies.Data bytes)) h k d = omega (arith, act_reads act d, k.1)
both_short act other h k d = omega (arith, act_short act h)

pub record_frames : (r : Record) → RecordFits r → DataIsRead r.act r.outcome → IsFrame SpellsRecord 66048 r (frame (record_bytes r))
record_frames r h d = record {
  payload = record_bytes r;
  few = omega (arith, record_length r, both_short r.act r.outcome h.1 h.3 d);
  spelled = (h, refl);
  is = refl;
}
