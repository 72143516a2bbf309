use Rattle.std.proofs.Common.{◌+◌, ℕ, length, ap, arith}
use Rattle.call_types.specs.CallTable.{parts, fields_length}
use Rattle.call_types.specs.declared.call.Call.{Call}
use Rattle.frame_codec.proofs.calls.fields_bytes.Goals as goal

abbrev taken : Call → ℕ
taken call = 1 + fields_length (parts call).entry.fields (parts call).values

pub returns-in-Open : goal.returns-in-Open
returns-in-Open c = omega (arith, ap taken c.in-Open.is, ap length c.as_slice.ensures.value)

pub returns-in-Write : goal.returns-in-Write
returns-in-Write c = omega (arith, ap taken c.in-Write.is, c.len.ensures.exact)

pub returns-in-Pwrite : goal.returns-in-Pwrite
returns-in-Pwrite c = omega (arith, ap taken c.in-Pwrite.is, c.len-in-Pwrite.ensures.exact)

pub returns-in-Mkfifo : goal.returns-in-Mkfifo
returns-in-Mkfifo c = omega (arith, ap taken c.in-Mkfifo.is, ap length c.as_slice-in-Mkfifo.ensures.value)

pub returns-in-Link : goal.returns-in-Link
returns-in-Link c = omega (arith, ap taken c.in-Link.is, ap length c.as_slice-in-Link.ensures.value, ap length c.as_slice-in-Link-2.ensures.value)

pub returns-in-Unlink : goal.returns-in-Unlink
returns-in-Unlink c = omega (arith, ap taken c.in-Unlink.is, ap length c.as_slice-in-Unlink.ensures.value)

pub returns-in-Rename : goal.returns-in-Rename
returns-in-Rename c = omega (arith, ap taken c.in-Rename.is, ap length c.as_slice-in-Rename.ensures.value, ap length c.as_slice-in-Rename-2.ensures.value)
