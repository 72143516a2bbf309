use Rattle.std.proofs.Common.{length, ap, arith}
use Rattle.call_types.proofs.call.Call.fields_are_short.Goals as goal

pub returns-in-Open : goal.returns-in-Open
returns-in-Open c = rw c.in-Open.is (omega (arith, ap length c.as_slice-bytes.ensures.value, c.as_slice-bytes.ensures.within), (omega arith, tt))

pub returns-in-Write : goal.returns-in-Write
returns-in-Write c = rw c.in-Write.is (omega arith, (omega (arith, c.len-len.ensures.exact, c.len-len.ensures.within), tt))

pub returns-in-Pwrite : goal.returns-in-Pwrite
returns-in-Pwrite c = rw c.in-Pwrite.is (omega arith, (omega arith, (omega (arith, c.len-len-in-Pwrite.ensures.exact, c.len-len-in-Pwrite.ensures.within), tt)))

pub returns-in-Mkfifo : goal.returns-in-Mkfifo
returns-in-Mkfifo c = rw c.in-Mkfifo.is (omega (arith, ap length c.as_slice-bytes-in-Mkfifo.ensures.value, c.as_slice-bytes-in-Mkfifo.ensures.within), tt)

pub returns-in-Link : goal.returns-in-Link
returns-in-Link c = rw c.in-Link.is (
  omega (arith, ap length c.as_slice-old.ensures.value, c.as_slice-old.ensures.within),
  (omega (arith, ap length c.as_slice-new.ensures.value, c.as_slice-new.ensures.within), tt),
)

pub returns-in-Unlink : goal.returns-in-Unlink
returns-in-Unlink c = rw c.in-Unlink.is (omega (arith, ap length c.as_slice-bytes-in-Unlink.ensures.value, c.as_slice-bytes-in-Unlink.ensures.within), tt)

pub returns-in-Rename : goal.returns-in-Rename
returns-in-Rename c = rw c.in-Rename.is (
  omega (arith, ap length c.as_slice-old-in-Rename.ensures.value, c.as_slice-old-in-Rename.ensures.within),
  (omega (arith, ap length c.as_slice-new-in-Rename.ensures.value, c.as_slice-new-in-Rename.ensures.within), tt),
)
