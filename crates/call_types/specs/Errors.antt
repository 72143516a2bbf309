-- The numbers of the recorded errors (own).
use Rattle.std.specs.Prelude.{ℕ}
use Rattle.call_types.specs.declared.errno.Errno.{Errno}
use Rattle.call_types.specs.declared.errno.Errno.TheVariants as errors

-- the number of an error in records and answers (own: not those of a system)
abbrev pub error_number : Errno → ℕ
error_number errors.EBADF = 1
error_number errors.EINVAL = 2
error_number errors.ESPIPE = 3
error_number errors.EFBIG = 4
error_number errors.EOVERFLOW = 5
error_number errors.ENOENT = 6
error_number errors.EEXIST = 7
error_number errors.EMLINK = 8
error_number errors.ENAMETOOLONG = 9
error_number errors.EMFILE = 10
error_number errors.ENFILE = 11
error_number errors.ENOSPC = 12
error_number errors.EAGAIN = 13
error_number errors.EPIPE = 14
error_number errors.ENXIO = 15
error_number errors.ESRCH = 16
