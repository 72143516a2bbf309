-- The page of fcntl, F_GETFL.
use Rattle.std.specs.Prelude.{[]}
use Rattle.call_types.specs.Descriptions.{flags_of}
use Rattle.posix_model.specs.Types.{OpenDescriptor, Number}
use Rattle.posix_model.specs.Pages.{Page, tells}

-- fcntl(fd, F_GETFL): how the file is accessed, append and nonblock (own: by the bits of a request)
abbrev pub getfl : OpenDescriptor → Page
getfl o = record { faults = []; effect = tells (Number (flags_of o.description).0) }
