-- A call is a page: its refusals in their order, and its effect where none of them is due.
use Rattle.std.specs.Prelude.{Bool, List, [], ◌∷◌, Option, None, Some, if◌then◌else◌}
use Rattle.posix_model.specs.Types.{Reply, Errno, OpenDescriptor, FileEdit, ProcessEdit, TableEdit, Change, Decided, EBADF, Replied, Error}
use Rattle.posix_model.specs.declared.change.FileEdit.TheVariants as on_files
use Rattle.posix_model.specs.declared.change.ProcessEdit.TheVariants as on_process
use Rattle.posix_model.specs.declared.change.TableEdit.TheVariants as on_table

-- nothing changes
abbrev pub no_change : Change
no_change = record { files = on_files.Nothing; process = on_process.Nothing; table = on_table.Nothing }

-- a reply, and no change
abbrev pub tells : Reply → Decided
tells reply = record { outcome = Replied reply; change = no_change }

-- a reply, with an edit of files and one of descriptors
abbrev pub does : Reply → FileEdit → TableEdit → Decided
does reply files table = record { outcome = Replied reply; change = record no_change { files = files; table = table } }

-- a reply, with an edit of processes
abbrev pub acts : Reply → ProcessEdit → Decided
acts reply process = record { outcome = Replied reply; change = record no_change { process = process } }

-- a recorded error changes nothing (own)
abbrev pub refused : Errno → Decided
refused error = tells (Error error)

-- the refusals of a call, each with its condition, in the order in which they are looked at; and its effect, which of a call that may
-- wait has refusals too (EAGAIN and EPIPE: Tries). That a descriptor is not open is looked at before (`on_open`)
pub record Page : Type 0 where
  pub faults : List (Bool × Errno)
  pub effect : Decided

-- what stands beside the first condition that holds: of a page the error
abbrev pub first_fault : {E : Type 0} → List (Bool × E) → Option E
first_fault [] = None
first_fault (fault ∷ faults) = if fault.0 then Some fault.1 else first_fault faults

-- the effect, unless there is a fault
abbrev pub unless : Option Errno → Decided → Decided
unless None effect = effect
unless (Some error) effect = refused error

-- what a page comes to: its first fault, or its effect
abbrev pub decided_by : Page → Decided
decided_by page = unless (first_fault page.faults) page.effect

-- a call on a descriptor: EBADF where it is not open, else what its page comes to
abbrev pub on_open : Option OpenDescriptor → (OpenDescriptor → Page) → Decided
on_open None page = refused EBADF
on_open (Some o) page = decided_by (page o)
