-- The page of dup2.
use Rattle.std.specs.Prelude.{ℕ, ℤ, pos, negsuc, nat_abs, Bool, true, ◌==◌, nat_le, [], ◌∷◌, Some, if◌then◌else◌}
use Rattle.posix_model.specs.Types.{OpenDescriptor, Decided, EBADF, Number, OPEN_MAX}
use Rattle.posix_model.specs.Pages.{Page, does, tells}
use Rattle.posix_model.specs.declared.change.FileEdit.TheVariants as on_files
use Rattle.posix_model.specs.declared.change.TableEdit.TheVariants as on_table

-- whether a number can be no descriptor: it is negative, or OPEN_MAX or more
abbrev pub is_no_descriptor : ℤ → Bool
is_no_descriptor (pos fd) = nat_le OPEN_MAX fd
is_no_descriptor (negsuc n) = true

-- a descriptor refers to the same description, whatever it referred to before; equal numbers change nothing
abbrev pub dup2_to : ℕ → ℕ → OpenDescriptor → Decided
dup2_to process to o = if to == o.fd then tells (Number to) else does (Number to) on_files.Nothing (on_table.Entry process to (Some o.number))

-- dup2(fd, to)
abbrev pub dup2 : ℕ → ℤ → OpenDescriptor → Page
dup2 process to o = record { faults = (is_no_descriptor to, EBADF) ∷ []; effect = dup2_to process (nat_abs to) o }
