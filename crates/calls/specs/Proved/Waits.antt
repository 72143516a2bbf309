-- The call that a process waits in, as the code holds it.
use Rattle.std.specs.Prelude.{ℕ, Option, None, Some}
use Rattle.call_types.specs.declared.limits.Bounds.{Bounds}
use Rattle.posix_model.specs.declared.world.World.{World}
use Rattle.posix_model.specs.declared.change.Try.{Try}
use Rattle.posix_model.specs.Resume.{try_again}
use Rattle.calls.specs.declared.resume.Waiting.{Waiting}

-- the next try of it, if it is ready
abbrev pub next_on : Bounds → World → ℕ → Option Waiting → Option Try
next_on bounds w process None = None
next_on bounds w process (Some x) = try_again bounds w process x.descriptor x.parked.now x.pipe x.parked.now.call
