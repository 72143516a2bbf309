-- Why no more of a script is gathered (own).
use Rattle.std.specs.Prelude.{◌≡◌, ℕ, ◌<◌, List, length}
use Rattle.script_text.specs.declared.script.TheConstants.{SCRIPT_MAX}
use Rattle.job_core.specs.declared.replay.Stopped.{Stopped}
use Rattle.job_core.specs.declared.replay.Stopped.TheVariants as stopped

-- why no more of these bytes is gathered: they are too many
abbrev pub HasStopped : List ℕ → List ℕ → Stopped → Type 0
HasStopped text bytes stopped.TooLong = (text ≡ bytes) × (SCRIPT_MAX < length text)
HasStopped text bytes stopped.NoMemory = Unit {0}
