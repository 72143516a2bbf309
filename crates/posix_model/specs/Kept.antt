-- What is there, and that it is just what something refers to (page of close).
use Rattle.std.specs.Prelude.{◌≡◌, ℕ, ◌+◌, ◌<◌, ◌↔◌, true, List, Option, is_some}
use Rattle.slots.specs.Slots.{slot}
use Rattle.posix_model.specs.Counts.{links, refs, holders, readers, writers}
use Rattle.posix_model.specs.Sweep.{without_gone_pipe}
use Rattle.posix_model.specs.Types.{World}

-- something stands at this number, and is not gone (own)
abbrev pub IsThere : {T : Type 0} → List (Option T) → ℕ → Type 0
IsThere slots number = is_some (slot slots number) ≡ true

-- nothing waits for a sweep
pub record IsSettled (w : World) : Type 0 where
  pub descriptions : (n : ℕ) → is_some (slot w.descriptions n) ≡ true → 0 < refs w.processes n
  pub pipes : (n : ℕ) → is_some (slot w.pipes n) ≡ true → 0 < readers w.descriptions n + writers w.descriptions n
  pub fifos : (n : ℕ) → without_gone_pipe w.descriptions (slot w.files n) ≡ slot w.files n
  pub files : (n : ℕ) → is_some (slot w.files n) ≡ true → 0 < links w.names n + holders w.descriptions n

-- what is there: the files with a name or a live description, the pipes with an open end, the descriptions with a descriptor (page of close)
pub record KeptExactly (w : World) : Type 0 where
  pub files : (number : ℕ) → IsThere w.files number ↔ 0 < links w.names number + holders w.descriptions number
  pub pipes : (number : ℕ) → IsThere w.pipes number ↔ 0 < readers w.descriptions number + writers w.descriptions number
  pub descriptions : (number : ℕ) → IsThere w.descriptions number ↔ 0 < refs w.processes number
