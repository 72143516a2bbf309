-- The bytes of a pipe, in each legal history.
use Rattle.std.specs.Prelude.{List}
use Rattle.posix_model.specs.Types.{Record, Bounds}
use Rattle.posix_model.specs.History.{legal}
use Rattle.posix_model.specs.PipeRecord.{KeepsBytes, KeepsSmallWhole}

-- the law of the bytes: so does each legal history
abbrev pub BytesOfPipe : Type 0
BytesOfPipe = (bounds : Bounds) (h : List Record) → legal bounds h → KeepsBytes bounds h

-- so it does in each legal history
abbrev pub SmallWritesUnbroken : Type 0
SmallWritesUnbroken = (bounds : Bounds) (h : List Record) → legal bounds h → KeepsSmallWhole bounds h
