-- What contracts see of readers and writers over memory (own).
use Rattle.std.specs.Prelude.{ℕ, List}
use Rattle.session_core.specs.declared.memory.Manner.{Manner}

-- what a reader has left, how often it was read, and how it answers
pub record ReaderState : Type 0 where
  pub rest : List ℕ
  pub calls : ℕ
  pub manner : Manner

-- what a writer holds, how often it was written to and flushed, and how it answers
pub record WriterState : Type 0 where
  pub bytes : List ℕ
  pub calls : ℕ
  pub flushes : ℕ
  pub manner : Manner
