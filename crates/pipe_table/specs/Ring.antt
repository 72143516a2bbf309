-- What a ring of bytes is seen as.
use Rattle.std.specs.Prelude.{ℕ, List}

-- the bytes in it, of which the first is taken next, how many it can hold, and how many of these its block has places for
pub record Ring : Type 0 where
  pub bytes : List ℕ
  pub capacity : ℕ
  pub block : ℕ
