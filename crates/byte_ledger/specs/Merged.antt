-- A tally of which shares are brought together (own).
use Rattle.std.specs.Prelude.{ℕ}
use Rattle.byte_ledger.specs.Tally.{TallyState}

-- a tally, how many of its shares are brought together, and their sum
pub record MergedState : Type 0 where
  pub tally : TallyState
  pub held : ℕ
  pub sum : ℕ
