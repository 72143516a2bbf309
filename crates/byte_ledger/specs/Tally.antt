-- A tally, and what is said where shares of it are missing (own).
use Rattle.std.specs.Prelude.{◌≡◌, ℕ, ◌<◌}
use Rattle.byte_ledger.specs.declared.gather.Missing.{Missing}

-- the sum of all that was added, and how many shares were opened
pub record TallyState : Type 0 where
  pub total : ℕ
  pub opened : ℕ

-- so many shares are there, fewer than were opened
pub record Misses (opened held : ℕ) (missing : Missing) : Type 0 where
  pub held_is : missing.held ≡ held
  pub opened_is : missing.opened ≡ opened
  pub fewer : missing.held < missing.opened
