-- What the three tallies of a run count (own).
use Rattle.std.specs.Prelude.{ℕ, ◌+◌, ◌≤◌}

-- what the three ledgers of a run are called
pub record Names : Type 0 where
  pub records : ℕ
  pub bytes_in : ℕ
  pub bytes_out : ℕ

-- how many records were counted, and how many bytes they took and gave
pub record Counted : Type 0 where
  pub records : ℕ
  pub bytes_in : ℕ
  pub bytes_out : ℕ

-- the same with one record more, which took and gave so many bytes
abbrev pub counted_more : ℕ → ℕ → Counted → Counted
counted_more bytes_in bytes_out c = record { records = c.records + 1; bytes_in = c.bytes_in + bytes_in; bytes_out = c.bytes_out + bytes_out }

-- what was counted through one holder is part of what was counted in all
pub record IsPartOf (part all : Counted) : Type 0 where
  pub records : part.records ≤ all.records
  pub bytes_in : part.bytes_in ≤ all.bytes_in
  pub bytes_out : part.bytes_out ≤ all.bytes_out

-- for how many holders shares were opened, and what was counted through all of them
pub record TalliesState : Type 0 where
  pub opened : ℕ
  pub counted : Counted
