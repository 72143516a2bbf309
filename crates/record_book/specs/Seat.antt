-- What contracts see of receipts and seats (own).
use Rattle.std.specs.Prelude.{ℕ, List}
use Rattle.call_types.specs.declared.act.Record.{Record}
use Rattle.byte_ledger.specs.Counted.{Counted}

-- a record and its place
pub record Receipted : Type 0 where
  pub place : ℕ
  pub record_is : Record

-- a process, how many records it has seen, the receipts of its own, and what they count: records, and the bytes that they took and
-- gave
pub record SeatState : Type 0 where
  pub pid : ℕ
  pub seen : ℕ
  pub receipts : List Receipted
  pub counted : Counted
