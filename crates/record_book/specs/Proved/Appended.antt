-- What is told of a record that a journal has appended (own).
use Rattle.std.specs.Prelude.{◌≡◌, ◌≤◌}
use Rattle.call_types.specs.declared.limits.TheConstants.{GIVEN_BYTES_MAX}
use Rattle.posix_model.specs.Turns.{took, gave}
use Rattle.record_book.specs.Book.{BookState, world_now}
use Rattle.record_book.specs.declared.journal.Appended.{Appended}

-- its receipt is there twice, and the bytes are those that the record took and gave in the world before it
pub record TellsMoved (old : BookState) (a : Appended) : Type 0 where
  pub shared : a.shared ≡ a.receipt
  pub bytes_in : a.bytes_in ≡ took (world_now old) a.receipt.record_is
  pub bytes_out : a.bytes_out ≡ gave (world_now old) a.receipt.record_is
  pub few_in : a.bytes_in ≤ GIVEN_BYTES_MAX
  pub few_out : a.bytes_out ≤ GIVEN_BYTES_MAX
