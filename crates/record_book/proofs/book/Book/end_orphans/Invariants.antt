use Rattle.std.proofs.Common.{◌≡◌, ◌++◌, length}
use Rattle.record_book.specs.Book.{world_now}
use Rattle.record_book.specs.Exits.{orphans_exits}
use Rattle.record_book.specs.Ends.{told_more}
use Rattle.record_book.proofs.ExitLemmas.{exits_ahead}
use Rattle.record_book.proofs.book.Book.end_orphans.Given as goal

-- the exits so far, and those that are left
abbrev pub invariant-loop-process : goal.invariant-loop-process
invariant-loop-process g l =
    let left = exits_ahead l.process (world_now l.self).processes in
    record {
      limits : l.self.limits ≡ l.fn.self.limits;
      is_traced : l.self.is_traced ≡ l.fn.self.is_traced;
      history : l.self.history ++ left ≡ l.fn.self.history ++ orphans_exits (world_now l.fn.self);
      house : told_more (length l.self.history) left l.self.house ≡ told_more (length l.fn.self.history) (orphans_exits (world_now l.fn.self)) l.fn.self.house;
      closed : (world_now l.self).closed ≡ (world_now l.fn.self).closed;
      all : length (world_now l.self).processes ≡ l.process-end;
    }
