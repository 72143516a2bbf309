-- What holds of how far each run has come, and of each journal (own).
use Rattle.std.specs.Prelude.{◌≡◌, ◌+◌, ◌*◌, ◌≤◌, Option, None, Some, length, if◌then◌else◌}
use Rattle.call_types.specs.declared.act.Record.{Record}
use Rattle.call_types.specs.declared.limits.TheConstants.{GIVEN_BYTES_MAX, PROCESSES_MAX}
use Rattle.slots.specs.Slots.{live}
use Rattle.posix_model.specs.History.{legal}
use Rattle.posix_model.specs.Proved.Whole.{IsWhole}
use Rattle.posix_model.specs.Reserve.{exits_left}
use Rattle.posix_model.specs.declared.world.World.{World}
use Rattle.record_book.specs.RunState.{RunState}
use Rattle.record_book.specs.RunSeen as run
use Rattle.record_book.specs.Book.{run_of}
use Rattle.record_book.specs.Exits.{closing_record}
use Rattle.record_book.specs.JournalSeen.{records_in, state_of}
use Rattle.record_book.specs.Proved.House.{closing_of, HasRoom}
use Rattle.record_book.specs.Proved.Prepared.{exits_from}
use Rattle.record_book.specs.declared.journal.Journal.TheInside.{Inside}
use Rattle.record_book.specs.declared.progress.Progress.TheInside.{Inside as ProgressInside}

-- in its world nothing refers to what is gone; the exits and the closing have their records; there are no more processes than records, and
-- no more live ones than there may be; and no count is too great
pub record IsRun (s : RunState) : Type 0 where
  pub whole : IsWhole s.world
  pub reserve : s.counts.records + exits_left s.world ≤ s.limits.records
  pub few_processes : length s.world.processes ≤ s.counts.records
  pub few_live : live s.world.processes ≤ PROCESSES_MAX
  pub few_in : s.counts.bytes_in ≤ GIVEN_BYTES_MAX * s.counts.records
  pub few_out : s.counts.bytes_out ≤ GIVEN_BYTES_MAX * s.counts.records

-- and the pipes of its machine hold what the limits say
pub record IsProgress (p : ProgressInside) : Type 0 where
  pub run : IsRun (run.state_of p)
  pub capacity : p.machine.room.capacity ≡ p.limits.bounds.pipe_capacity

-- the record of the closing is prepared while a run is open
abbrev pub prepared_closing : World → Option Record
prepared_closing w = if w.closed then None else Some closing_record

-- the history is legal, and leads to where the run is; there is room for all records that the limits allow; and each live process has the
-- record of its exit prepared
pub record IsJournal (b : Inside) : Type 0 where
  pub is_legal : legal b.progress.limits.bounds (records_in b)
  pub run : b.progress ≡ run_of (state_of b)
  pub room : b.progress.limits.records ≤ length (records_in b) + b.history.free
  pub exits : b.exits.0 ≡ exits_from 0 b.progress.world.processes
  pub closing : closing_of b.house ≡ prepared_closing b.progress.world
  pub house : HasRoom (live b.progress.world.processes) b.house
