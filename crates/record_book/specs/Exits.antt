-- The exits and the closing of a run, whose records are made before they are due (own).
use Rattle.std.specs.Prelude.{ℕ, ◌+◌, suc, List, [], ◌∷◌, ◌++◌, map, Option, if◌then◌else◌}
use Rattle.call_types.specs.declared.act.TheConstants.{HOUSE}
use Rattle.call_types.specs.declared.act.Act.TheVariants as act
use Rattle.call_types.specs.declared.act.Record.{Record}
use Rattle.call_types.specs.declared.outcome.Outcome.TheVariants.{Reply as Replied}
use Rattle.call_types.specs.declared.outcome.Reply.TheVariants.{Done}
use Rattle.process_table.specs.declared.process.Process.{Process}
use Rattle.process_table.specs.Processes.{awaits}
use Rattle.posix_model.specs.declared.world.World.{World}
use Rattle.record_book.specs.Seat.{Receipted}

-- the record of an exit
abbrev pub exit_record : ℕ → Record
exit_record process = record { actor = process; act = act.Exit; outcome = Replied Done }

-- the record of the closing
abbrev pub closing_record : Record
closing_record = record { actor = HOUSE; act = act.CloseRun; outcome = Replied Done }

-- the processes that have no connection yet, from a number on
abbrev pub orphans_from : ℕ → List (Option Process) → List ℕ
orphans_from number [] = []
orphans_from number (process ∷ processes) = if awaits process then number ∷ orphans_from (suc number) processes else orphans_from (suc number) processes

-- the records of their exits
abbrev pub orphans_exits : World → List Record
orphans_exits w = map exit_record (orphans_from 0 w.processes)

-- the records of a closing: the exits of the processes without a connection, by rising number, and the closing itself
abbrev pub closing_records : World → List Record
closing_records w = orphans_exits w ++ closing_record ∷ []

-- records as receipts, from a place on
abbrev pub receipts_from : ℕ → List Record → List Receipted
receipts_from place [] = []
receipts_from place (r ∷ rs) = record { place = place; record_is = r } ∷ receipts_from (place + 1) rs
