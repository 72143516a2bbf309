-- The exits that a book has prepared (own).
use Rattle.std.specs.Prelude.{ℕ, suc, List, [], ◌∷◌, ◌++◌, Option, None, Some}
use Rattle.std.specs.Option.{option_map}
use Rattle.call_types.specs.declared.act.Record.{Record}
use Rattle.process_table.specs.declared.process.Process.{Process}
use Rattle.posix_model.specs.declared.change.ProcessEdit.{ProcessEdit}
use Rattle.posix_model.specs.declared.change.ProcessEdit.TheVariants as on_process
use Rattle.record_book.specs.Exits.{exit_record}

-- the record of the exit of each live process, from a number on
abbrev pub exits_from : ℕ → List (Option Process) → List (Option Record)
exits_from number [] = []
exits_from number (process ∷ processes) = option_map (λ _. exit_record number) process ∷ exits_from (suc number) processes

-- the record that an edit of processes has to prepare, where it adds a process of this number
abbrev pub prepared_for : ℕ → ProcessEdit → Option Record
prepared_for number (on_process.Add table attached) = Some (exit_record number)
prepared_for number other = None

-- the prepared records after it
abbrev pub with_prepared : Option Record → List (Option Record) → List (Option Record)
with_prepared None exits = exits
with_prepared (Some r) exits = exits ++ Some r ∷ []
