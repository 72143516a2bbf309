-- What a join makes (own).
use Rattle.std.specs.Prelude.{true}
use Rattle.process_table.specs.declared.process.Process.{Process}
use Rattle.process_table.specs.Processes.{free_table, process_with}

-- a process without open descriptors, with its connection
abbrev pub new_process : Process
new_process = process_with free_table true
