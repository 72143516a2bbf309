-- The lines of records, one after another (own).
use Rattle.std.specs.Prelude.{◌==◌, ◌&&◌, ℕ, ◌+◌, nat_lt, not, Bool, true, false, List, [], ◌∷◌, ◌++◌, length, filter, Option, None, Some, if◌then◌else◌}
use Rattle.std.specs.List.{list_any}
use Rattle.std.specs.Option.{option_map_or}
use Rattle.call_types.specs.declared.act.Act.{Act}
use Rattle.call_types.specs.declared.act.Act.TheVariants as acts
use Rattle.call_types.specs.declared.act.Record.{Record}
use Rattle.call_types.specs.declared.call.Call.TheVariants as calls
use Rattle.call_types.specs.declared.outcome.Outcome.{Outcome}
use Rattle.call_types.specs.declared.outcome.Outcome.TheVariants as outcomes
use Rattle.call_types.specs.declared.outcome.Reply.TheVariants as replies
use Rattle.call_types.specs.declared.limits.TheConstants.{PROCESSES_MAX}
use Rattle.script_text.specs.Lines.{act_line, record_line}
use Rattle.text_forms.specs.Json.{json_line}
use Rattle.text_forms.specs.Scripts.{strung}
use Rattle.text_forms.specs.declared.scripts.Lines.TheVariants as lines
use Rattle.command_line.specs.declared.form.Form.{Form}
use Rattle.command_line.specs.declared.form.Form.TheVariants as forms

-- the form of the lines, how many records were before, and which processes were made by a fork and are not attached
pub record LinesState : Type 0 where
  pub form : Form
  pub place : ℕ
  pub children : List ℕ

-- before the first record
abbrev pub first_lines : Form → LinesState
first_lines form = record { form = form; place = 0; children = [] }

-- ---- the children that are not attached

-- the number that a reply tells
abbrev pub number_of : Outcome → Option ℕ
number_of (outcomes.Reply (replies.Number n)) = Some n
number_of other = None

-- a reply without a value and without an error
abbrev pub is_done : Outcome → Bool
is_done (outcomes.Reply replies.Done) = true
is_done other = false

-- a fork
abbrev pub is_fork : Act → Bool
is_fork (acts.Call calls.Fork) = true
is_fork other = false

-- the end of a process
abbrev pub is_exit : Act → Bool
is_exit acts.Exit = true
is_exit other = false

-- an attach
abbrev pub is_attach : Act → Bool
is_attach acts.Attach = true
is_attach other = false

-- the child that a record tells of, where it is a fork that made one
abbrev pub forked : Record → Option ℕ
forked r = if is_fork r.act then number_of r.outcome else None

-- the actor has ended, or it is attached now
abbrev pub is_left : Record → Bool
is_left r = if is_exit r.act then true else is_attach r.act && is_done r.outcome

-- two processes
abbrev pub is_other : ℕ → ℕ → Bool
is_other process gone = not (process == gone)

-- the process is one of the children
abbrev pub is_child : List ℕ → ℕ → Bool
is_child children process = list_any (λ child. child == process) children

-- a child more, where there are fewer than may live at once in a run
abbrev pub with_child : List ℕ → ℕ → List ℕ
with_child children child = if nat_lt (length children) PROCESSES_MAX then children ++ child ∷ [] else children

-- all children but one
abbrev pub without : ℕ → List ℕ → List ℕ
without gone children = filter (λ process. is_other process gone) children

-- the children after a record
abbrev pub children_after : List ℕ → Record → List ℕ
children_after children r = option_map_or (λ child. with_child children child) (forked r) (if is_left r then without r.actor children else children)

-- ---- the lines

-- the line of a script that asks for what a record tells: none for the end of a child that was never attached, which is part of the closing
abbrev pub asked_line : List ℕ → Record → List ℕ
asked_line children r = if is_exit r.act && is_child children r.actor then [] else act_line r.actor r.act

-- the lines of a record in this form, at this place and with these children
abbrev pub line_in : Form → ℕ → List ℕ → Record → List ℕ
line_in forms.Records place children r = record_line place r
line_in forms.Acts place children r = asked_line children r
line_in forms.RecordsInText place children r = strung lines.Records (record_line place r)
line_in forms.ActsInText place children r = strung lines.Acts (asked_line children r)
line_in forms.Objects place children r = json_line place r

-- the lines of the next record
abbrev pub line_from : LinesState → Record → List ℕ
line_from s r = line_in s.form s.place s.children r

-- after the next record
abbrev pub next_lines : LinesState → Record → LinesState
next_lines s r = record { form = s.form; place = s.place + 1; children = children_after s.children r }

-- the lines of the next records
abbrev pub lines_from : LinesState → List Record → List ℕ
lines_from s [] = []
lines_from s (r ∷ rs) = line_from s r ++ lines_from (next_lines s r) rs

-- the lines of all records of a trace
abbrev pub shown_lines : Form → List Record → List ℕ
shown_lines form records = lines_from (first_lines form) records
