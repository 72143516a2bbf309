-- Room in a buffer, in bytes (own).
use Rattle.std.specs.Prelude.{ℕ, ◌+◌, ◌*◌, ◌≤◌, List, length, Vec, vec_len, vec_capacity}
use Rattle.call_types.specs.declared.call.Call.{Call}
use Rattle.call_types.specs.declared.call.Call.TheVariants as calls
use Rattle.call_types.specs.declared.act.Act.{Act}
use Rattle.call_types.specs.declared.act.Act.TheVariants as acts
use Rattle.call_types.specs.declared.act.ScriptAct.{ScriptAct}
use Rattle.call_types.specs.declared.act.ScriptAct.TheVariants as scripts
use Rattle.call_types.specs.declared.outcome.Outcome.{Outcome}
use Rattle.call_types.specs.declared.outcome.Outcome.TheVariants as outcomes
use Rattle.call_types.specs.declared.outcome.Reply.TheVariants as replies
use Rattle.script_text.specs.Lines.{data_word}
use Rattle.script_text.specs.declared.put.TheConstants.{NUMBER_ROOM}
use Rattle.script_text.specs.declared.calls.TheConstants.{CALL_ROOM}
use Rattle.script_text.specs.declared.outcomes.TheConstants.{OUTCOME_ROOM}

-- there is room for so many bytes more
abbrev pub HasRoom : {Z : Type 0} → Vec ℕ Z → ℕ → Type 0
HasRoom out count = vec_len out + count ≤ vec_capacity out

-- at most so much of the room was used
abbrev pub UsesRoom : {Z : Type 0} → Vec ℕ Z → Vec ℕ Z → ℕ → Type 0
UsesRoom old new count = (vec_len new ≤ vec_len old + count) × (vec_capacity old ≤ vec_capacity new)

-- the room that a name is written in: three bytes for each of its own, and one for the empty name
abbrev pub name_room : List ℕ → ℕ
name_room name = 3 * length name + 1

-- the room that data is written in
abbrev pub data_room : List ℕ → ℕ
data_room bytes = length (data_word bytes) + NUMBER_ROOM

-- the room that a call is written in
abbrev pub call_room : Call → ℕ
call_room (calls.Open name flags) = CALL_ROOM + name_room name
call_room (calls.Write fd bytes) = CALL_ROOM + data_room bytes
call_room (calls.Pwrite fd start bytes) = CALL_ROOM + data_room bytes
call_room (calls.Mkfifo name) = CALL_ROOM + name_room name
call_room (calls.Link old new) = CALL_ROOM + (name_room old + name_room new)
call_room (calls.Unlink name) = CALL_ROOM + name_room name
call_room (calls.Rename old new) = CALL_ROOM + (name_room old + name_room new)
call_room other = CALL_ROOM

-- the room that an act is written in, after its actor
abbrev pub act_room : Act → ℕ
act_room (acts.Call call) = call_room call
act_room other = CALL_ROOM

-- the same of an act of a script
abbrev pub script_act_room : ScriptAct → ℕ
script_act_room (scripts.Call process call) = call_room call
script_act_room other = CALL_ROOM

-- the room that an outcome is written in
abbrev pub outcome_room : Outcome → ℕ
outcome_room (outcomes.Reply (replies.Data bytes)) = data_room bytes
outcome_room other = OUTCOME_ROOM
