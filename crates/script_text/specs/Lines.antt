-- The lines of a run, as they are written (own).
use Rattle.std.specs.Prelude.{ℕ, ◌+◌, ◌-◌, ◌/◌, ◌%◌, ◌==◌, nat_lt, ◌&&◌, List, [], ◌∷◌, ◌++◌, length, codes, decimal, Option, Some, None, if◌then◌else◌}
use Rattle.std.specs.Fmt.{signed_decimal}
use Rattle.std.specs.List.{flat_map, list_all}
use Rattle.call_types.specs.declared.call.Call.{Call}
use Rattle.call_types.specs.CallTable.{FieldKind, a_descriptor, a_position, a_count, a_name, a_payload, some_flags, a_whence, Value, Values, parts}
use Rattle.call_types.specs.Flags.{reading, writing, creat, excl, trunc, appending, nonblocking, bits_have}
use Rattle.call_types.specs.declared.whence.Whence.{Whence}
use Rattle.call_types.specs.declared.whence.Whence.TheVariants as whences
use Rattle.call_types.specs.declared.act.ScriptAct.{ScriptAct}
use Rattle.call_types.specs.declared.act.ScriptAct.TheVariants as scripts
use Rattle.call_types.specs.declared.act.Act.{Act}
use Rattle.call_types.specs.declared.act.Act.TheVariants as acts
use Rattle.call_types.specs.declared.act.Record.{Record}
use Rattle.call_types.specs.declared.outcome.Outcome.{Outcome}
use Rattle.call_types.specs.declared.outcome.Outcome.TheVariants as outcomes
use Rattle.call_types.specs.declared.outcome.Reply.{Reply}
use Rattle.call_types.specs.declared.outcome.Reply.TheVariants as replies
use Rattle.call_types.specs.declared.outcome.FileType.{FileType}
use Rattle.call_types.specs.declared.outcome.FileType.TheVariants as kinds
use Rattle.call_types.specs.declared.outcome.Stat.{Stat}
use Rattle.call_types.specs.declared.errno.Errno.{Errno}
use Rattle.call_types.specs.declared.errno.Errno.TheVariants as errors
use Rattle.call_types.specs.declared.refusal.Refusal.{Refusal}
use Rattle.call_types.specs.declared.refusal.Refusal.TheVariants as refusals
use Rattle.script_text.specs.ReadingNumbers.{digit_0, letter_a}
use Rattle.script_text.specs.ReadingNames.{is_plain}

-- a process: a p, and its number
abbrev pub process_word : ℕ → List ℕ
process_word process = codes "p" ++ decimal process

-- a lower case hexadecimal digit
abbrev pub hex_glyph : ℕ → ℕ
hex_glyph digit = if nat_lt digit 10 then digit_0 + digit else letter_a - 10 + digit

-- the two digits of a byte
abbrev pub hex_pair : ℕ → List ℕ
hex_pair byte = hex_glyph (byte / 16) ∷ hex_glyph (byte % 16) ∷ []

-- a byte of a name: itself, or a % and its digits
abbrev pub name_byte : ℕ → List ℕ
name_byte byte = if is_plain byte then byte ∷ [] else codes "%" ++ hex_pair byte

-- a name: % alone is the empty one
abbrev pub name_word : List ℕ → List ℕ
name_word [] = codes "%"
name_word (byte ∷ bytes) = flat_map name_byte (byte ∷ bytes)

-- data of so many bytes at most is written out, even where all of them are the same
abbrev pub written_out_max : ℕ
written_out_max = 16

-- the one byte of which data is that is not written out, where it has no other
abbrev pub one_byte : List ℕ → Option ℕ
one_byte [] = None
one_byte (byte ∷ bytes) = if nat_lt written_out_max (length (byte ∷ bytes)) && list_all (λ b. b == byte) (byte ∷ bytes) then Some byte else None

-- data by its digits, or by its one byte, a * and how many bytes there are
abbrev pub data_text : Option ℕ → List ℕ → List ℕ
data_text None bytes = codes "x" ++ flat_map hex_pair bytes
data_text (Some byte) bytes = hex_pair byte ++ codes "*" ++ decimal (length bytes)

-- data, which is written by its one byte exactly where it has one
abbrev pub data_word : List ℕ → List ℕ
data_word bytes = data_text (one_byte bytes) bytes

-- the mode, by its two flags
abbrev pub mode_word : ℕ → List ℕ
mode_word bits = if bits_have bits reading then if bits_have bits writing then codes "rw" else codes "r" else if bits_have bits writing then codes "w" else
    codes "-"

-- a suffix, where its flag is set
abbrev pub suffix : ℕ → ℕ → List ℕ → List ℕ
suffix bits flag text = if bits_have bits flag then text else []

-- flags: the mode, and then the suffixes
abbrev pub flags_word : ℕ → List ℕ
flags_word bits =
    mode_word bits ++ suffix bits creat (codes ",creat") ++ suffix bits excl (codes ",excl") ++ suffix bits trunc (codes ",trunc") ++ suffix bits appending
    (codes ",append")
    ++ suffix bits nonblocking (codes ",nonblock")

-- the base of an offset
abbrev pub whence_word : Whence → List ℕ
whence_word whences.Set = codes "set"
whence_word whences.Cur = codes "cur"
whence_word whences.End = codes "end"

-- a field, by its kind
abbrev pub field_word : (k : FieldKind) → Value k → List ℕ
field_word a_descriptor fd = signed_decimal fd
field_word a_position start = signed_decimal start
field_word a_count n = decimal n
field_word a_name name = name_word name
field_word a_payload bytes = data_word bytes
field_word some_flags bits = flags_word bits
field_word a_whence whence = whence_word whence

-- fields, each after a space
abbrev pub fields_text : (ks : List FieldKind) → Values ks → List ℕ
fields_text [] vs = []
fields_text (k ∷ ks) vs = codes " " ++ (field_word k vs.0 ++ fields_text ks vs.1)

-- a call, after its process: its word and its fields
unfoldable pub call_text : Call → List ℕ
call_text call = (parts call).entry.word ++ fields_text (parts call).entry.fields (parts call).values

-- an act, after the actor
abbrev pub act_text : Act → List ℕ
act_text acts.Join = codes "join"
act_text acts.Attach = codes "attach"
act_text (acts.Call call) = call_text call
act_text acts.Resume = codes "resume"
act_text acts.Exit = codes "exit"
act_text acts.CloseRun = codes "close-run"

-- the actor: only the closing has the house
abbrev pub actor_word : ℕ → Act → List ℕ
actor_word actor acts.CloseRun = codes "house"
actor_word actor other = process_word actor

-- what a file is
abbrev pub kind_word : FileType → List ℕ
kind_word kinds.Regular = codes "regular"
kind_word kinds.Fifo = codes "fifo"
kind_word kinds.Pipe = codes "pipe"

-- the name of an error (XSH 2.3)
abbrev pub error_word : Errno → List ℕ
error_word errors.EBADF = codes "EBADF"
error_word errors.EINVAL = codes "EINVAL"
error_word errors.ESPIPE = codes "ESPIPE"
error_word errors.EFBIG = codes "EFBIG"
error_word errors.EOVERFLOW = codes "EOVERFLOW"
error_word errors.ENOENT = codes "ENOENT"
error_word errors.EEXIST = codes "EEXIST"
error_word errors.EMLINK = codes "EMLINK"
error_word errors.ENAMETOOLONG = codes "ENAMETOOLONG"
error_word errors.EMFILE = codes "EMFILE"
error_word errors.ENFILE = codes "ENFILE"
error_word errors.ENOSPC = codes "ENOSPC"
error_word errors.EAGAIN = codes "EAGAIN"
error_word errors.EPIPE = codes "EPIPE"
error_word errors.ENXIO = codes "ENXIO"
error_word errors.ESRCH = codes "ESRCH"

-- what fstat tells
abbrev pub stat_text : Stat → List ℕ
stat_text stat = kind_word stat.kind ++ codes " " ++ decimal stat.size ++ codes " " ++ decimal stat.links

-- a reply: ok, a number, data, two numbers, what fstat tells, or an error
abbrev pub reply_text : Reply → List ℕ
reply_text replies.Done = codes "ok"
reply_text (replies.Number n) = decimal n
reply_text (replies.Data bytes) = data_word bytes
reply_text (replies.Pair first second) = decimal first ++ codes " " ++ decimal second
reply_text (replies.Stat stat) = stat_text stat
reply_text (replies.Error errno) = codes "error " ++ error_word errno

-- an outcome: a reply, or how much a call has moved that waits
abbrev pub outcome_text : Outcome → List ℕ
outcome_text (outcomes.Reply reply) = reply_text reply
outcome_text (outcomes.Parked moved) = codes "parked " ++ decimal moved
outcome_text (outcomes.Part moved) = codes "part " ++ decimal moved

-- a record's line: the place, the actor, the act, = and the outcome
abbrev pub record_line : ℕ → Record → List ℕ
record_line place r = decimal place ++ codes " " ++ actor_word r.actor r.act ++ codes " " ++ act_text r.act ++ codes " = " ++ outcome_text r.outcome ++ codes
    "\n"

-- an act of a script, after the actor
abbrev pub script_act_text : ScriptAct → List ℕ
script_act_text scripts.Join = codes "join"
script_act_text (scripts.Attach process) = codes "attach"
script_act_text (scripts.Call process call) = call_text call
script_act_text (scripts.Resume process) = codes "resume"
script_act_text (scripts.Exit process) = codes "exit"
script_act_text scripts.CloseRun = codes "close-run"

-- the actor of an act of a script: only the closing has the house
abbrev pub script_actor_word : ℕ → ScriptAct → List ℕ
script_actor_word actor scripts.CloseRun = codes "house"
script_actor_word actor other = process_word actor

-- the line of a script in which an act is written: its process, where it has one, and the act
abbrev pub script_line : ScriptAct → List ℕ
script_line scripts.Join = script_act_text scripts.Join
script_line (scripts.Attach process) = process_word process ++ codes " " ++ script_act_text (scripts.Attach process)
script_line (scripts.Call process call) = process_word process ++ codes " " ++ script_act_text (scripts.Call process call)
script_line (scripts.Resume process) = process_word process ++ codes " " ++ script_act_text (scripts.Resume process)
script_line (scripts.Exit process) = process_word process ++ codes " " ++ script_act_text (scripts.Exit process)
script_line scripts.CloseRun = script_act_text scripts.CloseRun

-- what a script asks for, where a run has this act of this actor
abbrev pub script_act : ℕ → Act → ScriptAct
script_act actor acts.Join = scripts.Join
script_act actor acts.Attach = scripts.Attach actor
script_act actor (acts.Call call) = scripts.Call actor call
script_act actor acts.Resume = scripts.Resume actor
script_act actor acts.Exit = scripts.Exit actor
script_act actor acts.CloseRun = scripts.CloseRun

-- the line of a script that asks for an act
abbrev pub act_line : ℕ → Act → List ℕ
act_line actor act = script_line (script_act actor act) ++ codes "\n"

-- the name of a refusal that is not recorded
abbrev pub refusal_word : Refusal → List ℕ
refusal_word refusals.NoMemory = codes "NoMemory"
refusal_word refusals.RunFull = codes "RunFull"
refusal_word refusals.Waiting = codes "Waiting"
refusal_word refusals.NotHere = codes "NotHere"
refusal_word (refusals.Foreign seen len) = codes "Foreign"

-- the line of an act that isn't recorded: - in place of the place
abbrev pub refused_line : ℕ → ScriptAct → Refusal → List ℕ
refused_line actor act refusal =
    codes "- " ++ script_actor_word actor act ++ codes " " ++ script_act_text act ++ codes " = refused " ++ refusal_word refusal ++ codes "\n"

-- the line of an act that records nothing, since it has nothing to do
abbrev pub still_line : ℕ → ScriptAct → List ℕ
still_line actor act = codes "- " ++ script_actor_word actor act ++ codes " " ++ script_act_text act ++ codes " = still\n"

-- the last line: the records, and the bytes in and out
abbrev pub totals_line : ℕ → ℕ → ℕ → List ℕ
totals_line records bytes_in bytes_out = codes "records " ++ decimal records ++ codes " in " ++ decimal bytes_in ++ codes " out " ++ decimal bytes_out ++ codes
    "\n"
