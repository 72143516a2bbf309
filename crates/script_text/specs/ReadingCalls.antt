-- Reading the calls and acts of a script, word by word (own).
use Rattle.std.specs.Prelude.{ℕ, ◌+◌, ◌-◌, List, [], ◌∷◌, length, codes, Option, Some, None, Result, Ok, Err, if◌then◌else◌}
use Rattle.std.specs.Str.{bytes_eq}
use Rattle.call_types.specs.CallTable.{FieldKind, a_descriptor, a_position, a_count, a_name, a_payload, some_flags, a_whence, Value, Makes, Entry, call_table}
use Rattle.call_types.specs.declared.call.Call.{Call}
use Rattle.call_types.specs.declared.whence.Whence.{Whence}
use Rattle.call_types.specs.declared.whence.Whence.TheVariants as whences
use Rattle.call_types.specs.declared.act.ScriptAct.{ScriptAct}
use Rattle.call_types.specs.declared.act.ScriptAct.TheVariants as acts
use Rattle.script_text.specs.declared.fault.Expected.{Expected}
use Rattle.script_text.specs.declared.fault.Expected.TheVariants as expect
use Rattle.script_text.specs.Reading.{◌>>=◌, BadWord, Unread, Word, word_at, field, ended}
use Rattle.script_text.specs.ReadingNumbers.{count_of, process_of, descriptor_of, position_of}
use Rattle.script_text.specs.ReadingNames.{name_of}
use Rattle.script_text.specs.ReadingData.{data_of}
use Rattle.script_text.specs.ReadingFlags.{flags_of}

-- the base of an offset: set, cur or end
abbrev pub whence_of : List ℕ → Option Whence
whence_of word =
    if bytes_eq word (codes "set") then Some whences.Set
    else if bytes_eq word (codes "cur") then Some whences.Cur
    else if bytes_eq word (codes "end") then Some whences.End
    else None

-- a word as a field of a kind
abbrev pub value_of : (k : FieldKind) → List ℕ → Option (Value k)
value_of a_descriptor word = descriptor_of word
value_of a_position word = position_of word
value_of a_count word = count_of word
value_of a_name word = name_of word
value_of a_payload word = data_of word
value_of some_flags word = flags_of word
value_of a_whence word = whence_of word

-- what is said to be expected of a field of a kind
abbrev pub expected_of : FieldKind → Expected
expected_of a_descriptor = expect.Descriptor
expected_of a_position = expect.Position
expected_of a_count = expect.Count
expected_of a_name = expect.Name
expected_of a_payload = expect.Data
expected_of some_flags = expect.Flags
expected_of a_whence = expect.Whence

-- fields of these kinds, one word each, and then the end of the line
abbrev pub fields_at : (ks : List FieldKind) → Makes ks → Unread → Result Call BadWord
fields_at [] make left = ended left >>= λ end. Ok make
fields_at (k ∷ ks) make left = field (expected_of k) (value_of k) left >>= λ value. fields_at ks (make value.0) value.1

-- the call of an entry, after its word
abbrev pub entry_at : Entry → Unread → Result Call BadWord
entry_at e left = fields_at e.fields e.make left

-- the call of the first entry that a word names; a word that names none isn't allowed
abbrev pub one_of : List Entry → Word → Result Call BadWord
one_of [] w = Err (record { remaining = w.remaining; expected = expect.Act })
one_of (e ∷ es) w = if bytes_eq w.text e.word then entry_at e w.after else one_of es w

-- a call, by its first word
abbrev pub named_call : Word → Result Call BadWord
named_call w = one_of call_table w

-- an act whose word is the last of its line
abbrev pub last_word : ScriptAct → Unread → Result ScriptAct BadWord
last_word act left = do
  end ← ended left
  Ok act

-- a process's act, by the word after the process: attach, resume, exit or a call
abbrev pub process_act : ℕ → Word → Result ScriptAct BadWord
process_act process w =
    if bytes_eq w.text (codes "attach") then last_word (acts.Attach process) w.after
    else if bytes_eq w.text (codes "resume") then last_word (acts.Resume process) w.after
    else if bytes_eq w.text (codes "exit") then last_word (acts.Exit process) w.after
    else named_call w >>= λ call. Ok (acts.Call process call)

-- an act that has no process in front: join or close-run; no other word is allowed
abbrev pub bare_act : Word → Result ScriptAct BadWord
bare_act w =
    if bytes_eq w.text (codes "join") then last_word acts.Join w.after
    else if bytes_eq w.text (codes "close-run") then last_word acts.CloseRun w.after
    else Err (record { remaining = w.remaining; expected = expect.Actor })

-- the act of a process, if the first word is one, or else of that word
abbrev pub act_of : Option ℕ → Word → Result ScriptAct BadWord
act_of (Some process) w = word_at expect.Act w.after >>= λ word. process_act process word
act_of None w = bare_act w

-- the act of a line, by its first word
abbrev pub act_at : Unread → Result ScriptAct BadWord
act_at left = do
  word ← word_at expect.Actor left
  act_of (process_of word.text) word

-- where a line is no act: a column, from 1, and what could stand there
pub record BadColumn : Type 0 where
  pub column : ℕ
  pub expected : Expected

-- a fault where so many bytes remain, as a column
abbrev pub with_column : ℕ → Result ScriptAct BadWord → Result ScriptAct BadColumn
with_column len (Ok act) = Ok act
with_column len (Err bad) = Err (record { column = len - bad.remaining + 1; expected = bad.expected })

-- the act that a line spells, or the column of the first word that isn't allowed there, or one past the last byte where a word is missing, and
-- what could stand there
abbrev pub reading : List ℕ → Result ScriptAct BadColumn
reading line = with_column (length line) (act_at (Some line))
