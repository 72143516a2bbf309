-- A record as a JSON object, on a line of its own (own).
use Rattle.std.specs.Prelude.{ℕ, ℤ, ◌*◌, ◌==◌, nat_lt, Bool, true, false, not, ◌&&◌, ◌||◌, if◌then◌else◌}
use Rattle.std.specs.Prelude.{List, [], ◌∷◌, ◌++◌, codes, decimal, Option, Some, None}
use Rattle.std.specs.Fmt.{signed_decimal}
use Rattle.std.specs.List.{flat_map}
use Rattle.std.specs.Char.{is_ascii_graphic}
use Rattle.hex.specs.Hex.{encode_lower}
use Rattle.call_types.specs.declared.call.Call.{Call}
use Rattle.call_types.specs.declared.call.Call.TheVariants as calls
use Rattle.call_types.specs.CallTable.{parts}
use Rattle.call_types.specs.Flags.{nonblocking}
use Rattle.call_types.specs.declared.act.Act.{Act}
use Rattle.call_types.specs.declared.act.Act.TheVariants as acts
use Rattle.call_types.specs.declared.act.Record.{Record}
use Rattle.call_types.specs.declared.outcome.Outcome.{Outcome}
use Rattle.call_types.specs.declared.outcome.Outcome.TheVariants as outcomes
use Rattle.call_types.specs.declared.outcome.Reply.{Reply}
use Rattle.call_types.specs.declared.outcome.Reply.TheVariants as replies
use Rattle.call_types.specs.declared.outcome.Stat.{Stat}
use Rattle.script_text.specs.Lines.{error_word, kind_word, whence_word, flags_word}

-- ---- objects and strings

-- the byte of a "
abbrev pub quote : ℕ
quote = 34

-- the byte of a %
abbrev pub percent : ℕ
percent = 37

-- the byte of a \
abbrev pub backslash : ℕ
backslash = 92

-- a JSON string of a text in which no byte needs a \ before it
abbrev pub quoted : List ℕ → List ℕ
quoted text = codes "\"" ++ text ++ codes "\""

-- a key, and what parts it from its value
abbrev pub json_key : List ℕ → List ℕ
json_key key = codes "\"" ++ key ++ codes "\":"

-- a member, and the comma before the next one
abbrev pub member : List ℕ → List ℕ → List ℕ
member key value = json_key key ++ value ++ codes ","

-- an object of one member
abbrev pub json_object : List ℕ → List ℕ → List ℕ
json_object key value = codes "{" ++ json_key key ++ value ++ codes "}"

-- ---- names, data and flags

-- whether a byte of a name stands for itself: 33 to 126, and no %
abbrev pub is_plain : ℕ → Bool
is_plain byte = is_ascii_graphic byte && not (byte == percent)

-- any byte by a % and its two digits
abbrev pub coded_byte : ℕ → List ℕ
coded_byte byte = codes "%" ++ encode_lower (byte ∷ [])

-- a byte of a name as scripts spell it
abbrev pub name_byte : ℕ → List ℕ
name_byte byte = if is_plain byte then byte ∷ [] else coded_byte byte

-- a name as scripts spell it: % alone is the empty one
abbrev pub name_word : List ℕ → List ℕ
name_word [] = codes "%"
name_word (byte ∷ bytes) = flat_map name_byte (byte ∷ bytes)

-- whether a byte of a JSON string has a \ before it: a " and a \
abbrev pub needs_backslash : ℕ → Bool
needs_backslash byte = (byte == quote) || (byte == backslash)

-- a byte of a JSON string
abbrev pub string_byte : ℕ → List ℕ
string_byte byte = if needs_backslash byte then codes "\\" ++ byte ∷ [] else byte ∷ []

-- a name: the JSON string of its spelling in scripts
abbrev pub name_value : List ℕ → List ℕ
name_value name = quoted (flat_map string_byte (name_word name))

-- data: two lower case hexadecimal digits for each byte
abbrev pub data_value : List ℕ → List ℕ
data_value bytes = quoted (encode_lower bytes)

-- ---- members of acts

-- a number of a member
abbrev pub number_member : List ℕ → ℕ → List ℕ
number_member key n = member key (decimal n)

-- a descriptor, position, offset or length
abbrev pub signed_member : List ℕ → ℤ → List ℕ
signed_member key n = member key (signed_decimal n)

-- a word that needs no \ in it
abbrev pub word_member : List ℕ → List ℕ → List ℕ
word_member key word = member key (quoted word)

-- a name
abbrev pub name_member : List ℕ → List ℕ → List ℕ
name_member key name = member key (name_value name)

-- the descriptor that a call is on
abbrev pub fd_member : ℤ → List ℕ
fd_member fd = signed_member (codes "fd") fd

-- the data that a call writes
abbrev pub data_member : List ℕ → List ℕ
data_member bytes = member (codes "data") (data_value bytes)

-- the flags of an open or a setfl
abbrev pub flags_member : ℕ → List ℕ
flags_member bits = word_member (codes "flags") (flags_word bits)

-- the two names of a link or a rename
abbrev pub names_members : List ℕ → List ℕ → List ℕ
names_members old new = name_member (codes "old") old ++ name_member (codes "new") new

-- the fields of a call, in the order of a script's line
abbrev pub field_members : Call → List ℕ
field_members (calls.Open name flags) = name_member (codes "name") name ++ flags_member flags.0
field_members (calls.Close fd) = fd_member fd
field_members (calls.Read fd count) = fd_member fd ++ number_member (codes "count") count
field_members (calls.Write fd bytes) = fd_member fd ++ data_member bytes
field_members (calls.Pread fd start count) = fd_member fd ++ signed_member (codes "pos") start ++ number_member (codes "count") count
field_members (calls.Pwrite fd start bytes) = fd_member fd ++ signed_member (codes "pos") start ++ data_member bytes
field_members (calls.Lseek fd offset whence) = fd_member fd ++ signed_member (codes "off") offset ++ word_member (codes "whence") (whence_word whence)
field_members (calls.Ftruncate fd len) = fd_member fd ++ signed_member (codes "len") len
field_members (calls.Dup fd) = fd_member fd
field_members (calls.Dup2 fd to) = fd_member fd ++ signed_member (codes "to") to
field_members calls.Pipe = []
field_members (calls.Mkfifo name) = name_member (codes "name") name
field_members (calls.Link old new) = names_members old new
field_members (calls.Unlink name) = name_member (codes "name") name
field_members (calls.Fstat fd) = fd_member fd
field_members calls.Fork = []
field_members (calls.Getfl fd) = fd_member fd
field_members (calls.Setfl fd flags) = fd_member fd ++ flags_member flags.0
field_members (calls.Rename old new) = names_members old new

-- the word of an act, as in scripts, where it is no call
abbrev pub act_word : Act → List ℕ
act_word acts.Join = codes "join"
act_word acts.Attach = codes "attach"
act_word (acts.Call call) = (parts call).entry.word
act_word acts.Resume = codes "resume"
act_word acts.Exit = codes "exit"
act_word acts.CloseRun = codes "close-run"

-- the fields of an act: only calls have some
abbrev pub act_fields : Act → List ℕ
act_fields (acts.Call call) = field_members call
act_fields other = []

-- the word of an act and its fields
abbrev pub act_members : Act → List ℕ
act_members act = word_member (codes "call") (act_word act) ++ act_fields act

-- the actor: only the closing has the house
abbrev pub actor_value : ℕ → Act → List ℕ
actor_value actor acts.CloseRun = quoted (codes "house")
actor_value actor other = decimal actor

-- ---- outcomes

-- the two ends of a pipe, the reading one first
abbrev pub pair_value : ℕ → ℕ → List ℕ
pair_value first second = codes "[" ++ decimal first ++ codes "," ++ decimal second ++ codes "]"

-- what fstat tells
abbrev pub stat_value : Stat → List ℕ
stat_value stat =
    codes "{" ++ word_member (codes "kind") (kind_word stat.kind) ++ number_member (codes "size") stat.size
    ++ json_key (codes "links") ++ decimal stat.links ++ codes "}"

-- a reply
abbrev pub reply_object : Reply → List ℕ
reply_object replies.Done = json_object (codes "done") (codes "true")
reply_object (replies.Number n) = json_object (codes "number") (decimal n)
reply_object (replies.Data bytes) = json_object (codes "data") (data_value bytes)
reply_object (replies.Pair first second) = json_object (codes "pair") (pair_value first second)
reply_object (replies.Stat stat) = json_object (codes "stat") (stat_value stat)
reply_object (replies.Error errno) = json_object (codes "error") (quoted (error_word errno))

-- an outcome: a reply, or how much a call has moved that waits
abbrev pub outcome_object : Outcome → List ℕ
outcome_object (outcomes.Reply reply) = reply_object reply
outcome_object (outcomes.Parked moved) = json_object (codes "parked") (decimal moved)
outcome_object (outcomes.Part moved) = json_object (codes "part") (decimal moved)

-- the flags that a number is, if it has no bit past that of nonblock, the last one
abbrev pub as_flags : ℕ → Option ℕ
as_flags n = if nat_lt n (2 * nonblocking) then Some n else None

-- the flags that an outcome tells, if it is a reply with a number
abbrev pub flags_in : Outcome → Option ℕ
flags_in (outcomes.Reply (replies.Number n)) = as_flags n
flags_in other = None

-- whether an act asks for flags
abbrev pub asks_for_flags : Act → Bool
asks_for_flags (acts.Call (calls.Getfl fd)) = true
asks_for_flags other = false

-- the flags that a record tells, if it is a getfl's
abbrev pub told_flags : Record → Option ℕ
told_flags r = if asks_for_flags r.act then flags_in r.outcome else None

-- flags by their words, or else the outcome
abbrev pub told_object : Option ℕ → Outcome → List ℕ
told_object (Some bits) outcome = json_object (codes "flags") (quoted (flags_word bits))
told_object None outcome = outcome_object outcome

-- ---- records

-- the start of an object: the place of a record, and the process
abbrev pub front_text : ℕ → ℕ → Act → List ℕ
front_text place actor act = codes "{" ++ number_member (codes "place") place ++ member (codes "process") (actor_value actor act)

-- a record's line: its place, who did what, and what came of it
abbrev pub json_line : ℕ → Record → List ℕ
json_line place r = front_text place r.actor r.act ++ act_members r.act ++ json_key (codes "outcome") ++ told_object (told_flags r) r.outcome ++ codes "}\n"
