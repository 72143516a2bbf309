-- Which lines spell an act, stated apart from how they are read. A number, a flag set or a first word has one
-- spelling; a name and data may have several (own).
use Rattle.std.specs.Prelude.{◌≡◌, ◌==◌, ◌≤◌, ◌<◌, ◌^◌, ◌*◌, ◌⊎◌, ℕ, List, [], ◌∷◌, ◌++◌, length, replicate, codes, decimal, IsTrue, FitsSigned}
use Rattle.std.specs.Int.{w32, w64}
use Rattle.std.specs.Fmt.{signed_decimal}
use Rattle.std.specs.List.{slice_split}
use Rattle.call_types.specs.declared.call.Call.{Call}
use Rattle.call_types.specs.CallTable.{FieldKind, a_descriptor, a_position, a_count, a_name, a_payload, some_flags, a_whence, Value, Values, Parts, parts}
use Rattle.call_types.specs.Flags.{nonblocking}
use Rattle.call_types.specs.declared.limits.TheConstants.{GIVEN_NAME_MAX, GIVEN_BYTES_MAX}
use Rattle.call_types.specs.declared.act.ScriptAct.{ScriptAct}
use Rattle.call_types.specs.declared.act.ScriptAct.TheVariants as acts
use Rattle.script_text.specs.ReadingNames.{is_plain}
use Rattle.script_text.specs.declared.script.TheConstants.{SCRIPT_MAX}
use Rattle.script_text.specs.Reading.{line_feed}
use Rattle.script_text.specs.Lines.{hex_pair, flags_word, whence_word, process_word}

-- each byte by itself, if it is plain, or by a % and its two digits
abbrev pub SpellsBytes : List ℕ → List ℕ → Type 0
SpellsBytes [] text = text ≡ []
SpellsBytes (byte ∷ bytes) text =
    ((rest : List ℕ) × IsTrue (is_plain byte) × (text ≡ byte ∷ rest) × SpellsBytes bytes rest)
    ⊎ ((rest : List ℕ) × (byte < 256) × (text ≡ codes "%" ++ (hex_pair byte ++ rest)) × SpellsBytes bytes rest)

-- a name, no longer than a call may give it; a % alone is the empty one
abbrev pub SpellsName : List ℕ → List ℕ → Type 0
SpellsName [] text = text ≡ codes "%"
SpellsName (byte ∷ bytes) text = (length (byte ∷ bytes) ≤ GIVEN_NAME_MAX) × SpellsBytes (byte ∷ bytes) text

-- each byte by its two digits
abbrev pub SpellsPairs : List ℕ → List ℕ → Type 0
SpellsPairs [] text = text ≡ []
SpellsPairs (byte ∷ bytes) text = (rest : List ℕ) × (byte < 256) × (text ≡ hex_pair byte ++ rest) × SpellsPairs bytes rest

-- an x and the digits of each byte, of as many bytes as a call may give at most
abbrev pub SpellsDigits : List ℕ → List ℕ → Type 0
SpellsDigits bytes text = (rest : List ℕ) × (length bytes ≤ GIVEN_BYTES_MAX) × (text ≡ codes "x" ++ rest) × SpellsPairs bytes rest

-- a byte, a * and how many times it stands, as often as a call may give bytes at most
abbrev pub SpellsRepeated : List ℕ → List ℕ → Type 0
SpellsRepeated bytes text = (byte : ℕ) × (count : ℕ) × (byte < 256) × (count ≤ GIVEN_BYTES_MAX) × (bytes ≡ replicate count byte) ×
    (text ≡ hex_pair byte ++ (codes "*" ++ decimal count))

-- data, in either way
abbrev pub SpellsData : List ℕ → List ℕ → Type 0
SpellsData bytes text = SpellsDigits bytes text ⊎ SpellsRepeated bytes text

-- a field, by its kind; flags have no bit past that of nonblock, the last one
abbrev pub SpellsField : (k : FieldKind) → Value k → List ℕ → Type 0
SpellsField a_descriptor fd word = (word ≡ signed_decimal fd) × FitsSigned w32 fd
SpellsField a_position start word = (word ≡ signed_decimal start) × FitsSigned w64 start
SpellsField a_count n word = (word ≡ decimal n) × (n < 2 ^ 32)
SpellsField a_name name word = SpellsName name word
SpellsField a_payload bytes word = SpellsData bytes word
SpellsField some_flags bits word = (word ≡ flags_word bits) × (bits < 2 * nonblocking)
SpellsField a_whence whence word = word ≡ whence_word whence

-- fields: a space and a word for each
abbrev pub SpellsFields : (ks : List FieldKind) → Values ks → List ℕ → Type 0
SpellsFields [] vs text = text ≡ []
SpellsFields (k ∷ ks) vs text = (word : List ℕ) × (rest : List ℕ) × SpellsField k vs.0 word × (text ≡ codes " " ++ (word ++ rest)) × SpellsFields ks vs.1 rest

-- a call's parts: the word, and then the fields
abbrev pub SpellsParts : Parts → List ℕ → Type 0
SpellsParts p text = (rest : List ℕ) × SpellsFields p.entry.fields p.values rest × (text ≡ p.entry.word ++ rest)

-- a call, after its process
abbrev pub SpellsCall : Call → List ℕ → Type 0
SpellsCall call text = SpellsParts (parts call) text

-- an act; only join and close-run have no process in front
abbrev pub SpellsAct : ScriptAct → List ℕ → Type 0
SpellsAct acts.Join line = line ≡ codes "join"
SpellsAct (acts.Attach process) line = (process < 2 ^ 32) × (line ≡ process_word process ++ codes " attach")
SpellsAct (acts.Call process call) line = (text : List ℕ) × (process < 2 ^ 32) × SpellsCall call text × (line ≡ process_word process ++ (codes " " ++ text))
SpellsAct (acts.Resume process) line = (process < 2 ^ 32) × (line ≡ process_word process ++ codes " resume")
SpellsAct (acts.Exit process) line = (process < 2 ^ 32) × (line ≡ process_word process ++ codes " exit")
SpellsAct acts.CloseRun line = line ≡ codes "close-run"

-- a line of a script: it has no act, where it is empty, or the next one
abbrev pub SpellsLine : List ScriptAct → List ScriptAct → List ℕ → Type 0
SpellsLine acts rest [] = acts ≡ rest
SpellsLine acts rest (c ∷ cs) = (act : ScriptAct) × (acts ≡ act ∷ rest) × SpellsAct act (c ∷ cs)

-- the acts of lines, in order
abbrev pub SpellsLines : List ScriptAct → List (List ℕ) → Type 0
SpellsLines acts [] = acts ≡ []
SpellsLines acts (line ∷ lines) = (rest : List ScriptAct) × SpellsLine acts rest line × SpellsLines rest lines

-- a script that is not too long: its lines are cut at each LF
abbrev pub SpellsScript : List ScriptAct → List ℕ → Type 0
SpellsScript acts text = (length text ≤ SCRIPT_MAX) × SpellsLines acts (slice_split (λ c. c == line_feed) text)
