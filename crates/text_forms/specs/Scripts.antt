-- Scripts for people: lines that may have comments and strings, the plain lines that they stand for, and plain lines shown with strings (own).
use Rattle.std.specs.Prelude.{ℕ, ◌+◌, ◌-◌, ◌*◌, ◌==◌, nat_eq, nat_le, nat_lt, Bool, true, false, ◌&&◌, ◌||◌, not, List, [], ◌∷◌, ◌++◌, length}
use Rattle.std.specs.Prelude.{take, drop, map, codes, slice_index_or, Option, Some, None, if◌then◌else◌}
use Rattle.std.specs.List.{flat_map, list_all, starts_with, suffix_len, slice_split, join_with_byte}
use Rattle.text_forms.specs.declared.scripts.Lines.{Lines}
use Rattle.text_forms.specs.declared.scripts.Lines.TheVariants as kinds
use Rattle.text_forms.specs.declared.scripts.marks.Sought.{Sought}
use Rattle.text_forms.specs.declared.scripts.marks.Sought.TheVariants as sought
use Rattle.script_text.specs.Lines.{hex_pair}
use Rattle.script_text.specs.Reading.{byte_of, space, line_feed}
use Rattle.script_text.specs.ReadingNumbers.{hex_digit}

-- ---- bytes

-- the byte that begins a comment
abbrev pub hash : ℕ
hash = byte_of (codes "#")

-- the byte before and after a string
abbrev pub quote : ℕ
quote = byte_of (codes "\"")

-- the byte that makes another of the byte after it
abbrev pub backslash : ℕ
backslash = byte_of (codes "\\")

-- ---- the bytes of a string

-- whether a byte is one from 32 to 126
abbrev pub is_printable : ℕ → Bool
is_printable byte = nat_le 32 byte && nat_le byte 126

-- the byte that a byte of a string is by itself
abbrev pub itself : ℕ → Option ℕ
itself c = if is_printable c && not (c == quote) && not (c == backslash) then Some c else None

-- the byte that a byte after a backslash makes
abbrev pub escaped : ℕ → Option ℕ
escaped c =
    if c == byte_of (codes "n") then Some 10 else if c == byte_of (codes "t") then Some 9 else if c == byte_of (codes "r") then Some 13
    else if c == quote then Some quote else if c == backslash then Some backslash else None

-- how a byte is spelled in a string
abbrev pub spelled : ℕ → List ℕ
spelled byte =
    if byte == 10 then codes "\\n" else if byte == 9 then codes "\\t" else if byte == 13 then codes "\\r"
    else if byte == quote then codes "\\\"" else if byte == backslash then codes "\\\\" else byte ∷ []

-- whether a byte can stand in a string
abbrev pub is_text : ℕ → Bool
is_text byte = is_printable byte || byte == 9 || byte == 10 || byte == 13

-- a byte that can stand in a string
abbrev pub as_text : ℕ → Option ℕ
as_text byte = if is_text byte then Some byte else None

-- the byte of a digit in front and another one, where it can stand in a string
abbrev pub text_of : Option ℕ → Option ℕ → Option ℕ
text_of None low = None
text_of (Some high) None = None
text_of (Some high) (Some low) = as_text (high * 16 + low)

-- a first byte and the others, with what is left after these; where there is no first byte, all is left
abbrev pub going : Option ℕ → List ℕ × List ℕ → List ℕ → List ℕ × List ℕ
going None others all = ([], all)
going (Some byte) others all = (byte ∷ others.0, others.1)

-- the bytes of a string that begins here, and what is left from the first byte on that is none of it
abbrev pub inside : List ℕ → List ℕ × List ℕ
inside [] = ([], [])
inside (c ∷ []) = going (itself c) ([], []) (c ∷ [])
inside (c ∷ d ∷ cs) = if c == backslash then going (escaped d) (inside cs) (c ∷ d ∷ cs) else going (itself c) (inside (d ∷ cs)) (c ∷ d ∷ cs)

-- the bytes that pairs of digits make from here on, as far as they can stand in a string, and what is left after these
abbrev pub paired : List ℕ → List ℕ × List ℕ
paired [] = ([], [])
paired (c ∷ []) = ([], c ∷ [])
paired (c ∷ d ∷ cs) = going (text_of (hex_digit c) (hex_digit d)) (paired cs) (c ∷ d ∷ cs)

-- whether a word ends here
abbrev pub ends_word : List ℕ → Bool
ends_word [] = true
ends_word (c ∷ cs) = c == space

-- whether a string ends here, and its word with it
abbrev pub closes : List ℕ → Bool
closes [] = false
closes (c ∷ cs) = c == quote && ends_word cs

-- whether a word begins here that a string can spell: an x, and at least one pair of digits
abbrev pub is_text_word : List ℕ → Bool
is_text_word [] = false
is_text_word (c ∷ cs) = c == byte_of (codes "x") && nat_lt 0 (length (paired cs).0) && ends_word (paired cs).1

-- ---- places in a line

-- whether this byte stands here
abbrev pub begins_with : ℕ → List ℕ → Bool
begins_with mark [] = false
begins_with mark (c ∷ cs) = c == mark

-- whether what is sought stands here: a comment, a comment or a quote, or a word that a string can spell
abbrev pub is_at : Sought → List ℕ → Bool
is_at sought.Comment left = begins_with hash left
is_at sought.AnyMark left = begins_with hash left || begins_with quote left
is_at sought.TextWord left = is_text_word left

-- what stands from the first place on at which a word begins and which is sought; whether a word begins in front is told
abbrev pub from_first : Sought → Bool → List ℕ → Option (List ℕ)
from_first what begins [] = None
from_first what begins (c ∷ cs) = if begins && is_at what (c ∷ cs) then Some (c ∷ cs) else from_first what (c == space) cs

-- what a place gives, where there is one
abbrev pub then_from : Option (List ℕ) → (List ℕ → Option (List ℕ)) → Option (List ℕ)
then_from None next = None
then_from (Some left) next = next left

-- what stands after the first space
abbrev pub after_word : List ℕ → Option (List ℕ)
after_word [] = None
after_word (c ∷ cs) = if c == space then Some cs else after_word cs

-- whether the word of a call that gives or takes data, or of its resume, stands here, and a space after it
abbrev pub opens_data : List ℕ → Bool
opens_data left =
    starts_with nat_eq left (codes "write ") || starts_with nat_eq left (codes "pwrite ") || starts_with nat_eq left (codes "read ")
    || starts_with nat_eq left (codes "pread ") || starts_with nat_eq left (codes "resume ")

-- what stands after such a word
abbrev pub after_call : List ℕ → Option (List ℕ)
after_call left = if opens_data left then after_word left else None

-- what stands after the second word of a line of acts, or the third one of a line of records, where that is such a word
abbrev pub data_part : Lines → List ℕ → Option (List ℕ)
data_part kinds.Acts line = then_from (after_word line) after_call
data_part kinds.Records line = then_from (then_from (after_word line) after_word) after_call

-- what stands in a line before what is left of it
abbrev pub ahead_of : List ℕ → List ℕ → List ℕ
ahead_of left line = take (length line - length left) line

-- ---- plain lines

-- whether a byte is a space
abbrev pub is_space : ℕ → Bool
is_space c = c == space

-- the bytes without the spaces at their end
abbrev pub trimmed : List ℕ → List ℕ
trimmed bytes = take (length bytes - suffix_len is_space bytes) bytes

-- a line without the comment that stands in it from there on, or as it is
abbrev pub without : Option (List ℕ) → List ℕ → List ℕ
without None line = line
without (Some comment) line = trimmed (ahead_of comment line)

-- a line without its comment, and without the spaces before it
abbrev pub uncommented : List ℕ → List ℕ
uncommented line = without (from_first sought.Comment true line) line

-- what stands after a quote that a string begins with
abbrev pub opened : List ℕ → Option (List ℕ)
opened [] = None
opened (c ∷ cs) = if c == quote && closes (inside cs).1 then Some cs else None

-- what stands after the first mark, where that is a quote with a string; before the data of a call only the first word can be a comment
abbrev pub string_in : List ℕ → Option (List ℕ)
string_in line = if begins_with hash line then None else then_from (then_from (data_part kinds.Acts line) (from_first sought.AnyMark true)) opened

-- how many bytes stand before the string of which this stands after its quote
abbrev pub front_length : List ℕ → List ℕ → ℕ
front_length string line = length line - length string - 1

-- the word that stands for a string
abbrev pub string_word : List ℕ → List ℕ
string_word string = codes "x" ++ flat_map hex_pair (inside string).0

-- what stands after a string in its line, without its comment
abbrev pub after_string : List ℕ → List ℕ
after_string string = uncommented (drop 1 (inside string).1)

-- a line in which the string that begins there is spelled by digits
abbrev pub plain_with : Option (List ℕ) → List ℕ → List ℕ
plain_with None line = uncommented line
plain_with (Some string) line = take (front_length string line) line ++ string_word string ++ after_string string

-- the plain line that a line stands for
abbrev pub plain_line : List ℕ → List ℕ
plain_line line = plain_with (string_in line) line

-- whether a byte ends a line
abbrev pub is_feed : ℕ → Bool
is_feed c = c == line_feed

-- a text with each line as it is shown
abbrev pub each_line : (List ℕ → List ℕ) → List ℕ → List ℕ
each_line shown text = join_with_byte line_feed (map shown (slice_split is_feed text))

-- the plain script that a script stands for
abbrev pub plain_script : List ℕ → List ℕ
plain_script text = each_line plain_line text

-- ---- columns

-- the column of a byte, by how many bytes are before a string, in the word that stands for it, after this, and in the string
abbrev pub column_from : (front word others string column : ℕ) → ℕ
column_from front word others string column =
    if nat_le column front then column else if nat_le column (front + word) then front + 1
    else if nat_le column (front + word + others + 1) then column - word + string else column

-- the column in a line of the byte at this column of its plain line
abbrev pub column_with : Option (List ℕ) → List ℕ → ℕ → ℕ
column_with None line column = column
column_with (Some string) line column =
    column_from (front_length string line) (length (string_word string)) (length (after_string string)) (length string + 2 - length (inside string).1) column

-- the same, where the line is looked for
abbrev pub line_column : List ℕ → ℕ → ℕ
line_column line column = column_with (string_in line) line column

-- the column in a text of the byte that stands at this line and column of the plain script; both count from 1
abbrev pub source_column : List ℕ → ℕ → ℕ → ℕ
source_column text line column = line_column (slice_index_or ([] ∷ slice_split is_feed text) line []) column

-- ---- lines with strings

-- a line in which a # with which a word begins is spelled by its digits, as in a NAME; whether a word begins in front is told
abbrev pub unhashed : Bool → List ℕ → List ℕ
unhashed begins [] = []
unhashed begins (c ∷ cs) = (if begins && c == hash then codes "%23" else c ∷ []) ++ unhashed (c == space) cs

-- a plain line without data that a string can spell: of one of acts no word is taken for a comment
abbrev pub without_string : Lines → List ℕ → List ℕ
without_string kinds.Acts line = unhashed true line
without_string kinds.Records line = line

-- a line in which the word that begins there is spelled as a string
abbrev pub strung_with : Lines → Option (List ℕ) → List ℕ → List ℕ
strung_with kind None line = without_string kind line
strung_with kind (Some word) line =
    ahead_of word line ++ codes "\"" ++ flat_map spelled (paired (drop 1 word)).0 ++ codes "\"" ++ (paired (drop 1 word)).1

-- a plain line, with the first word of data that a string can spell as that string; of acts it can be read again
abbrev pub strung_line : Lines → List ℕ → List ℕ
strung_line kind line = strung_with kind (then_from (data_part kind line) (from_first sought.TextWord true)) line

-- a plain text, each line so
abbrev pub strung : Lines → List ℕ → List ℕ
strung kind text = each_line (strung_line kind) text

-- ---- lines without marks

-- whether a byte begins a comment or a string
abbrev pub is_mark : ℕ → Bool
is_mark c = c == hash || c == quote

-- whether no byte of a line does
abbrev pub no_marks : List ℕ → Bool
no_marks line = list_all (λ c. not (is_mark c)) line
