-- The calls: each has a word in lines, a byte in request frames, and its fields. One table for both, but for an open, whose
-- flags stand before its name in a frame (own).
use Rattle.std.specs.Prelude.{ℕ, ◌+◌, ◌≤◌, ℤ, List, [], ◌∷◌, Option, None, Some, length, codes}
use Rattle.call_types.specs.declared.call.Call.{Call}
use Rattle.call_types.specs.declared.call.Call.TheVariants as calls
use Rattle.call_types.specs.declared.whence.Whence.{Whence}
use Rattle.call_types.specs.declared.limits.TheConstants.{GIVEN_NAME_MAX, GIVEN_BYTES_MAX}

-- the kinds of fields
pub data FieldKind : Type 0 where
  a_descriptor : FieldKind
  a_position : FieldKind
  a_count : FieldKind
  a_name : FieldKind
  a_payload : FieldKind
  some_flags : FieldKind
  a_whence : FieldKind

-- what a field of a kind is
abbrev pub Value : FieldKind → Type 0
Value a_descriptor = ℤ
Value a_position = ℤ
Value a_count = ℕ
Value a_name = List ℕ
Value a_payload = List ℕ
Value some_flags = ℕ
Value a_whence = Whence

-- fields of these kinds
abbrev pub Values : List FieldKind → Type 0
Values [] = Unit {0}
Values (k ∷ ks) = Value k × Values ks

-- what makes a call of such fields
abbrev pub Makes : List FieldKind → Type 0
Makes [] = Call
Makes (k ∷ ks) = Value k → Makes ks

-- a call's word, its byte and its fields, in the order of a line
pub record Entry : Type 0 where
  pub word : List ℕ
  pub byte : ℕ
  pub fields : List FieldKind
  pub make : Makes fields

abbrev pub open_entry : Entry
open_entry = record { word = codes "open"; byte = 16; fields = a_name ∷ some_flags ∷ []; make = λ name bits. calls.Open name (record { 0 = bits }) }

abbrev pub close_entry : Entry
close_entry = record { word = codes "close"; byte = 17; fields = a_descriptor ∷ []; make = calls.Close }

abbrev pub read_entry : Entry
read_entry = record { word = codes "read"; byte = 18; fields = a_descriptor ∷ a_count ∷ []; make = calls.Read }

abbrev pub write_entry : Entry
write_entry = record { word = codes "write"; byte = 19; fields = a_descriptor ∷ a_payload ∷ []; make = calls.Write }

abbrev pub pread_entry : Entry
pread_entry = record { word = codes "pread"; byte = 20; fields = a_descriptor ∷ a_position ∷ a_count ∷ []; make = calls.Pread }

abbrev pub pwrite_entry : Entry
pwrite_entry = record { word = codes "pwrite"; byte = 21; fields = a_descriptor ∷ a_position ∷ a_payload ∷ []; make = calls.Pwrite }

abbrev pub lseek_entry : Entry
lseek_entry = record { word = codes "lseek"; byte = 22; fields = a_descriptor ∷ a_position ∷ a_whence ∷ []; make = calls.Lseek }

abbrev pub ftruncate_entry : Entry
ftruncate_entry = record { word = codes "ftruncate"; byte = 23; fields = a_descriptor ∷ a_position ∷ []; make = calls.Ftruncate }

abbrev pub dup_entry : Entry
dup_entry = record { word = codes "dup"; byte = 24; fields = a_descriptor ∷ []; make = calls.Dup }

abbrev pub dup2_entry : Entry
dup2_entry = record { word = codes "dup2"; byte = 25; fields = a_descriptor ∷ a_descriptor ∷ []; make = calls.Dup2 }

abbrev pub pipe_entry : Entry
pipe_entry = record { word = codes "pipe"; byte = 26; fields = []; make = calls.Pipe }

abbrev pub mkfifo_entry : Entry
mkfifo_entry = record { word = codes "mkfifo"; byte = 27; fields = a_name ∷ []; make = calls.Mkfifo }

abbrev pub link_entry : Entry
link_entry = record { word = codes "link"; byte = 28; fields = a_name ∷ a_name ∷ []; make = calls.Link }

abbrev pub unlink_entry : Entry
unlink_entry = record { word = codes "unlink"; byte = 29; fields = a_name ∷ []; make = calls.Unlink }

abbrev pub fstat_entry : Entry
fstat_entry = record { word = codes "fstat"; byte = 30; fields = a_descriptor ∷ []; make = calls.Fstat }

abbrev pub fork_entry : Entry
fork_entry = record { word = codes "fork"; byte = 31; fields = []; make = calls.Fork }

abbrev pub getfl_entry : Entry
getfl_entry = record { word = codes "getfl"; byte = 32; fields = a_descriptor ∷ []; make = calls.Getfl }

abbrev pub setfl_entry : Entry
setfl_entry = record { word = codes "setfl"; byte = 33; fields = a_descriptor ∷ some_flags ∷ []; make = λ fd bits. calls.Setfl fd (record { 0 = bits }) }

abbrev pub rename_entry : Entry
rename_entry = record { word = codes "rename"; byte = 34; fields = a_name ∷ a_name ∷ []; make = calls.Rename }

-- the calls that are rare
abbrev pub rare_table : List Entry
rare_table = getfl_entry ∷ setfl_entry ∷ rename_entry ∷ []

-- the calls that name a position, an offset or a length, and those that are rare
abbrev pub position_table : List Entry
position_table = pread_entry ∷ pwrite_entry ∷ lseek_entry ∷ ftruncate_entry ∷ rare_table

-- the calls that are less common
abbrev pub later_table : List Entry
later_table = dup_entry ∷ dup2_entry ∷ pipe_entry ∷ mkfifo_entry ∷ link_entry ∷ unlink_entry ∷ fstat_entry ∷ fork_entry ∷ position_table

-- the calls
abbrev pub call_table : List Entry
call_table = open_entry ∷ close_entry ∷ read_entry ∷ write_entry ∷ later_table

-- an entry, and fields for it
pub record Parts : Type 0 where
  pub entry : Entry
  pub values : Values entry.fields

abbrev pub of : (e : Entry) → Values e.fields → Parts
of e vs = record { entry = e; values = vs }

-- the parts of a call
abbrev pub parts : Call → Parts
parts (calls.Open name flags) = of open_entry (name, (flags.0, tt))
parts (calls.Close fd) = of close_entry (fd, tt)
parts (calls.Read fd count) = of read_entry (fd, (count, tt))
parts (calls.Write fd bytes) = of write_entry (fd, (bytes, tt))
parts (calls.Pread fd start count) = of pread_entry (fd, (start, (count, tt)))
parts (calls.Pwrite fd start bytes) = of pwrite_entry (fd, (start, (bytes, tt)))
parts (calls.Lseek fd offset whence) = of lseek_entry (fd, (offset, (whence, tt)))
parts (calls.Ftruncate fd len) = of ftruncate_entry (fd, (len, tt))
parts (calls.Dup fd) = of dup_entry (fd, tt)
parts (calls.Dup2 fd to) = of dup2_entry (fd, (to, tt))
parts calls.Pipe = of pipe_entry tt
parts (calls.Mkfifo name) = of mkfifo_entry (name, tt)
parts (calls.Link old new) = of link_entry (old, (new, tt))
parts (calls.Unlink name) = of unlink_entry (name, tt)
parts (calls.Fstat fd) = of fstat_entry (fd, tt)
parts calls.Fork = of fork_entry tt
parts (calls.Getfl fd) = of getfl_entry (fd, tt)
parts (calls.Setfl fd flags) = of setfl_entry (fd, (flags.0, tt))
parts (calls.Rename old new) = of rename_entry (old, (new, tt))

-- a field that is a descriptor, or what the fields after it tell
abbrev pub descriptor_or : (k : FieldKind) → Value k → Option ℤ → Option ℤ
descriptor_or a_descriptor fd other = Some fd
descriptor_or k value other = other

-- the first descriptor among fields
abbrev pub descriptor_in : (ks : List FieldKind) → Values ks → Option ℤ
descriptor_in [] vs = None
descriptor_in (k ∷ ks) vs = descriptor_or k vs.0 (descriptor_in ks vs.1)

-- the descriptor that a call is on, if it is on one: the first that it names
abbrev pub descriptor_of : Call → Option ℤ
descriptor_of call = descriptor_in (parts call).entry.fields (parts call).values

-- a field that is data to write, or what the fields after it tell
abbrev pub payload_or : (k : FieldKind) → Value k → Option (List ℕ) → Option (List ℕ)
payload_or a_payload bytes other = Some bytes
payload_or k value other = other

-- the data to write among fields
abbrev pub payload_in : (ks : List FieldKind) → Values ks → Option (List ℕ)
payload_in [] vs = None
payload_in (k ∷ ks) vs = payload_or k vs.0 (payload_in ks vs.1)

-- the data that a call gives to write, if it is one that writes
abbrev pub payload_of : Call → Option (List ℕ)
payload_of call = payload_in (parts call).entry.fields (parts call).values

-- the bytes of a field in a request (own: numbers are of fixed width, and names and data have their length before them)
abbrev pub field_length : (k : FieldKind) → Value k → ℕ
field_length a_descriptor fd = 4
field_length a_position start = 8
field_length a_count n = 4
field_length a_name name = 1 + length name
field_length a_payload bytes = 4 + length bytes
field_length k value = 1

-- the most bytes of a field, with names and data as long as a call may give them
abbrev pub field_most : FieldKind → ℕ
field_most a_descriptor = 4
field_most a_position = 8
field_most a_count = 4
field_most a_name = 1 + GIVEN_NAME_MAX
field_most a_payload = 4 + GIVEN_BYTES_MAX
field_most k = 1

-- the bytes of fields in a row
abbrev pub fields_length : (ks : List FieldKind) → Values ks → ℕ
fields_length [] vs = 0
fields_length (k ∷ ks) vs = field_length k vs.0 + fields_length ks vs.1

-- none of the fields is longer than a call may give it
abbrev pub FieldsShort : (ks : List FieldKind) → Values ks → Type 0
FieldsShort [] vs = Unit {0}
FieldsShort (k ∷ ks) vs = (field_length k vs.0 ≤ field_most k) × FieldsShort ks vs.1
