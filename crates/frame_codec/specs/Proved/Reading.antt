-- Reading a payload from left to right (own).
use Rattle.std.specs.Prelude.{◌≡◌, ℕ, ◌==◌, nat_lt, Bool, List, [], ◌∷◌, length, take, drop, Option, Some, None, Result, Ok, Err, if◌then◌else◌}
use Rattle.std.specs.Int.{Width, w32, byte_len, from_be_bytes}
use Rattle.frame_codec.specs.declared.fault.PayloadFault.{PayloadFault}
use Rattle.frame_codec.specs.declared.fault.PayloadFault.TheVariants as faults

infixl 10 ◌>>=◌
-- one step, and then another, unless the first fails
abbrev pub ◌>>=◌ : {A B : Type 0} → Option A → (A → Option B) → Option B
(Some x) >>= f = f x
None >>= f = None

-- a fault, where that is what was read
abbrev pub Fails : {Y : Type 0} → PayloadFault → Option Y → Type 0
Fails faults.NoMemory read = Unit {0}
Fails faults.Malformed read = read ≡ None

-- what a reader gives is what is read, unless memory ran out
abbrev pub Gives : {X Y : Type 0} → (X → Y) → Result X PayloadFault → Option Y → Type 0
Gives view (Ok x) read = read ≡ Some (view x)
Gives view (Err e) read = Fails e read

-- what takes a value from the front of bytes and leaves those after it
abbrev pub Reading : Type 0 → Type 0
Reading A = List ℕ → Option (A × List ℕ)

-- a value that takes no bytes
abbrev pub lone : {A : Type 0} → A → Reading A
lone value bytes = Some (value, bytes)

-- a value that is made of what is read
abbrev pub as_at : {A B : Type 0} → Reading A → (A → B) → Reading B
as_at read make bytes = read bytes >>= λ x. Some (make x.0, x.1)

-- two values, one after the other
abbrev pub two_at : {A B : Type 0} → Reading A → Reading B → Reading (A × B)
two_at read other bytes = read bytes >>= λ x. other x.1 >>= λ y. Some ((x.0, y.0), y.1)

-- a value, if it passes a test
abbrev pub tested : {A : Type 0} → (A → Bool) → Reading A → Reading A
tested test read bytes = read bytes >>= λ x. if test x.0 then Some x else None

-- so many bytes
abbrev pub front_at : ℕ → Reading (List ℕ)
front_at n bytes = if nat_lt (length bytes) n then None else Some (take n bytes, drop n bytes)

-- a number of fixed width
unfoldable pub number_at : Width → Reading ℕ
number_at w bytes = front_at (byte_len w) bytes >>= λ x. Some (from_be_bytes w x.0, x.1)

-- a byte that has a value
abbrev pub byte_at : {A : Type 0} → (ℕ → Option A) → Reading A
byte_at value [] = None
byte_at value (b ∷ bytes) = value b >>= λ x. Some (x, bytes)

-- bytes after their count, which is at most this
abbrev pub counted_at : ℕ → Reading (List ℕ)
counted_at most bytes = number_at w32 bytes >>= λ count. if nat_lt most count.0 then None else front_at count.0 count.1

-- what is read after a byte that says so
abbrev pub Row : Type 0 → Type 0
Row A = ℕ × Reading A

-- what the row of a byte reads
abbrev pub one_of : {A : Type 0} → List (Row A) → ℕ → Reading A
one_of [] b bytes = None
one_of (row ∷ rows) b bytes = if b == row.0 then row.1 bytes else one_of rows b bytes

-- a byte, and what its row reads
abbrev pub tagged : {A : Type 0} → List (Row A) → Reading A
tagged rows [] = None
tagged rows (b ∷ bytes) = one_of rows b bytes

-- what the row of a byte reads, or what another reading does where no row has the byte
abbrev pub one_or : {A : Type 0} → List (Row A) → Reading A → ℕ → Reading A
one_or [] other b bytes = other (b ∷ bytes)
one_or (row ∷ rows) other b bytes = if b == row.0 then row.1 bytes else one_or rows other b bytes

-- a byte, and what its row reads, or what another reading does from this byte on
abbrev pub tagged_or : {A : Type 0} → List (Row A) → Reading A → Reading A
tagged_or rows other [] = None
tagged_or rows other (b ∷ bytes) = one_or rows other b bytes

-- a value, if nothing is left
abbrev pub whole : {A : Type 0} → A → List ℕ → Option A
whole x [] = Some x
whole x (b ∷ bytes) = None

-- the value of a whole payload
abbrev pub payload_at : {A : Type 0} → Reading A → List ℕ → Option A
payload_at read bytes = read bytes >>= λ x. whole x.0 x.1
