-- Reading a line from left to right, with the first fault that is met: how many bytes of the line remain there, and what could
-- stand there (own).
use Rattle.std.specs.Prelude.{◌≡◌, ℕ, ◌==◌, List, [], ◌∷◌, length, codes, Option, Some, None, Result, Ok, Err, if◌then◌else◌}
use Rattle.script_text.specs.declared.fault.Expected.{Expected}
use Rattle.script_text.specs.declared.fault.Expected.TheVariants as expect
use Rattle.script_text.specs.declared.fault.WordFault.{WordFault}
use Rattle.script_text.specs.declared.fault.WordFault.TheVariants as faults

-- a word that isn't allowed, or is missing: how many bytes of the line remain there, and what could stand there
pub record BadWord : Type 0 where
  pub remaining : ℕ
  pub expected : Expected

-- a value is read on from, a fault ends the reading
infixl 10 ◌>>=◌
abbrev pub ◌>>=◌ : {A B E : Type 0} → Result A E → (A → Result B E) → Result B E
(Ok x) >>= f = f x
(Err e) >>= f = Err e

-- what two values make, where there are both
abbrev pub both : {A B C : Type 0} → (A → B → C) → Option A → Option B → Option C
both f None y = None
both f (Some x) None = None
both f (Some x) (Some y) = Some (f x y)

-- a returned fault is the one that reading gives, unless memory ran out
abbrev pub Fails : {Y : Type 0} → WordFault → Result Y BadWord → Type 0
Fails faults.NoMemory read = Unit {0}
Fails (faults.At remaining expected) read = read ≡ Err (record { remaining = remaining; expected = expected })

-- the value, or that fault
abbrev pub Gives : {X Y : Type 0} → (X → Y) → Result X WordFault → Result Y BadWord → Type 0
Gives view (Ok x) read = read ≡ Ok (view x)
Gives view (Err e) read = Fails e read

-- the byte of a text of one
abbrev pub byte_of : List ℕ → ℕ
byte_of [] = 0
byte_of (c ∷ cs) = c

-- the byte between two words
abbrev pub space : ℕ
space = byte_of (codes " ")

-- the byte that ends a line
abbrev pub line_feed : ℕ
line_feed = byte_of (codes "\n")

-- what is left of a line after a space, or of a script after an LF; None where it has ended
abbrev pub Unread : Type 0
Unread = Option (List ℕ)

-- the same cut, with one more byte in front
abbrev pub onto : ℕ → List ℕ × Unread → List ℕ × Unread
onto c parts = (c ∷ parts.0, parts.1)

-- the bytes before the first that is mark, and what is left after it
abbrev pub cut : ℕ → List ℕ → List ℕ × Unread
cut mark [] = ([], None)
cut mark (c ∷ cs) = if c == mark then ([], Some cs) else onto c (cut mark cs)

-- a word, how many bytes of the line remain where it begins, and what is left after it
pub record Word : Type 0 where
  pub text : List ℕ
  pub remaining : ℕ
  pub after : Unread

-- the next word; what is expected may be missing
abbrev pub word_at : Expected → Unread → Result Word BadWord
word_at expected None = Err (record { remaining = 0; expected = expected })
word_at expected (Some bytes) = Ok (record { text = (cut space bytes).0; remaining = length bytes; after = (cut space bytes).1 })

-- the value of a word, with what is left after it; a word without a value isn't allowed
abbrev pub valued : {A : Type 0} → Expected → Option A → ℕ → Unread → Result (A × Unread) BadWord
valued expected None remaining after = Err (record { remaining = remaining; expected = expected })
valued expected (Some value) remaining after = Ok (value, after)

-- a line ends where its act does
abbrev pub ended : Unread → Result (Unit {0}) BadWord
ended None = Ok tt
ended (Some bytes) = Err (record { remaining = length bytes; expected = expect.End })

-- the next word as a value, with what is left after it
abbrev pub field : {A : Type 0} → Expected → (List ℕ → Option A) → Unread → Result (A × Unread) BadWord
field expected value left = word_at expected left >>= λ word. valued expected (value word.text) word.remaining word.after
