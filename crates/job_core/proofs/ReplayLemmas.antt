-- From the bytes that were read to the script, and from a book's run to what a replay says of it.
use Rattle.std.proofs.Common.{◌≡◌, ℕ, ◌+◌, ◌<◌, ◌≤◌, inl, inr, List, ◌++◌, Option, None, Some, length, refl, sym, ◌∙◌, ap, subst, arith, length-append}
use Rattle.std.proofs.lemmas.List.{append-nil}
use Rattle.std.specs.Prelude.{IfSome}
use Rattle.std.specs.Io.KnownBytes.{Consumes, IsAtEnd}
use Rattle.std.proofs.lemmas.Bool.{lt-ltb}
use Rattle.script_text.specs.declared.script.TheConstants.{SCRIPT_MAX}
use Rattle.call_types.specs.declared.limits.Limits.{Limits}
use Rattle.logged_streams.specs.Streams.{LogState, LoggedWriterState}
use Rattle.job_core.specs.Reads.{ReadsFew}
use Rattle.job_core.specs.Replay.{OfInput, ReplayEnds, read_in}
use Rattle.command_line.specs.declared.spelling.Spelling.{Spelling}
use Rattle.command_line.specs.declared.spelling.Spelling.TheVariants as spelling
use Rattle.job_core.specs.Proved.Reading.{FailsToRead}
use Rattle.job_core.specs.declared.job_end.JobEnd.{JobEnd}
use Rattle.job_core.specs.declared.job_end.JobEnd.TheVariants as ended

-- two texts that are too long are read as one
read_cut : (how : Spelling) (text input : List ℕ) → SCRIPT_MAX < length text → SCRIPT_MAX < length input → read_in how text ≡ read_in how input
read_cut spelling.Plain text input long also = rw (lt-ltb 16777216 (length text) long, lt-ltb 16777216 (length input) also) refl
read_cut spelling.Text text input long also = rw (lt-ltb 16777216 (length text) long, lt-ltb 16777216 (length input) also) refl

-- all of an input that is known was read
all_read : (from to : Option (List ℕ)) (bytes : List ℕ) → Consumes from to bytes → IsAtEnd to → IfSome from (λ input. bytes ≡ input)
all_read None to bytes consumes end = tt
all_read (Some known) None bytes consumes end = absurd consumes
all_read (Some known) (Some left) bytes consumes end = sym (consumes ∙ ap (λ (x : List ℕ). bytes ++ x) end ∙ append-nil bytes)

pub read_of : (how : Spelling) (known : Option (List ℕ)) (text : List ℕ) → IfSome known (λ input. text ≡ input) →
    IfSome known (λ input. read_in how text ≡ read_in how input)
read_of how None text is = tt
read_of how (Some input) text is = ap (read_in how) is

pub whole_of : (known : Option (List ℕ)) (text : List ℕ) → IfSome known (λ input. text ≡ input) →
    IfSome known (λ input. length text ≤ SCRIPT_MAX → text ≡ input)
whole_of None text is = tt
whole_of (Some input) text is = λ short. is

pub text_read : (from to : Option (List ℕ)) (text bytes : List ℕ) → Consumes from to bytes → IsAtEnd to → text ≡ bytes → IfSome from (λ input. text ≡ input)
text_read from to text bytes consumes end is = subst (λ (x : List ℕ). IfSome from (λ input. x ≡ input)) (sym is) (all_read from to bytes consumes end)

-- more was read than a script has
pub read_of_front : (how : Spelling) (from to : Option (List ℕ)) (text bytes : List ℕ) → Consumes from to bytes → text ≡ bytes → SCRIPT_MAX < length text
    → IfSome from (λ input. read_in how text ≡ read_in how input)
read_of_front how None to text bytes consumes is long = tt
read_of_front how (Some known) None text bytes consumes is long = absurd consumes
read_of_front how (Some known) (Some left) text bytes consumes is long =
    read_cut how text known long (omega (arith, long, ap length is, ap length consumes, length-append bytes left))

pub too_long : (known : Option (List ℕ)) (text : List ℕ) → SCRIPT_MAX < length text → IfSome known (λ input. length text ≤ SCRIPT_MAX → text ≡ input)
too_long None text long = tt
too_long (Some input) text long = λ short. absurd (omega (arith, long, short))

-- a text that was not cut is the input
pub of_input : (known : Option (List ℕ)) (P : List ℕ → Type 0) (text : List ℕ) → length text ≤ 16777216 →
    IfSome known (λ input. length text ≤ 16777216 → text ≡ input) → P text
    → OfInput known P
of_input None P text short same holds = (text, tt, holds)
of_input (Some input) P text short same holds = (text, same short, holds)

-- ---- what was not read

pub unread_ends : (limits : Limits) (how : Spelling) (input : Option (List ℕ)) (old : LoggedWriterState) (most : ℕ) (from to : LogState) (end : JobEnd) →
    FailsToRead most from to end
    → ReplayEnds limits how input old old end
unread_ends limits how input old most from to end (inl cannot) = subst (ReplayEnds limits how input old old) (sym cannot.0) refl
unread_ends limits how input old most from to end (inr memory) = subst (ReplayEnds limits how input old old) (sym memory.0) refl

pub unread_reads : (most : ℕ) (from to : LogState) (end : JobEnd) → to.calls ≤ from.calls + most → to.interruptions ≤ 16 → FailsToRead most from to end →
    ReadsFew most from to end
unread_reads most from to end few row (inl cannot) = record { few = few; few_interrupted = row; met = inl cannot }
unread_reads most from to end few row (inr memory) =
    record { few = few; few_interrupted = row; met = inr (λ e. (let bad : ended.NoMemory ≡ ended.CannotRead = sym memory.0 ∙ e in cc), memory.1) }
