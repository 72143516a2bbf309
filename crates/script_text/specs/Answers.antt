-- The answers of calls that race, as they are written and as they are asked for (own).
use Rattle.std.specs.Prelude.{ℕ, ◌-◌, ◌^◌, List, [], ◌∷◌, ◌++◌, codes, decimal, Bool, ◌||◌, ◌&&◌, false, is_some, Option, Some, None, if◌then◌else◌}
use Rattle.std.specs.List.{list_any}
use Rattle.std.specs.Option.{option_map}
use Rattle.std.specs.Str.{bytes_eq}
use Rattle.call_types.specs.declared.errno.Errno.{Errno}
use Rattle.call_types.specs.declared.errno.Errno.TheVariants as errors
use Rattle.call_types.specs.declared.outcome.Outcome.{Outcome}
use Rattle.call_types.specs.declared.outcome.Outcome.TheVariants as outcomes
use Rattle.script_text.specs.Reading.{Unread, cut, space}
use Rattle.script_text.specs.ReadingNumbers.{number_of, count_of}
use Rattle.script_text.specs.ReadingData.{data_of}
use Rattle.script_text.specs.Lines.{data_word, error_word, reply_text}

-- the answer of a call by its last outcome: its reply, or that it waits; a - where the call was never made
abbrev pub answer_text : Option Outcome → List ℕ
answer_text None = codes "-"
answer_text (Some (outcomes.Reply reply)) = reply_text reply
answer_text (Some (outcomes.Parked moved)) = codes "waits " ++ decimal moved
answer_text (Some (outcomes.Part moved)) = codes "waits " ++ decimal moved

-- answers that follow others, each after a comma and a space
abbrev pub more_answers : List (Option Outcome) → List ℕ
more_answers [] = []
more_answers (answer ∷ answers) = codes ", " ++ (answer_text answer ++ more_answers answers)

-- answers, with a comma and a space between two of them
abbrev pub answers_text : List (Option Outcome) → List ℕ
answers_text [] = []
answers_text (answer ∷ answers) = answer_text answer ++ more_answers answers

-- ---- what is asked for

-- every error (XSH 2.3)
abbrev pub all_errors : List Errno
all_errors =
    errors.EBADF ∷ errors.EINVAL ∷ errors.ESPIPE ∷ errors.EFBIG ∷ errors.EOVERFLOW ∷ errors.ENOENT ∷ errors.EEXIST ∷ errors.EMLINK ∷ errors.ENAMETOOLONG ∷ errors.EMFILE ∷ errors.ENFILE ∷
    errors.ENOSPC ∷ errors.EAGAIN ∷ errors.EPIPE ∷ errors.ENXIO ∷ errors.ESRCH ∷ []

-- whether a word names an error
abbrev pub names_error : List ℕ → Bool
names_error word = list_any (λ errno. bytes_eq (error_word errno) word) all_errors

-- whether a word is a number of 64 bits, as it is written
abbrev pub is_number : List ℕ → Bool
is_number word = is_some (number_of (2 ^ 64 - 1) word)

-- whether a word names what a file is
abbrev pub names_kind : List ℕ → Bool
names_kind word = bytes_eq word (codes "regular") || bytes_eq word (codes "fifo") || bytes_eq word (codes "pipe")

-- whether what is left is one number
abbrev pub is_last_number : Unread → Bool
is_last_number None = false
is_last_number (Some rest) = is_number rest

-- whether there are two numbers, with a space between them
abbrev pub are_numbers : Unread → Bool
are_numbers None = false
are_numbers (Some rest) = is_number (cut space rest).0 && is_last_number (cut space rest).1

-- whether these words are an answer of more than one word: waits and a count, error and a name, two numbers, or what fstat tells
abbrev pub is_long_answer : List ℕ → List ℕ → Bool
is_long_answer word rest =
    if bytes_eq word (codes "waits") then is_some (count_of rest)
    else if bytes_eq word (codes "error") then names_error rest
    else if names_kind word then are_numbers (Some rest)
    else is_number word && is_number rest

-- whether a word is an answer as it stands: -, ok or a number
abbrev pub stands_as_it_is : List ℕ → Bool
stands_as_it_is word = bytes_eq word (codes "-") || bytes_eq word (codes "ok") || is_number word

-- the text of the answer of one word that is asked for: data as it is written in answers, anything else as it stands
abbrev pub short_answer : List ℕ → Option (List ℕ)
short_answer word = if stands_as_it_is word then Some word else option_map data_word (data_of word)

-- the text of the answer that is asked for by its words
abbrev pub answer_of_words : List ℕ → Unread → Option (List ℕ)
answer_of_words word None = short_answer word
answer_of_words word (Some rest) = if is_long_answer word rest then Some (word ++ (space ∷ rest)) else None

-- what is asked for: the text of an answer, or by a ? nothing; None where it is no answer
abbrev pub asked_of : List ℕ → Option (Option (List ℕ))
asked_of text = if bytes_eq text (codes "?") then Some None else option_map Some (answer_of_words (cut space text).0 (cut space text).1)
