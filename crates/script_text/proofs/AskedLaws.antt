-- What is written for an answer is asked for again by its text.
use Rattle.std.proofs.Common.{◌≡◌, ℕ, ◌-◌, ◌^◌, ◌<◌, ◌≤◌, true, false, List, ◌∷◌, ◌++◌, ◌||◌, ◌&&◌, length, Option, Some, None, refl, sym, ap, subst, ◌∙◌, append_assoc, arith}
use Rattle.std.specs.Prelude.{codes, is_some}
use Rattle.std.specs.Option.{option_map}
use Rattle.std.specs.Str.{bytes_eq}
use Rattle.std.specs.Fmt.{decimal}
use Rattle.std.proofs.lemmas.Bool.{or_right, cond-true, cond-false, cond_both, false_from_ne_true}
use Rattle.std.proofs.lemmas.List.{append-nil}
use Rattle.std.proofs.lemmas.Slice.Eq.{bytes_eq-Decides}
use Rattle.call_types.specs.Ranges.{AreBytes}
use Rattle.call_types.specs.declared.limits.TheConstants.{GIVEN_BYTES_MAX}
use Rattle.call_types.specs.declared.errno.Errno.{Errno}
use Rattle.call_types.specs.declared.errno.Errno.TheVariants as errors
use Rattle.call_types.specs.declared.outcome.Outcome.{Outcome}
use Rattle.call_types.specs.declared.outcome.Outcome.TheVariants as outcomes
use Rattle.call_types.specs.declared.outcome.Reply.{Reply}
use Rattle.call_types.specs.declared.outcome.Reply.TheVariants as replies
use Rattle.call_types.specs.declared.outcome.FileType.{FileType}
use Rattle.call_types.specs.declared.outcome.FileType.TheVariants as kinds
use Rattle.script_text.specs.Reading.{Unread, cut}
use Rattle.script_text.specs.ReadingNumbers.{number_of}
use Rattle.script_text.specs.ReadingData.{data_of}
use Rattle.script_text.specs.Lines.{data_word, error_word, kind_word, reply_text}
use Rattle.script_text.specs.Answers.{answer_text, names_error, is_number, are_numbers, is_last_number, is_long_answer, stands_as_it_is, short_answer, answer_of_words, asked_of}
use Rattle.script_text.specs.Proved.Answered.{FitsReply, FitsAnswer}
use Rattle.script_text.proofs.Numerals.{number_again}
use Rattle.script_text.proofs.WordLaws.{Unbroken, unbroken, decimal_unbroken, cut_again}
use Rattle.script_text.proofs.DataLaws.{data_again, data_unbroken}
use Rattle.script_text.proofs.WrittenWords.{data_written}

-- the greatest number of 64 bits
abbrev most : ℕ
most = 2 ^ 64 - 1

-- a word is not one that has no value, where it has one
differs : {A : Type 0} (value : List ℕ → Option A) (word other : List ℕ) (a : A) → value word ≡ Some a → value other ≡ None → bytes_eq word other ≡ false
differs {A} value word other a e none = false_from_ne_true (bytes_eq word other)
    (λ same. absurd (let is : Some a ≡ None = sym e ∙ ap value ((bytes_eq-Decides word other).0 same) ∙ none in cc))

-- a text is asked for by its words, unless it is a ?
by_words : (text : List ℕ) (word : List ℕ) (after : Unread) → bytes_eq text (codes "?") ≡ false → cut 32 text ≡ (word, after) →
    answer_of_words word after ≡ Some text → asked_of text ≡ Some (Some text)
by_words text word after other parts is =
    cond-false (bytes_eq text (codes "?")) (Some None) (option_map (λ (t : List ℕ). Some t) (answer_of_words (cut 32 text).0 (cut 32 text).1)) other
    ∙ ap (λ (p : List ℕ × Unread). option_map (λ (t : List ℕ). Some t) (answer_of_words p.0 p.1)) parts
    ∙ ap (option_map (λ (t : List ℕ). Some t)) is

one_word : (word : List ℕ) → Unbroken word → bytes_eq word (codes "?") ≡ false → short_answer word ≡ Some word → asked_of word ≡ Some (Some word)
one_word word whole other is = by_words word word None other (ap (cut 32) (sym (append-nil word)) ∙ cut_again word None whole) is

numeral : (n : ℕ) → n < 2 ^ 64 → number_of most (decimal n) ≡ Some n
numeral n h = number_again most n (omega arith) (omega arith)

numeral_is : (n : ℕ) → n < 2 ^ 64 → is_number (decimal n) ≡ true
numeral_is n h = ap (λ (o : Option ℕ). is_some o) (numeral n h)

-- ---- answers of one word

number_asked : (n : ℕ) → n < 2 ^ 64 → asked_of (decimal n) ≡ Some (Some (decimal n))
number_asked n h =
    one_word (decimal n) (decimal_unbroken n h) (differs (number_of most) (decimal n) (codes "?") n (numeral n h) refl)
    (cond-true (stands_as_it_is (decimal n)) (Some (decimal n)) (option_map data_word (data_of (decimal n)))
    (or_right (bytes_eq (decimal n) (codes "-") || bytes_eq (decimal n) (codes "ok")) (is_number (decimal n)) (numeral_is n h)))

data_asked : (bytes : List ℕ) → AreBytes bytes → length bytes ≤ GIVEN_BYTES_MAX → asked_of (data_word bytes) ≡ Some (Some (data_word bytes))
data_asked bytes are few =
    let written = data_written bytes are few in
    let read : data_of (data_word bytes) ≡ Some bytes = data_again bytes (data_word bytes) written in
    one_word (data_word bytes) (data_unbroken bytes (data_word bytes) written) (differs data_of (data_word bytes) (codes "?") bytes read refl)
    (cond_both (stands_as_it_is (data_word bytes)) (Some (data_word bytes)) (option_map data_word (data_of (data_word bytes))) (λ o. o ≡ Some (data_word bytes))
    (λ _. refl) (λ _. ap (option_map data_word) read))

-- ---- answers of more words

-- two words: the first has no space, and the text is no ?, since it has one
more_words : (word rest : List ℕ) → Unbroken word → is_long_answer word rest ≡ true → asked_of (word ++ (32 ∷ rest)) ≡ Some (Some (word ++ (32 ∷ rest)))
more_words word rest whole long =
    let parts = cut_again word (Some rest) whole in
    by_words (word ++ (32 ∷ rest)) word (Some rest) (differs (λ (text : List ℕ). (cut 32 text).1) (word ++ (32 ∷ rest)) (codes "?") rest
    (ap (λ (p : List ℕ × Unread). p.1) parts) refl) parts
    (cond-true (is_long_answer word rest) (Some (word ++ (32 ∷ rest))) None long)

pair_long : (first second : ℕ) → first < 2 ^ 64 → second < 2 ^ 64 → is_long_answer (decimal first) (decimal second) ≡ true
pair_long first second h k =
    let is = numeral first h in
    rw (
      differs (number_of most) (decimal first) (codes "waits") first is refl,
      differs (number_of most) (decimal first) (codes "error") first is refl,
      differs (number_of most) (decimal first) (codes "regular") first is refl,
      differs (number_of most) (decimal first) (codes "fifo") first is refl,
      differs (number_of most) (decimal first) (codes "pipe") first is refl,
      is,
      numeral second k,
    ) refl

waits_asked : (moved : ℕ) → moved < 2 ^ 32 → asked_of (codes "waits " ++ decimal moved) ≡ Some (Some (codes "waits " ++ decimal moved))
waits_asked moved h =
    more_words (codes "waits") (decimal moved) (unbroken (codes "waits") refl)
    (ap (λ (o : Option ℕ). is_some o) (number_again (2 ^ 32 - 1) moved (omega arith) (omega arith)))

error_named : (errno : Errno) → names_error (error_word errno) ≡ true
error_named errors.EBADF = refl
error_named other = refl

error_asked : (errno : Errno) → asked_of (codes "error " ++ error_word errno) ≡ Some (Some (codes "error " ++ error_word errno))
error_asked errno = more_words (codes "error") (error_word errno) (unbroken (codes "error") refl) (error_named errno)

-- a text that is asked for
abbrev IsAsked : List ℕ → Type 0
IsAsked text = asked_of text ≡ Some (Some text)

pair_asked : (first second : ℕ) → first < 2 ^ 64 → second < 2 ^ 64 → IsAsked (decimal first ++ codes " " ++ decimal second)
pair_asked first second h k =
    subst IsAsked (sym (append_assoc (decimal first) (codes " ") (decimal second))) (more_words (decimal first) (decimal second) (decimal_unbroken first h)
    (pair_long first second h k))

numbers_are : (size links : ℕ) → size < 2 ^ 64 → links < 2 ^ 64 → are_numbers (Some (decimal size ++ (32 ∷ decimal links))) ≡ true
numbers_are size links h k =
    ap (λ (p : List ℕ × Unread). is_number p.0 && is_last_number p.1) (cut_again (decimal size) (Some (decimal links)) (decimal_unbroken size h)) ∙
    rw (numeral_is size h, numeral_is links k) refl

stat_asked : (kind : FileType) (size links : ℕ) → size < 2 ^ 64 → links < 2 ^ 64 → IsAsked (kind_word kind ++ (32 ∷ (decimal size ++ (32 ∷ decimal links))))
stat_asked kinds.Regular size links h k = more_words (codes "regular") (decimal size ++ (32 ∷ decimal links)) (unbroken (codes "regular") refl)
    (numbers_are size links h k)
stat_asked kinds.Fifo size links h k = more_words (codes "fifo") (decimal size ++ (32 ∷ decimal links)) (unbroken (codes "fifo") refl)
    (numbers_are size links h k)
stat_asked kinds.Pipe size links h k = more_words (codes "pipe") (decimal size ++ (32 ∷ decimal links)) (unbroken (codes "pipe") refl)
    (numbers_are size links h k)

stat_parts : (kind size links : List ℕ) → kind ++ codes " " ++ size ++ codes " " ++ links ≡ kind ++ (32 ∷ (size ++ (32 ∷ links)))
stat_parts kind size links =
    ap (λ (front : List ℕ). front ++ codes " " ++ links) (append_assoc kind (codes " ") size) ∙
    ap (λ (front : List ℕ). front ++ links) (append_assoc kind (32 ∷ size) (codes " "))
    ∙ append_assoc kind (32 ∷ (size ++ codes " ")) links ∙ ap (λ (rest : List ℕ). kind ++ (32 ∷ rest)) (append_assoc size (codes " ") links)

reply_asked : (reply : Reply) → FitsReply reply → IsAsked (reply_text reply)
reply_asked replies.Done h = refl
reply_asked (replies.Number n) h = number_asked n h
reply_asked (replies.Data bytes) h = data_asked bytes h.0 h.1
reply_asked (replies.Pair first second) h = pair_asked first second h.0 h.1
reply_asked (replies.Stat stat) h = subst IsAsked (sym (stat_parts (kind_word stat.kind) (decimal stat.size) (decimal stat.links)))
    (stat_asked stat.kind stat.size stat.links h.0 h.1)
reply_asked (replies.Error errno) h = error_asked errno

-- each answer can be asked for
pub answer_asked : (answer : Option Outcome) → FitsAnswer answer → asked_of (answer_text answer) ≡ Some (Some (answer_text answer))
answer_asked None h = refl
answer_asked (Some (outcomes.Reply reply)) h = reply_asked reply h
answer_asked (Some (outcomes.Parked moved)) h = waits_asked moved h
answer_asked (Some (outcomes.Part moved)) h = waits_asked moved h
