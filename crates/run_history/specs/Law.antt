-- What steps on the word of a history keep, and what one of them tells.
use Rattle.std.specs.Prelude.{ℕ, ◌≡◌, ◌==◌, true, List, [], ◌∷◌, ◌++◌, length, MatchBool}
use Rattle.logbook.specs.Pages.{Cell, Step, View, Book, Named}
use Rattle.call_types.specs.declared.act.Record.{Record}

-- the first of the two words of a book counts the records, the second is not used
pub record IsKept (cells : List Cell) (log : List Record) : Type 0 where
  pub counts : cells ≡ (length log, true) ∷ (0, true) ∷ []

-- the first word of a book
abbrev pub word_of : Book → Named
word_of b = record { tracked = true; key = 0; book = b }

-- where as many were found as had been seen, one is added to them; else all that were found are seen
abbrev pub Adds : Step Record → View Record ℕ → ℕ → View Record ℕ → Type 0
Adds s seen found now = MatchBool (found == s.old) (now.0 ≡ seen.0 ++ s.ask ∷ []) (length now.0 ≡ found)
