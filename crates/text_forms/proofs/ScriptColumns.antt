-- The column of a byte after a string.
use Rattle.std.proofs.Common.{◌≡◌, ℕ, ◌<◌, ◌≤◌, ◌+◌, ◌-◌, ◌*◌, Bool, true, false, cond, leb, List, [], ◌∷◌, length, Option, Some, refl, ap, sym, ◌∙◌, arith}
use Rattle.std.specs.List.{flat_map}
use Rattle.std.proofs.lemmas.Bool.{leb-true, leb-false}
use Rattle.text_forms.specs.Scripts.{column_from, column_with, line_column, string_in, front_length, string_word, after_string, inside}
use Rattle.script_text.specs.Lines.{hex_pair}

pairs_length : (bytes : List ℕ) → length (flat_map hex_pair bytes) ≡ 2 * length bytes
pairs_length [] = refl
pairs_length (b ∷ bs) = omega (arith, pairs_length bs)

-- the word has an x, and two digits for each byte
pub word_length : (string : List ℕ) → length (string_word string) ≡ 1 + 2 * length (inside string).0
word_length string = omega (arith, pairs_length (inside string).0)

tested : (a b : ℕ) (x y z : ℕ) → (a ≤ b → x ≡ z) → (b < a → y ≡ z) → (t : Bool) → leb a b ≡ t → cond t x y ≡ z
tested a b x y z small large true e = small (leb-true a b e)
tested a b x y z small large false e = large (leb-false a b e)

-- before a column is the front, then the word, and then the others
pub column_cases : (front word others string column result : ℕ) → (column ≤ front → column ≡ result)
    → (front < column → column ≤ front + word → front + 1 ≡ result)
    → (front + word < column → column ≤ front + word + others + 1 → column - word + string ≡ result) → (front + word + others + 1 < column → column ≡ result)
    → column_from front word others string column ≡ result
column_cases front word others string column result first second third fourth =
    tested column front _ _ result first
    (λ a. tested column (front + word) _ _ result (second a) (λ b. tested column (front + word + others + 1) _ _ result (third b) fourth _ refl) _ refl) _ refl

-- the same in a line that has a string
pub at_string : (line string : List ℕ) (column result : ℕ) → Some string ≡ string_in line → (column ≤ front_length string line → column ≡ result)
    → (front_length string line < column → column ≤ front_length string line + length (string_word string) → front_length string line + 1 ≡ result)
    → (front_length string line + length (string_word string) < column
    → column ≤ front_length string line + length (string_word string) + length (after_string string) + 1
    → column - length (string_word string) + (length string + 2 - length (inside string).1) ≡ result)
    → (front_length string line + length (string_word string) + length (after_string string) + 1 < column → column ≡ result)
    → result ≡ line_column line column
at_string line string column result here first second third fourth =
    sym (column_cases (front_length string line) (length (string_word string)) (length (after_string string))
    (length string + 2 - length (inside string).1) column result first second third fourth)
    ∙ ap (λ (found : Option (List ℕ)). column_with found line column) here
