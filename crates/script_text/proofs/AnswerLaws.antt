-- What is asked for behind a call of a race.
use Rattle.std.proofs.Common.{◌≡◌, ℕ, true, List, ◌∷◌, ◌++◌, Some, refl, sym, ap, ◌∙◌}
use Rattle.script_text.specs.Reading.{Unread, cut}
use Rattle.script_text.specs.Answers.{is_long_answer, answer_of_words}
use Rattle.script_text.proofs.WordLaws.{tail, cut_joined}

taken : (word rest : List ℕ) → is_long_answer word rest ≡ true → answer_of_words word (Some rest) ≡ Some (word ++ (32 ∷ rest))
taken word rest long = rw long refl

-- an answer of more than one word is the whole text
pub whole : (text word rest : List ℕ) → (word, Some rest) ≡ cut 32 text → is_long_answer word rest ≡ true → Some text ≡ answer_of_words (cut 32 text).0
    (cut 32 text).1
whole text word rest e long =
    ap (λ (bytes : List ℕ). Some bytes) (cut_joined text ∙ ap (λ (parts : List ℕ × Unread). parts.0 ++ tail parts.1) (sym e))
    ∙ sym (ap (λ (parts : List ℕ × Unread). answer_of_words parts.0 parts.1) (sym e) ∙ taken word rest long)
