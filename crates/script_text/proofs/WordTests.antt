-- A word is compared with a text of its length.
use Rattle.std.proofs.Common.{◌≡◌, ℕ, List, length, take, sym, ap, ◌∙◌}
use Rattle.std.specs.Bool.{one_answer}
use Rattle.std.specs.Str.{bytes_eq}
use Rattle.std.proofs.Math.Seq.{take-length}
use Rattle.std.proofs.lemmas.Slice.Eq.{bytes_eq-Decides}

turned : (a b : List ℕ) → bytes_eq a b ≡ bytes_eq b a
turned a b = one_answer {P = a ≡ b} (bytes_eq a b) (bytes_eq b a) (bytes_eq-Decides a b) (
  (λ t. sym ((bytes_eq-Decides b a).0 t)),
  (λ e. (bytes_eq-Decides b a).1 (sym e)),
)

-- the front of a word as long as the text is the whole of it
pub same_length : (a b : List ℕ) → length a ≡ length b → bytes_eq b (take (length b) a) ≡ bytes_eq a b
same_length a b e = ap (bytes_eq b) (ap (λ (n : ℕ). take n a) (sym e) ∙ take-length a) ∙ turned b a
