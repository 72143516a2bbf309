-- The first frame of bytes: its length says where it ends.
use Rattle.std.proofs.Common.{◌≡◌, ℕ, ◌+◌, ◌<◌, ◌≤◌, List, ◌++◌, length, get_or, take, drop, refl, sym, ap, subst, ◌∙◌, arith, inl, inr}
use Rattle.std.specs.Int.{w32}
use Rattle.std.proofs.Math.Seq.{take-add}
use Rattle.std.proofs.lemmas.Bool.{cases_lt}
use Rattle.std.proofs.lemmas.List.{length-take, length-drop, get_or-take, get_or_past}
use Rattle.std.proofs.lemmas.Nat.{be_bytes_4}
use Rattle.frame_codec.specs.declared.begun.Begins.TheVariants as begins
use Rattle.frame_codec.specs.Fields.{number_bytes}
use Rattle.frame_codec.specs.Frames.{frame, told_length, told_payload}
use Rattle.frame_codec.specs.Proved.Filling.{Begun}

front_fits : (n : ℕ) (bytes : List ℕ) → ((i : ℕ) → get_or bytes i 0 < 256) → (i : ℕ) → get_or (take n bytes) i 0 < 256
front_fits n bytes h i =
    elim (cases_lt i n) [
      | inl lt ↦ rw (get_or-take n bytes i 0 lt) (h i)
      | inr le ↦ rw (get_or_past (take n bytes) i 0 (omega (arith, length-take n bytes))) (omega arith)
    ]

-- four bytes are those of the number that they tell
head_again : (bytes : List ℕ) → ((i : ℕ) → get_or bytes i 0 < 256) → 4 ≤ length bytes → number_bytes w32 (told_length bytes) ≡ take 4 bytes
unfolding number_bytes
head_again bytes h le = be_bytes_4 (take 4 bytes) _ (omega (arith, length-take 4 bytes)) (front_fits 4 bytes h) refl

-- as many bytes as the length tells are a frame
pub whole_frame : (bytes : List ℕ) → ((i : ℕ) → get_or bytes i 0 < 256) → 4 + told_length bytes ≤ length bytes → take (4 + told_length bytes) bytes ≡ frame
    (told_payload bytes)
whole_frame bytes h le =
    let long : length (told_payload bytes) ≡ told_length bytes = omega (arith, length-take (told_length bytes) (drop 4 bytes), length-drop 4 bytes) in
    take-add 4 (told_length bytes) bytes
    ∙ ap (λ (head : List ℕ). head ++ told_payload bytes) (sym (head_again bytes h (omega arith)))
    ∙ ap (λ (n : ℕ). number_bytes w32 n ++ told_payload bytes) (sym long)

-- bytes with a value in their first frame begin with it
pub whole_begins : {A : Type 0} (Spells : A → List ℕ → Type 0) (most : ℕ) (value : A) (bytes : List ℕ) (told : ℕ) → ((i : ℕ) → get_or bytes i 0 < 256)
    → told ≡ told_length bytes → told ≤ most → 4 + told ≤ length bytes → Spells value (take told (drop 4 bytes)) →
    Begun Spells most bytes (begins.Whole value (4 + told))
whole_begins Spells most value bytes told h is few there spelled =
    let within : 4 + told_length bytes ≤ length bytes = subst (λ (n : ℕ). 4 + n ≤ length bytes) is there in
    subst (λ (n : ℕ). Begun Spells most bytes (begins.Whole value (4 + n))) (sym is)
    (record {
      within = within;
      long = refl;
      few = subst (λ (n : ℕ). n ≤ most) is few;
      first = record {
        payload = told_payload bytes;
        few = omega (arith, length-take (told_length bytes) (drop 4 bytes), length-drop 4 bytes, subst (λ (n : ℕ). n ≤ most) is few);
        spelled = subst (λ (n : ℕ). Spells value (take n (drop 4 bytes))) is spelled;
        is = whole_frame bytes h within;
      };
    })
