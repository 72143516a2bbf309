-- The bytes of a chunk whose first zeros are not stored.
use Rattle.std.proofs.Common.{◌≡◌, ℕ, ◌+◌, ◌-◌, ◌≤◌, ◌<◌, min, ◌∙◌, List, ◌++◌, length, get_or, drop, replicate, ap, sym, arith, length-append, length-take, append_assoc, inl, inr}
use Rattle.std.proofs.lemmas.Bool.{cases_lt}
use Rattle.std.proofs.lemmas.List.{ext_get_or, get_or-take, get_or-drop, get_or_append_left, get_or-append_right, length-replicate}
use Rattle.posix_model.specs.Bytes.{splice, bytes_at}
use Rattle.file_extents.specs.Proved.Chunks.{window}
use Rattle.file_extents.specs.Proved.Contents.{over}
use Rattle.file_extents.proofs.Over.{over_below, over_from, zeros_place, padded_place, length_splice, splice_place}
use Rattle.file_extents.proofs.Places.{length_window, window_place}

-- zeros before a list
before : (low : ℕ) (b : List ℕ) (i : ℕ) → i < low → get_or (replicate low 0 ++ b) i 0 ≡ 0
before low b i below = get_or_append_left (replicate low 0) b 0 i (omega (arith, below, length-replicate {A = ℕ})) ∙ zeros_place low i

behind : (low : ℕ) (b : List ℕ) (i : ℕ) → low ≤ i → get_or (replicate low 0 ++ b) i 0 ≡ get_or b (i - low) 0
behind low b i past = get_or-append_right (replicate low 0) b low i 0 (length-replicate low 0) past

-- a write to what is stored is one to the chunk
spliced_place : (low s i : ℕ) (b new : List ℕ) → low ≤ s → get_or (replicate low 0 ++ splice b (s - low) new) i 0 ≡ get_or
    (splice (replicate low 0 ++ b) s new) i 0
spliced_place low s i b new le =
    let all : List ℕ = replicate low 0 ++ b in
    let whole : get_or (splice all s new) i 0 ≡ over (λ j. get_or all j 0) s new i = splice_place all s new i in
    elim (cases_lt i low) [
      | inl below ↦ before low (splice b (s - low) new) i below ∙
          (sym (before low b i below) ∙ (sym (over_below (λ j. get_or all j 0) s new i (omega (arith, below, le))) ∙ sym whole))
      | inr past ↦
          let part : get_or (replicate low 0 ++ splice b (s - low) new) i 0 ≡ over (λ j. get_or b j 0) (s - low) new (i - low) =
          behind low (splice b (s - low) new) i past ∙ splice_place b (s - low) new (i - low) in
          part ∙ (elim (cases_lt i s) [
            | inl under ↦ over_below (λ j. get_or b j 0) (s - low) new (i - low) (omega (arith, under, past)) ∙
                (sym (behind low b i past) ∙ sym (over_below (λ j. get_or all j 0) s new i under))
            | inr from ↦
                let gap : i - low - (s - low) ≡ i - s = omega (arith, le, from) in
                over_from (λ j. get_or b j 0) (s - low) new (i - low) (omega (arith, from, le))
                ∙ (ap (λ j. get_or new j (get_or b (i - low) 0)) gap ∙
                (ap (get_or new (i - s)) (sym (behind low b i past)) ∙ sym (over_from (λ j. get_or all j 0) s new i from)))
          ] ∙ sym whole)
    ]

pub stored_splice : (low s : ℕ) (b new : List ℕ) → low ≤ s → replicate low 0 ++ splice b (s - low) new ≡ splice (replicate low 0 ++ b) s new
stored_splice low s b new le = ext_get_or 0 (replicate low 0 ++ splice b (s - low) new) (splice (replicate low 0 ++ b) s new) long
    (λ i below. spliced_place low s i b new le)
  where
    long : length (replicate low 0 ++ splice b (s - low) new) ≡ length (splice (replicate low 0 ++ b) s new)
    long = omega (
      arith,
      le,
      length_splice b (s - low) new,
      length_splice (replicate low 0 ++ b) s new,
      length-append (replicate low 0) (splice b (s - low) new),
      length-append (replicate low 0) b,
      length-replicate {A = ℕ} low 0,
    )

-- zeros, a part of what is stored, and zeros
pub stored_window : (low s n : ℕ) (b : List ℕ) → (z rest : ℕ) (part : List ℕ) → z ≡ min (low - s) n → part ≡ bytes_at b (s - low) (n - z) →
    rest ≡ n - z - length part →
    (replicate z 0 ++ part) ++ replicate rest 0 ≡ window (replicate low 0 ++ b) s n
stored_window low s n b z rest part zs is_part is_rest = ext_get_or 0 ((replicate z 0 ++ part) ++ replicate rest 0) (window (replicate low 0 ++ b) s n)
    (long ∙ sym (length_window (replicate low 0 ++ b) s n)) each
  where
    short : length part ≤ n - z
    short = rw is_part (omega (arith, length-take (n - z) (drop (s - low) b)))

    long : length ((replicate z 0 ++ part) ++ replicate rest 0) ≡ n
    long = omega (
      arith,
      zs,
      is_rest,
      short,
      length-append (replicate z 0 ++ part) (replicate rest 0),
      length-append (replicate z 0) part,
      length-replicate {A = ℕ} z 0,
      length-replicate {A = ℕ} rest 0,
    )

    stored : (j : ℕ) → j < n - z → get_or part j 0 ≡ get_or b (s - low + j) 0
    stored j below = rw is_part (get_or-take (n - z) (drop (s - low) b) j 0 below ∙ get_or-drop (s - low) b j 0)

    each : (i : ℕ) → i < length ((replicate z 0 ++ part) ++ replicate rest 0) → get_or ((replicate z 0 ++ part) ++ replicate rest 0) i 0 ≡ get_or
        (window (replicate low 0 ++ b) s n) i 0
    each i below =
        let within : i < n = omega (arith, below, long) in
        let whole : get_or (window (replicate low 0 ++ b) s n) i 0 ≡ get_or (replicate low 0 ++ b) (s + i) 0 =
        window_place (replicate low 0 ++ b) s n i within in
        padded_place (replicate z 0 ++ part) rest i ∙ (elim (cases_lt i z) [
          | inl under ↦ before z part i under ∙ sym (before low b (s + i) (omega (arith, under, zs)))
          | inr past ↦
              let place : s - low + (i - z) ≡ s + i - low = omega (arith, past, zs, within) in
              behind z part i past ∙ (stored (i - z) (omega (arith, past, within)) ∙
              (ap (λ j. get_or b j 0) place ∙ sym (behind low b (s + i) (omega (arith, past, zs, within)))))
        ] ∙ sym whole)

-- they are appended one after another
pub appended : (o : List ℕ) (low s n : ℕ) (b : List ℕ) (z rest : ℕ) (part : List ℕ) → z ≡ min (low - s) n → part ≡ bytes_at b (s - low) (n - z) →
    rest ≡ n - z - length part →
    ((o ++ replicate z 0) ++ part) ++ replicate rest 0 ≡ o ++ window (replicate low 0 ++ b) s n
appended o low s n b z rest part zs is_part is_rest =
    ap (λ xs. xs ++ replicate rest 0) (append_assoc o (replicate z 0) part) ∙ (append_assoc o (replicate z 0 ++ part) (replicate rest 0) ∙
    ap (λ xs. o ++ xs) (stored_window low s n b z rest part zs is_part is_rest))
