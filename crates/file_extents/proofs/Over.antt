-- What stands where new bytes are put over others, place by place.
use Rattle.std.proofs.Common.{◌≡◌, ℕ, zero, suc, ◌+◌, ◌-◌, ◌≤◌, ◌<◌, ◌∙◌, true, false, List, ◌++◌, length, get_or, take, drop, replicate, refl, ap, sym, arith, length-append, length-take, length-drop, inl, inr, ltb}
use Rattle.std.proofs.lemmas.Bool.{cases_lt, lt-ltb}
use Rattle.std.proofs.lemmas.Bool.Decides.{nat_tests}
use Rattle.std.proofs.lemmas.List.{get_or-take, get_or-drop, get_or_past, get_or_default, get_or_append_left, get_or-append_right, length-take-le, length-replicate}
use Rattle.posix_model.specs.Bytes.{overwritten, splice}
use Rattle.file_extents.specs.Proved.Contents.{over}

-- what `over` gives below its start, and from there on
pub over_below : (f : ℕ → ℕ) (s : ℕ) (new : List ℕ) (p : ℕ) → p < s → over f s new p ≡ f p
over_below f s new p below = let test : ltb p s ≡ true = lt-ltb p s below in rw test refl

pub over_from : (f : ℕ → ℕ) (s : ℕ) (new : List ℕ) (p : ℕ) → s ≤ p → over f s new p ≡ get_or new (p - s) (f p)
over_from f s new p from = let test : ltb p s ≡ false = grind (arith, nat_tests) in rw test refl

pub over_past : (f : ℕ → ℕ) (s : ℕ) (new : List ℕ) (p : ℕ) → s + length new ≤ p → over f s new p ≡ f p
over_past f s new p past = over_from f s new p (omega arith) ∙ get_or_past new (p - s) (f p) (omega arith)

-- only what the function gives there matters
pub over_same : (f g : ℕ → ℕ) (s : ℕ) (new : List ℕ) (p : ℕ) → f p ≡ g p → over f s new p ≡ over g s new p
over_same f g s new p same = rw same refl

-- the front of new bytes, and then what is behind it
pub over_over : (f : ℕ → ℕ) (s m : ℕ) (new : List ℕ) (p : ℕ) → m ≤ length new → over (over f s (take m new)) (s + m) (drop m new) p ≡ over f s new p
over_over f s m new p le = elim (cases_lt p s) [
  | inl below ↦ over_below (over f s (take m new)) (s + m) (drop m new) p (omega arith) ∙
      (over_below f s (take m new) p below ∙ sym (over_below f s new p below))
  | inr from ↦ elim (cases_lt p (s + m)) [
    | inl below ↦ over_below (over f s (take m new)) (s + m) (drop m new) p below ∙
        (over_from f s (take m new) p from ∙ (get_or-take m new (p - s) (f p) (omega arith) ∙ sym (over_from f s new p from)))
    | inr past ↦
        let front : over f s (take m new) p ≡ f p = over_past f s (take m new) p (omega (arith, length-take m new)) in
        let there : m + (p - (s + m)) ≡ p - s = omega arith in
        let behind : over (over f s (take m new)) (s + m) (drop m new) p ≡ get_or (drop m new) (p - (s + m)) (f p) =
        over_from (over f s (take m new)) (s + m) (drop m new) p past ∙ ap (get_or (drop m new) (p - (s + m))) front in
        let moved : get_or (drop m new) (p - (s + m)) (f p) ≡ get_or new (p - s) (f p) = rw (← there) (get_or-drop m new (p - (s + m)) (f p)) in
        behind ∙ (moved ∙ sym (over_from f s new p from))
  ]
]

-- lists of zeros
pub zeros_place : (n i : ℕ) → get_or (replicate {A = ℕ} n 0) i 0 ≡ 0
zeros_place zero i = refl
zeros_place (suc n) zero = refl
zeros_place (suc n) (suc i) = zeros_place n i

pub padded_place : (b : List ℕ) (n i : ℕ) → get_or (b ++ replicate n 0) i 0 ≡ get_or b i 0
padded_place b n i = elim (cases_lt i (length b)) [
  | inl below ↦ get_or_append_left b (replicate n 0) 0 i below
  | inr past ↦ get_or-append_right b (replicate n 0) (length b) i 0 refl past ∙ (zeros_place n (i - length b) ∙ sym (get_or_past b i 0 past))
]

pub length_splice : (b : List ℕ) (s : ℕ) (new : List ℕ) → length (splice b s new) ≡ (s + length new) + (length b - (s + length new))
length_splice b s new = omega (arith, length-append {A = ℕ}, length-take {A = ℕ}, length-drop {A = ℕ}, length-replicate {A = ℕ})

overwritten_place : (b : List ℕ) (s : ℕ) (new : List ℕ) (i : ℕ) → s ≤ length b → get_or (overwritten b s new) i 0 ≡ over (λ j. get_or b j 0) s new i
overwritten_place b s new i within =
    let rest = drop (s + length new) b in
    let f : ℕ → ℕ = λ j. get_or b j 0 in
    let front : length (take s b) ≡ s = length-take-le s b within in
    let both : length (take s b ++ new) ≡ s + length new = length-append (take s b) new ∙ ap (λ n. n + length new) front in
    elim (cases_lt i (s + length new)) [
      | inl inside ↦ get_or_append_left (take s b ++ new) rest 0 i (omega (arith, both)) ∙ elim (cases_lt i s) [
        | inl below ↦ get_or_append_left (take s b) new 0 i (omega (arith, front)) ∙ (get_or-take s b i 0 below ∙ sym (over_below f s new i below))
        | inr from ↦ get_or-append_right (take s b) new s i 0 front from ∙ (get_or_default new (i - s) 0 (f i) (omega arith) ∙ sym (over_from f s new i from))
      ]
      | inr past ↦
          let there : s + length new + (i - (s + length new)) ≡ i = omega arith in
          let moved : get_or rest (i - (s + length new)) 0 ≡ f i = get_or-drop (s + length new) b (i - (s + length new)) 0 ∙ ap f there in
          get_or-append_right (take s b ++ new) rest (s + length new) i 0 both past ∙ (moved ∙ sym (over_past f s new i past))
    ]

pub splice_place : (b : List ℕ) (s : ℕ) (new : List ℕ) (i : ℕ) → get_or (splice b s new) i 0 ≡ over (λ j. get_or b j 0) s new i
splice_place b s new i =
    let padded = b ++ replicate (s - length b) 0 in
    overwritten_place padded s new i (omega (arith, length-append {A = ℕ}, length-replicate {A = ℕ}))
    ∙ over_same (λ j. get_or padded j 0) (λ j. get_or b j 0) s new i (padded_place b (s - length b) i)
