-- The bytes of runs, and of parts of them.
use Rattle.std.proofs.Common.{◌≡◌, ℕ, ◌+◌, ◌-◌, ◌≤◌, ◌<◌, ◌∙◌, List, [], ◌∷◌, ◌++◌, length, take, drop, replicate, ap, sym, arith, length-append, length-take, length-drop, append_assoc, append-nil, inl, inr}
use Rattle.std.proofs.lemmas.Bool.{cases_lt}
use Rattle.std.proofs.lemmas.Grind.{flat_map-append}
use Rattle.std.proofs.lemmas.List.{take_all, drop_all, take-append-le, drop-append-le, length-replicate}
use Rattle.std.proofs.Math.Seq.{take-append-add, drop-append-add, take-nil}
use Rattle.posix_model.specs.Bytes.{padded_to, splice, bytes_at, resized}
use Rattle.posix_model.specs.declared.runs.Run.{Run}
use Rattle.posix_model.specs.Runs.{run_bytes, all_bytes}

-- one run more
pub one_run_more : (runs : List Run) (r : Run) → all_bytes (runs ++ r ∷ []) ≡ all_bytes runs ++ run_bytes r
one_run_more runs r = flat_map-append run_bytes runs (r ∷ []) ∙ ap (λ z. all_bytes runs ++ z) (append-nil (run_bytes r))

-- the first bytes of two lists, and the bytes after them
take_of_two : (n : ℕ) (x y : List ℕ) → take n (x ++ y) ≡ take n x ++ take (n - length x) y
take_of_two n x y = elim (cases_lt n (length x)) [
  | inl below ↦
      let none : n - length x ≡ 0 = omega (arith, below) in
      take-append-le n x y (omega (arith, below)) ∙ (sym (append-nil (take n x)) ∙ ap (λ k. take n x ++ take k y) (sym none))
  | inr past ↦
      let all : length x + (n - length x) ≡ n = omega (arith, past) in
      ap (λ k. take k (x ++ y)) (sym all) ∙ (take-append-add x y (n - length x) ∙ ap (λ z. z ++ take (n - length x) y) (sym (take_all n x past)))
]

drop_of_two : (n : ℕ) (x y : List ℕ) → drop n (x ++ y) ≡ drop n x ++ drop (n - length x) y
drop_of_two n x y = elim (cases_lt n (length x)) [
  | inl below ↦
      let none : n - length x ≡ 0 = omega (arith, below) in
      drop-append-le n x y (omega (arith, below)) ∙ ap (λ k. drop n x ++ drop k y) (sym none)
  | inr past ↦
      let all : length x + (n - length x) ≡ n = omega (arith, past) in
      ap (λ k. drop k (x ++ y)) (sym all) ∙ (drop-append-add x y (n - length x) ∙ ap (λ z. z ++ drop (n - length x) y) (sym (drop_all n x past)))
]

-- a part of two lists is a part of the first, and then one of the second
part_of_two : (x y : List ℕ) (start count : ℕ) → bytes_at (x ++ y) start count ≡ bytes_at x start count ++ bytes_at y (start - length x)
    (count - length (bytes_at x start count))
part_of_two x y start count =
    let rest : List ℕ = drop (start - length x) y in
    let left : count - length (drop start x) ≡ count - length (bytes_at x start count) = omega (arith, length-take count (drop start x)) in
    ap (take count) (drop_of_two start x y) ∙ (take_of_two count (drop start x) rest ∙ ap (λ k. bytes_at x start count ++ take k rest) left)

-- the part of the first list is added: what is to come is the part of the second
pub next_part : (file more here x y whole : List ℕ) (start count skip left : ℕ) → file ++ bytes_at (x ++ y) start count ≡ whole →
    here ≡ bytes_at x start count → more ≡ file ++ here → skip ≡ start - length x → left ≡ count - length here →
    more ++ bytes_at y skip left ≡ whole
next_part file more here x y whole start count skip left is part added skipped counted =
    let here_part = bytes_at x start count in
    let rest_part = bytes_at y (start - length x) (count - length here_part) in
    rw (added, skipped, counted, part) (append_assoc file here_part rest_part ∙ (ap (λ z. file ++ z) (sym (part_of_two x y start count)) ∙ is))

-- a part has at most as many bytes as were asked for
pub part_is_short : (b : List ℕ) (start count : ℕ) → length (bytes_at b start count) ≤ count
part_is_short b start count = omega (arith, length-take count (drop start b))

-- what is added is no longer left to add
pub next_fits : (file more here x : List ℕ) (start count left most : ℕ) → length file + count < most → here ≡ bytes_at x start count → more ≡ file ++ here →
    left ≡ count - length here → length more + left < most
next_fits file more here x start count left most fits part added counted =
    let few : length here ≤ count = rw part (part_is_short x start count) in
    let long : length more ≡ length file + length here = ap length added ∙ length-append file here in
    omega (arith, fits, few, long, counted)

-- no byte is added
pub none_added : (xs ys : List ℕ) → length ys ≡ 0 → xs ++ ys ≡ xs
none_added xs [] none = append-nil xs
none_added xs (y ∷ ys) none = absurd (omega (arith, none))

-- no bytes have an empty part
pub no_part : (done : List ℕ) (start count : ℕ) → done ++ bytes_at [] start count ≡ done
no_part done start count = ap (λ z. done ++ take count z) (drop_all start [] (omega arith)) ∙ (ap (λ z. done ++ z) (take-nil count) ∙ append-nil done)

-- what stands before a write, or zeros
before_a_write : (b : List ℕ) (start : ℕ) → take start (padded_to b start) ≡ resized b start
before_a_write b start =
    let zeros : List ℕ = replicate (start - length b) 0 in
    let gap : start - length b ≡ start - length (take start b) = omega (arith, length-take start b) in
    take_of_two start b zeros ∙ (ap (λ z. take start b ++ z)
    (take_all (start - length b) zeros (omega (arith, length-replicate {A = ℕ} (start - length b) 0))) ∙ ap (λ k. take start b ++ replicate k 0) gap)

-- what stands after it
after_a_write : (b : List ℕ) (start n : ℕ) → drop (start + n) (padded_to b start) ≡ drop (start + n) b
after_a_write b start n =
    let zeros : List ℕ = replicate (start - length b) 0 in
    drop_of_two (start + n) b zeros ∙ (ap (λ z. drop (start + n) b ++ z)
    (drop_all (start + n - length b) zeros (omega (arith, length-replicate {A = ℕ} (start - length b) 0))) ∙ append-nil (drop (start + n) b))

-- what a write leaves, in three parts
pub splice_parts : (b new : List ℕ) (start : ℕ) → (resized b start ++ new) ++ bytes_at b (start + length new) (length b - (start + length new))
    ≡ splice b start new
splice_parts b new start =
    let end = start + length new in
    let all : bytes_at b end (length b - end) ≡ drop end b = take_all (length b - end) (drop end b) (omega (arith, length-drop end b)) in
    rw all (ap (λ z. (z ++ new) ++ drop end b) (sym (before_a_write b start)) ∙ ap (λ z. (take start (padded_to b start) ++ new) ++ z)
    (sym (after_a_write b start (length new))))
