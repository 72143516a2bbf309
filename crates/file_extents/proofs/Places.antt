-- The byte at each position of a file, after each edit of its chunks.
use Rattle.std.proofs.Common.{◌≡◌, ◌≢◌, ℕ, ◌+◌, ◌-◌, ◌≤◌, ◌<◌, ◌/◌, ◌%◌, min, ◌∙◌, List, [], ◌++◌, length, get_or, take, drop, refl, ap, sym, arith, length-append, length-take, length-drop, inl, inr}
use Rattle.std.proofs.lemmas.Bool.{cases_lt, cases_eq}
use Rattle.std.proofs.lemmas.List.{get_or-take, get_or-drop, get_or_past, get_or_append_left, get_or-append_right, ext_get_or, length-replicate, take_all, drop_all, append-nil}
use Rattle.std.proofs.Math.Seq.{take-nil}
use Rattle.std.proofs.lemmas.List.FromFn.{length-map-range_with_len, get_or-map-range_with_len}
use Rattle.posix_model.specs.Bytes.{padded_to, splice, bytes_at}
use Rattle.file_extents.specs.ChunkTable.{ChunkState}
use Rattle.file_extents.specs.Proved.Chunks.{KeepsPlaces, Edits, Cuts, window}
use Rattle.file_extents.specs.ExtentsState.{byte_of, bytes_from, contents}
use Rattle.file_extents.specs.Proved.Contents.{over, ZeroFrom, IsOver}
use Rattle.file_extents.proofs.Over.{over_below, over_from, over_past, over_same, over_over, padded_place, length_splice, splice_place}

-- an edit of one chunk puts bytes over those of the file
pub edit_is_over : (s : ℕ) (new : List ℕ) (F G : ℕ → ChunkState) → s % 65536 + length new ≤ 65536 → Edits (s % 65536) new (s / 65536) F G → IsOver s new F G
edit_is_over s new F G fits edits = record { bytes = each; room = edits.room }
  where
    same : (p : ℕ) → p / 65536 ≡ s / 65536 → byte_of G p ≡ over (byte_of F) s new p
    same p chunk =
        let old : List ℕ = (F (s / 65536)).bytes in
        let start : byte_of G p ≡ over (λ j. get_or old j 0) (s % 65536) new (p % 65536) =
        rw (chunk, edits.here) (splice_place old (s % 65536) new (p % 65536)) in
        let was : get_or old (p % 65536) 0 ≡ byte_of F p = rw chunk refl in
        let f : ℕ → ℕ = λ j. get_or old j 0 in
        start ∙ elim (cases_lt p s) [
          | inl below ↦ over_below f (s % 65536) new (p % 65536) (omega arith) ∙ (was ∙ sym (over_below (byte_of F) s new p below))
          | inr from ↦
              let gap : p % 65536 - s % 65536 ≡ p - s = omega arith in
              let placed : over f (s % 65536) new (p % 65536) ≡ get_or new (p - s) (byte_of F p) =
              over_from f (s % 65536) new (p % 65536) (omega arith) ∙ (ap (λ i. get_or new i (f (p % 65536))) gap ∙ ap (get_or new (p - s)) was) in
              placed ∙ sym (over_from (byte_of F) s new p from)
        ]

    other : (p : ℕ) → (p / 65536 ≢ s / 65536) → byte_of G p ≡ over (byte_of F) s new p
    other p apart =
        let stays : byte_of G p ≡ byte_of F p = ap (λ b. get_or b (p % 65536) 0) (edits.elsewhere (p / 65536) apart) in
        stays ∙ elim (cases_lt p s) [
          | inl below ↦ sym (over_below (byte_of F) s new p below)
          | inr from ↦ sym (over_past (byte_of F) s new p (omega arith))
        ]

    each : (p : ℕ) → byte_of G p ≡ over (byte_of F) s new p
    each p = elim (cases_eq (p / 65536) (s / 65536)) [
      | inl chunk ↦ same p chunk
      | inr apart ↦ other p apart
    ]

-- the contents
pub length_contents : (len : ℕ) (F : ℕ → ChunkState) → length (contents len F) ≡ len
length_contents len F = length-map-range_with_len (byte_of F) 0 len

contents_within : (len : ℕ) (F : ℕ → ChunkState) (i : ℕ) → i < len → get_or (contents len F) i 0 ≡ byte_of F i
contents_within len F i below = get_or-map-range_with_len (byte_of F) 0 len i i 0 below (omega arith)

contents_place : (len : ℕ) (F : ℕ → ChunkState) (i : ℕ) → ZeroFrom len F → get_or (contents len F) i 0 ≡ byte_of F i
contents_place len F i zeros = elim (cases_lt i len) [
  | inl below ↦ contents_within len F i below
  | inr past ↦ get_or_past (contents len F) i 0 (omega (arith, length_contents len F)) ∙ sym (zeros.zero i past)
]

-- a list that has the same bytes is the contents
is_contents : (len : ℕ) (F : ℕ → ChunkState) (xs : List ℕ) → length xs ≡ len → ((i : ℕ) → i < len → get_or xs i 0 ≡ byte_of F i) → contents len F ≡ xs
is_contents len F xs long each = ext_get_or 0 (contents len F) xs (length_contents len F ∙ sym long)
    (λ i below. let within : i < len = omega (arith, below, length_contents len F) in contents_within len F i within ∙ sym (each i within))

-- a write
pub spliced : (len after s : ℕ) (new : List ℕ) (F G : ℕ → ChunkState) → ZeroFrom len F → IsOver s new F G →
    after ≡ (s + length new) + (len - (s + length new)) →
    contents after G ≡ splice (contents len F) s new
spliced len after s new F G zeros is long = is_contents after G (splice (contents len F) s new)
    (omega (arith, long, length_splice (contents len F) s new, length_contents len F))
    (λ i below. splice_place (contents len F) s new i ∙ (over_same (λ j. get_or (contents len F) j 0) (byte_of F) s new i (contents_place len F i zeros) ∙
    sym (is.bytes i)))

pub spliced_zero : (len after s : ℕ) (new : List ℕ) (F G : ℕ → ChunkState) → ZeroFrom len F → IsOver s new F G → len ≤ after → s + length new ≤ after →
    ZeroFrom after G
spliced_zero len after s new F G zeros is more far =
    record { zero = λ p past. is.bytes p ∙ (over_past (byte_of F) s new p (omega arith) ∙ zeros.zero p (omega arith)) }

-- nothing new
pub no_part : (s : ℕ) (new : List ℕ) (F : ℕ → ChunkState) → length new ≡ 0 → IsOver s new F F
no_part s new F none = record { bytes = λ p. sym (here p); room = λ k. record { low = λ i from till. from; high = λ i from till. till } }
  where
    here : (p : ℕ) → over (byte_of F) s new p ≡ byte_of F p
    here p = elim (cases_lt p s) [
      | inl below ↦ over_below (byte_of F) s new p below
      | inr from ↦ over_past (byte_of F) s new p (omega (arith, none, from))
    ]

-- room that two edits keep
places_both : (x y z : ChunkState) → KeepsPlaces x y → KeepsPlaces y z → KeepsPlaces x z
places_both x y z first second = record {
  low = λ i from till. second.low i (first.low i from till) (first.high i from till);
  high = λ i from till. second.high i (first.low i from till) (first.high i from till);
}

-- a write in two parts
pub two_parts : (s m : ℕ) (new : List ℕ) (F G H : ℕ → ChunkState) → m ≤ length new → IsOver s (take m new) F G → IsOver (s + m) (drop m new) G H →
    IsOver s new F H
two_parts s m new F G H le first second = record {
  bytes = λ p. second.bytes p ∙ (over_same (byte_of G) (over (byte_of F) s (take m new)) (s + m) (drop m new) p (first.bytes p) ∙
      over_over (byte_of F) s m new p le);
  room = λ k. places_both (F k) (G k) (H k) (first.room k) (second.room k);
}

-- a copy of each chunk
pub copied_contents : (len : ℕ) (F G : ℕ → ChunkState) → ((k : ℕ) → (G k).bytes ≡ (F k).bytes) → contents len G ≡ contents len F
copied_contents len F G same = is_contents len G (contents len F) (length_contents len F)
    (λ i below. contents_within len F i below ∙ sym (ap (λ b. get_or b (i % 65536) 0) (same (i / 65536))))

-- what is past a length goes
cut_last : (len : ℕ) (F G : ℕ → ChunkState) (p : ℕ) → Cuts (len / 65536) (len % 65536) F G → p / 65536 ≡ len / 65536 →
    byte_of G p ≡ get_or (take (len % 65536) (F (p / 65536)).bytes) (p % 65536) 0
cut_last len F G p cuts same = rw same (cuts.here (p % 65536))

cut_before : (len : ℕ) (F G : ℕ → ChunkState) (p : ℕ) → Cuts (len / 65536) (len % 65536) F G → p < len → byte_of G p ≡ byte_of F p
cut_before len F G p cuts below = elim (cases_lt (p / 65536) (len / 65536)) [
  | inl before ↦ ap (λ b. get_or b (p % 65536) 0) (cuts.before (p / 65536) before)
  | inr last ↦ cut_last len F G p cuts (omega arith) ∙ get_or-take (len % 65536) (F (p / 65536)).bytes (p % 65536) 0 (omega arith)
]

cut_after : (len : ℕ) (F G : ℕ → ChunkState) (p : ℕ) → Cuts (len / 65536) (len % 65536) F G → len ≤ p → byte_of G p ≡ 0
cut_after len F G p cuts past = elim (cases_lt (len / 65536) (p / 65536)) [
  | inl after ↦ cuts.after (p / 65536) (p % 65536) after
  | inr last ↦ cut_last len F G p cuts (omega arith)
      ∙ get_or_past (take (len % 65536) (F (p / 65536)).bytes) (p % 65536) 0 (omega (arith, length-take (len % 65536) (F (p / 65536)).bytes))
]

pub cut_contents : (old len : ℕ) (F G : ℕ → ChunkState) → Cuts (len / 65536) (len % 65536) F G → len ≤ old → contents len G ≡ take len (contents old F)
cut_contents old len F G cuts less = is_contents len G (take len (contents old F))
    (omega (arith, length-take len (contents old F), length_contents old F))
    (λ i below. get_or-take len (contents old F) i 0 below ∙ (contents_within old F i (omega (arith, below, less)) ∙ sym (cut_before len F G i cuts below)))

pub cut_zero : (len : ℕ) (F G : ℕ → ChunkState) → Cuts (len / 65536) (len % 65536) F G → ZeroFrom len G
cut_zero len F G cuts = record { zero = λ p past. cut_after len F G p cuts past }

pub extended_max : (len most more : ℕ) (F : ℕ → ChunkState) → ZeroFrom len F → most ≡ more + (len - more) → contents most F ≡ padded_to (contents len F) more
extended_max len most more F zeros is = is_contents most F (padded_to (contents len F) more)
    (omega (arith, is, length-append {A = ℕ}, length-replicate {A = ℕ}, length_contents len F))
    (λ i below. padded_place (contents len F) (more - length (contents len F)) i ∙ contents_place len F i zeros)

-- a read
pub length_window : (b : List ℕ) (s n : ℕ) → length (window b s n) ≡ n
length_window b s n = omega (arith, length-append {A = ℕ}, length-replicate {A = ℕ}, length-take {A = ℕ}, length-drop {A = ℕ})

pub window_place : (b : List ℕ) (s n i : ℕ) → i < n → get_or (window b s n) i 0 ≡ get_or b (s + i) 0
window_place b s n i below = padded_place (bytes_at b s n) (n - length (bytes_at b s n)) i ∙ (get_or-take n (drop s b) i 0 below ∙ get_or-drop s b i 0)

pub window_is : (F : ℕ → ChunkState) (s n : ℕ) → s % 65536 + n ≤ 65536 → window (F (s / 65536)).bytes (s % 65536) n ≡ bytes_from F s n
window_is F s n fits = ext_get_or 0 (window (F (s / 65536)).bytes (s % 65536) n) (bytes_from F s n)
    (length_window (F (s / 65536)).bytes (s % 65536) n ∙ sym (length-map-range_with_len (byte_of F) s n)) each
  where
    each : (i : ℕ) → i < length (window (F (s / 65536)).bytes (s % 65536) n) → get_or (window (F (s / 65536)).bytes (s % 65536) n) i 0 ≡ get_or
        (bytes_from F s n) i 0
    each i below =
        let within : i < n = omega (arith, below, length_window (F (s / 65536)).bytes (s % 65536) n) in
        let chunk : (s + i) / 65536 ≡ s / 65536 = omega (arith, within, fits) in
        let place : (s + i) % 65536 ≡ s % 65536 + i = omega (arith, within, fits) in
        let there : byte_of F (s + i) ≡ get_or (F (s / 65536)).bytes (s % 65536 + i) 0 = rw (chunk, place) refl in
        window_place (F (s / 65536)).bytes (s % 65536) n i within ∙ (sym there ∙ sym (get_or-map-range_with_len (byte_of F) s n i (s + i) 0 within refl))

pub bytes_joined : (F : ℕ → ChunkState) (s m n : ℕ) → m ≤ n → bytes_from F s m ++ bytes_from F (s + m) (n - m) ≡ bytes_from F s n
bytes_joined F s m n le = ext_get_or 0 (bytes_from F s m ++ bytes_from F (s + m) (n - m)) (bytes_from F s n)
    (omega (arith, both, length-map-range_with_len (byte_of F) s n)) each
  where
    front : length (bytes_from F s m) ≡ m
    front = length-map-range_with_len (byte_of F) s m

    both : length (bytes_from F s m ++ bytes_from F (s + m) (n - m)) ≡ n
    both = omega (arith, front, length-append (bytes_from F s m) (bytes_from F (s + m) (n - m)), length-map-range_with_len (byte_of F) (s + m) (n - m))

    each : (i : ℕ) → i < length (bytes_from F s m ++ bytes_from F (s + m) (n - m)) → get_or (bytes_from F s m ++ bytes_from F (s + m) (n - m)) i 0 ≡ get_or
        (bytes_from F s n) i 0
    each i below =
        let within : i < n = omega (arith, below, both) in
        let whole : get_or (bytes_from F s n) i 0 ≡ byte_of F (s + i) = get_or-map-range_with_len (byte_of F) s n i (s + i) 0 within refl in
        elim (cases_lt i m) [
          | inl first ↦ get_or_append_left (bytes_from F s m) (bytes_from F (s + m) (n - m)) 0 i (omega (arith, front, first)) ∙
              (get_or-map-range_with_len (byte_of F) s m i (s + i) 0 first refl ∙ sym whole)
          | inr second ↦ get_or-append_right (bytes_from F s m) (bytes_from F (s + m) (n - m)) m i 0 front second
              ∙ (get_or-map-range_with_len (byte_of F) (s + m) (n - m) (i - m) (s + i) 0 (omega (arith, second, within)) (omega (arith, second)) ∙ sym whole)
        ]

-- at most n bytes from s on
pub read_is : (F : ℕ → ChunkState) (len s n from count : ℕ) → from ≡ min s len → count ≡ min n (len - from) →
    bytes_from F from count ≡ bytes_at (contents len F) s n
read_is F len s n from count start many = ext_get_or 0 (bytes_from F from count) (bytes_at (contents len F) s n) (here ∙ sym there) each
  where
    here : length (bytes_from F from count) ≡ count
    here = length-map-range_with_len (byte_of F) from count

    there : length (bytes_at (contents len F) s n) ≡ count
    there = omega (arith, length-take {A = ℕ}, length-drop {A = ℕ}, length_contents len F, start, many)

    each : (i : ℕ) → i < length (bytes_from F from count) → get_or (bytes_from F from count) i 0 ≡ get_or (bytes_at (contents len F) s n) i 0
    each i below =
        let within : i < count = omega (arith, below, here) in
        let same : from ≡ s = omega (arith, start, many, within) in
        let read : get_or (bytes_at (contents len F) s n) i 0 ≡ byte_of F (s + i) =
        get_or-take n (drop s (contents len F)) i 0 (omega (arith, many, within)) ∙
        (get_or-drop s (contents len F) i 0 ∙ contents_within len F (s + i) (omega (arith, many, within, same))) in
        get_or-map-range_with_len (byte_of F) from count i (s + i) 0 within (omega (arith, same)) ∙ sym read

-- the bytes after the first m
pub behind_all : (m : ℕ) (new : List ℕ) → length new ≤ 65536 → take 65536 (drop m new) ≡ drop m new
behind_all m new few = take_all 65536 (drop m new) (omega (arith, few, length-drop m new))

pub length_read : (F : ℕ → ChunkState) (len s n : ℕ) → length (bytes_at (contents len F) s n) ≡ min n (len - s)
length_read F len s n = omega (arith, length-take {A = ℕ}, length-drop {A = ℕ}, length_contents len F)

pub none_past : (F : ℕ → ChunkState) (len s n : ℕ) (xs : List ℕ) → len ≤ s → xs ≡ xs ++ bytes_at (contents len F) s n
none_past F len s n xs past =
    let none : bytes_at (contents len F) s n ≡ [] = ap (take n) (drop_all s (contents len F) (omega (arith, past, length_contents len F))) ∙ take-nil n in
    rw none (sym (append-nil xs))
