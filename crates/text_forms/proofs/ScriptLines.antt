-- A text line by line.
use Rattle.std.proofs.Common.{◌≡◌, ℕ, zero, suc, ◌<◌, ◌≤◌, ◌+◌, Bool, true, false, cond, ltb, List, [], ◌∷◌, ◌++◌, length, get_or, take, drop, map, Option, Some, None, Result, Ok, Err, refl, ap, sym, ◌∙◌, append_assoc, arith}
use Rattle.std.specs.Result.{OnOk}
use Rattle.std.specs.List.{slice_split, slice_get, join_with_byte, onto_first, position_or_len}
use Rattle.std.proofs.lemmas.Bool.{ltb-false, ltb-true}
use Rattle.std.proofs.lemmas.List.Splits.{slice_split_first, length-slice_split}
use Rattle.text_forms.specs.Scripts.{each_line, is_feed}
use Rattle.text_forms.specs.Proved.Scripts.{first_line, cut_line}
use Rattle.script_text.specs.Reading.{line_feed}

-- where no LF ends a line, the text is the one line
one_more : (c : ℕ) (cs : List ℕ) (b : Bool) → is_feed c ≡ b → length (c ∷ cs) ≤ position_or_len is_feed (c ∷ cs)
    → (length cs ≤ position_or_len is_feed cs → slice_split is_feed cs ≡ cs ∷ []) → slice_split is_feed (c ∷ cs) ≡ (c ∷ cs) ∷ []
one_more c cs true e le others = let bad = rw e at le in absurd (omega arith)
one_more c cs false e le others = let further = rw e at le in rw e (ap (onto_first c) (others (omega arith)))

one_part : (text : List ℕ) → length text ≤ position_or_len is_feed text → slice_split is_feed text ≡ text ∷ []
one_part [] le = refl
one_part (c ∷ cs) le = one_more c cs (is_feed c) refl le (one_part cs)

-- a line, an LF and the lines after it
joined : (shown : List ℕ → List ℕ) (line : List ℕ) (parts : List (List ℕ)) → 0 < length parts
    → join_with_byte line_feed (map shown (line ∷ parts)) ≡ shown line ++ line_feed ∷ join_with_byte line_feed (map shown parts)
joined shown line [] lt = absurd (omega arith)
joined shown line (next ∷ parts) lt = refl

-- each line, where the first one and the others are so
abbrev pub FirstOf : (List ℕ → List ℕ) → List ℕ → List ℕ → List ℕ → Type 0
FirstOf shown text line rest = each_line shown text ≡ shown line ++ line_feed ∷ each_line shown rest

parts_of : (shown : List ℕ → List ℕ) (text line rest : List ℕ) → slice_split is_feed text ≡ line ∷ slice_split is_feed rest → FirstOf shown text line rest
parts_of shown text line rest is =
    let some : 0 < length (slice_split is_feed rest) = omega (arith, length-slice_split is_feed rest) in
    ap (λ (parts : List (List ℕ)). join_with_byte line_feed (map shown parts)) is ∙ joined shown line (slice_split is_feed rest) some

-- an LF ends the first line, or none ends the text
abbrev pub feed_at : List ℕ → Bool → Option ℕ
feed_at text there = cond there (Some (position_or_len is_feed text)) None

cut_here : (shown : List ℕ → List ℕ) (text line rest : List ℕ) (b : Bool) → ltb (position_or_len is_feed text) (length text) ≡ b
    → Some (line, rest) ≡ cut_line text (feed_at text b) → FirstOf shown text line rest
cut_here shown text line rest true t found =
    let same : (line, rest) ≡ (take (position_or_len is_feed text) text, drop (position_or_len is_feed text + 1) text) = cc in
    let front = ap (λ (parts : List ℕ × List ℕ). parts.0) same in
    let end = ap (λ (parts : List ℕ × List ℕ). parts.1) same in
    let first = slice_split_first is_feed text 0 (ltb-true (position_or_len is_feed text) (length text) t) in
    rw (front, end) (parts_of shown text (take (position_or_len is_feed text) text) (drop (position_or_len is_feed text + 1) text) first)
cut_here shown text line rest false t found = absurd cc

-- a text is its first line, and then the others
each_line_is : (shown : List ℕ → List ℕ) (text line rest : List ℕ) → Some (line, rest) ≡ first_line text → FirstOf shown text line rest
each_line_is shown text line rest h = cut_here shown text line rest (ltb (position_or_len is_feed text) (length text)) refl h

uncut : (shown : List ℕ → List ℕ) (text : List ℕ) (b : Bool) → ltb (position_or_len is_feed text) (length text) ≡ b → None ≡ cut_line text (feed_at text b)
    → each_line shown text ≡ shown text
uncut shown text true t found = absurd cc
uncut shown text false t found =
    let one = one_part text (ltb-false (position_or_len is_feed text) (length text) t) in
    ap (λ (parts : List (List ℕ)). join_with_byte line_feed (map shown parts)) one

-- or it is the one line
each_line_ends : (shown : List ℕ → List ℕ) (text : List ℕ) → None ≡ first_line text → each_line shown text ≡ shown text
each_line_ends shown text h = uncut shown text (ltb (position_or_len is_feed text) (length text)) refl h

-- the last line is written
pub line_last : {R E : Type 0} (result : Result R E) (shown : List ℕ → List ℕ) (old new text total : List ℕ) → None ≡ first_line text
    → old ++ each_line shown text ≡ total → OnOk result (new ≡ old ++ shown text) → OnOk result (new ≡ total)
line_last (Ok done) shown old new text total h so_far put = put ∙ ap (λ (end : List ℕ). old ++ end) (sym (each_line_ends shown text h)) ∙ so_far
line_last (Err fault) shown old new text total h so_far put = put

-- one line more is written
pub line_on : (shown : List ℕ → List ℕ) (old new full text line rest total : List ℕ) → Some (line, rest) ≡ first_line text
    → new ≡ old ++ shown line → full ≡ new ++ line_feed ∷ [] → old ++ each_line shown text ≡ total → full ++ each_line shown rest ≡ total
line_on shown old new full text line rest total h put pushed so_far =
    rw (pushed, put, ← so_far, each_line_is shown text line rest h) (simp append_assoc)

-- the line at a place, from 1
pub line_found : (lines : List (List ℕ)) (above : ℕ) (line : List ℕ) → Some line ≡ slice_get lines above → line ≡ get_or lines above []
line_found [] above line h = absurd cc
line_found (first ∷ lines) zero line h = cc
line_found (first ∷ lines) (suc above) line h = line_found lines above line h

pub line_missing : (lines : List (List ℕ)) (above : ℕ) → None ≡ slice_get lines above → [] ≡ get_or lines above []
line_missing [] above h = refl
line_missing (first ∷ lines) zero h = absurd cc
line_missing (first ∷ lines) (suc above) h = line_missing lines above h
