-- Data of one byte, and how it is written.
use Rattle.std.proofs.Common.{◌≡◌, ℕ, zero, suc, ◌≤◌, ◌<◌, true, eqb, ◌++◌, replicate, codes, decimal, refl, ap, arith}
use Rattle.std.specs.List.{flat_map, list_all}
use Rattle.std.proofs.lemmas.List.{length-replicate}
use Rattle.std.proofs.lemmas.Bool.{lt-ltb, le-ltb}
use Rattle.script_text.specs.Lines.{hex_pair, written_out_max, data_word}

equal : (b : ℕ) → eqb b b ≡ true
equal b = grind arith

all_equal : (n b : ℕ) → list_all (λ x. eqb x b) (replicate n b) ≡ true
all_equal zero b = refl
all_equal (suc n) b = rw (equal b) (all_equal n b)

-- more than are written out are a byte and a count
pub many_same : (n b : ℕ) → written_out_max < n → data_word (replicate n b) ≡ hex_pair b ++ (codes "*" ++ decimal n)
many_same zero b lt = absurd (omega arith)
many_same (suc n) b lt = rw (length-replicate n b, all_equal (suc n) b, lt-ltb 16 (suc n) lt) (ap (λ (count : ℕ). hex_pair b ++ (codes "*" ++ decimal count))
    (length-replicate (suc n) b))

-- the others are written out
pub few_same : (n b : ℕ) → n ≤ written_out_max → data_word (replicate n b) ≡ codes "x" ++ flat_map hex_pair (replicate n b)
few_same zero b le = refl
few_same (suc n) b le = rw (length-replicate n b, le-ltb 16 (suc n) le) refl
