-- How many bytes words have, at most.
use Rattle.std.proofs.Common.{◌≡◌, ℕ, ◌+◌, ◌*◌, ◌≤◌, ◌<◌, List, [], ◌∷◌, ◌++◌, length, replicate, codes, decimal, Option, Some, None, refl, ap, inl, inr, arith}
use Rattle.std.specs.List.{flat_map}
use Rattle.std.proofs.lemmas.List.{length-replicate}
use Rattle.std.proofs.lemmas.Bool.{cases_lt}
use Rattle.std.proofs.lemmas.Fmt.{length-decimal-le}
use Rattle.call_types.specs.declared.limits.TheConstants.{GIVEN_BYTES_MAX}
use Rattle.script_text.specs.Lines.{hex_pair, one_byte, data_text, data_word, written_out_max}
use Rattle.script_text.specs.Proved.Room.{data_room}
use Rattle.script_text.proofs.Repeated.{many_same, few_same}

-- two digits for each byte
pub pairs_long : (bytes : List ℕ) → length (flat_map hex_pair bytes) ≡ 2 * length bytes
pairs_long [] = refl
pairs_long (b ∷ bytes) = let e : length (flat_map hex_pair bytes) ≡ 2 * length bytes = pairs_long bytes in omega arith

-- data that is written out
written_room : (byte : Option ℕ) (bytes : List ℕ) → byte ≡ None → length (data_text byte bytes) ≡ 2 * length bytes + 1
written_room byte bytes e = rw e (let p : length (flat_map hex_pair bytes) ≡ 2 * length bytes = pairs_long bytes in omega arith)

pub written_out_room : (bytes : List ℕ) → one_byte bytes ≡ None → 2 * length bytes + 1 ≤ data_room bytes
written_out_room bytes e = let p : length (data_word bytes) ≡ 2 * length bytes + 1 = written_room (one_byte bytes) bytes e in omega arith

-- what stands in memory
text_short : (byte : Option ℕ) (bytes : List ℕ) → length bytes ≤ GIVEN_BYTES_MAX → length (data_text byte bytes) ≤ 2 * length bytes + 8
text_short None bytes few = let p : length (flat_map hex_pair bytes) ≡ 2 * length bytes = pairs_long bytes in omega arith
text_short (Some b) bytes few = let p : length (decimal (length bytes)) ≤ 5 = length-decimal-le 5 (length bytes) (omega arith) (omega arith) (omega arith) in
    omega arith

pub slice_room : (bytes : List ℕ) → length bytes ≤ GIVEN_BYTES_MAX → data_room bytes ≤ 2 * length bytes + 64
slice_room bytes few = let p : length (data_word bytes) ≤ 2 * length bytes + 8 = text_short (one_byte bytes) bytes few in omega arith

-- one byte, so many times
pub few_room : (n b : ℕ) → n ≤ written_out_max → data_room (replicate n b) ≡ 2 * n + 21
few_room n b few =
    let text : data_word (replicate n b) ≡ codes "x" ++ flat_map hex_pair (replicate n b) = few_same n b few in
    let long : length (data_word (replicate n b)) ≡ length (codes "x" ++ flat_map hex_pair (replicate n b)) = ap length text in
    let pairs : length (flat_map hex_pair (replicate n b)) ≡ 2 * length (replicate n b) = pairs_long (replicate n b) in
    let count : length (replicate n b) ≡ n = length-replicate n b in
    omega arith

many_room : (n b : ℕ) → written_out_max < n → n ≤ GIVEN_BYTES_MAX → data_room (replicate n b) ≤ 28
many_room n b many few =
    let text : data_word (replicate n b) ≡ hex_pair b ++ (codes "*" ++ decimal n) = many_same n b many in
    let long : length (data_word (replicate n b)) ≡ length (hex_pair b ++ (codes "*" ++ decimal n)) = ap length text in
    let short : length (decimal n) ≤ 5 = length-decimal-le 5 n (omega arith) (omega arith) (omega arith) in
    omega arith

pub same_room : (n b : ℕ) → length (replicate n b) ≤ GIVEN_BYTES_MAX → data_room (replicate n b) ≤ 64
same_room n b few =
    let count : length (replicate n b) ≡ n = length-replicate n b in
    elim (cases_lt written_out_max n) [
      | inl lt ↦ (let room : data_room (replicate n b) ≤ 28 = many_room n b lt (omega arith) in omega arith)
      | inr le ↦ (let room : data_room (replicate n b) ≡ 2 * n + 21 = few_room n b le in omega arith)
    ]
