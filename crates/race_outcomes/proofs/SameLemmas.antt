-- Files that are compared piece by piece.
use Rattle.std.proofs.Common.{◌≡◌, ◌∙◌, ◌+◌, ◌*◌, ◌++◌, ℕ, List, take, ap, sym, arith}
use Rattle.std.proofs.Math.Seq.{take-add}
use Rattle.call_types.specs.declared.limits.TheConstants.{TRANSFER_MAX}
use Rattle.posix_model.specs.Bytes.{bytes_at}

one_piece_on : (piece : ℕ) (xs : List ℕ) → take ((piece + 1) * TRANSFER_MAX) xs ≡ take (piece * TRANSFER_MAX) xs ++ bytes_at xs
    (piece * TRANSFER_MAX) TRANSFER_MAX
one_piece_on piece xs =
    let further : (piece + 1) * TRANSFER_MAX ≡ piece * TRANSFER_MAX + TRANSFER_MAX = omega arith in
    ap (λ n. take n xs) further ∙ take-add (piece * TRANSFER_MAX) TRANSFER_MAX xs

-- two files that are the same up to a piece, and in it, are the same up to the next
pub same_further : (piece : ℕ) (xs ys : List ℕ) → take (piece * TRANSFER_MAX) xs ≡ take (piece * TRANSFER_MAX) ys →
    bytes_at xs (piece * TRANSFER_MAX) TRANSFER_MAX ≡ bytes_at ys (piece * TRANSFER_MAX) TRANSFER_MAX → take ((piece + 1) * TRANSFER_MAX) xs ≡ take
    ((piece + 1) * TRANSFER_MAX) ys
same_further piece xs ys front here =
    one_piece_on piece xs
    ∙ ap (λ zs. zs ++ bytes_at xs (piece * TRANSFER_MAX) TRANSFER_MAX) front
    ∙ ap (λ zs. take (piece * TRANSFER_MAX) ys ++ zs) here
    ∙ sym (one_piece_on piece ys)
