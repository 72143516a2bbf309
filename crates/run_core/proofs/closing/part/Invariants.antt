-- The seats so far are parted, and there is room for the others.
use Rattle.std.proofs.Common.{◌≡◌, ◌+◌, ◌≤◌, map, length, vec_len, vec_capacity}
use Rattle.std.specs.Vec.Iter.{into_iter_len}
use Rattle.run_core.proofs.closing.part.Given as goal

abbrev pub invariant-loop-seat : goal.invariant-loop-seat
invariant-loop-seat g l = record {
  receipts : map (λ r. r.items) l.receipts.items ≡ map (λ s. s.receipts) l.yielded;
  shares : vec_len l.shares ≡ length l.yielded;
  counted : l.shares.items ≡ map (λ s. s.counted) l.yielded;
  receipts_room : vec_len l.receipts + into_iter_len l.seat-iterator ≤ vec_capacity l.receipts;
  shares_room : vec_len l.shares + into_iter_len l.seat-iterator ≤ vec_capacity l.shares;
}
