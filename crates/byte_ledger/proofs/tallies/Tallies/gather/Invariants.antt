-- The shares so far are together, in each ledger.
use Rattle.std.proofs.Common.{◌≡◌, map, length}
use Rattle.std.specs.Prelude.{sum}
use Rattle.byte_ledger.proofs.tallies.Tallies.gather.Given as goal

abbrev pub invariant-loop-held : goal.invariant-loop-held
invariant-loop-held g l = record {
  records : l.records ≡ record { tally = l.initial.records.tally; held = length l.yielded; sum = sum (map (λ s. s.records) l.yielded) };
  bytes_in : l.bytes_in ≡ record { tally = l.initial.bytes_in.tally; held = length l.yielded; sum = sum (map (λ s. s.bytes_in) l.yielded) };
  bytes_out : l.bytes_out ≡ record { tally = l.initial.bytes_out.tally; held = length l.yielded; sum = sum (map (λ s. s.bytes_out) l.yielded) };
}
