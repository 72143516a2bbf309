use Rattle.std.proofs.Common.{◌≡◌, ◌≤◌, drop}
use Rattle.script_text.specs.ReadingNumbers.{digits_on}
use Rattle.script_text.proofs.number.digits_number.Given as goal

abbrev pub invariant-loop-digit : goal.invariant-loop-digit
invariant-loop-digit l = record {
  small : l.number ≤ l.most;
  same : digits_on l.most l.number (drop l.digit-index l.digits) ≡ digits_on l.most 0 l.digits;
}
