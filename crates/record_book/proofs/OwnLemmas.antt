-- What is counted of receipts is their own, and stays so with one receipt more.
use Rattle.std.proofs.Common.{◌≡◌, ◌∙◌, ℕ, ◌≤◌, ◌-◌, Bool, true, false, cond, List, [], ◌∷◌, Option, None, Some, length, sum_by, ap, sym, arith}
use Rattle.std.specs.Prelude.{is_some}
use Rattle.std.specs.Option.{option_map, option_map_or}
use Rattle.std.proofs.lemmas.List.Sums.{sum_by-cons}
use Rattle.call_types.specs.CallTable.{payload_of}
use Rattle.call_types.specs.declared.act.Act.{Act}
use Rattle.call_types.specs.declared.act.Act.TheVariants as act
use Rattle.call_types.specs.declared.outcome.Outcome.{Outcome}
use Rattle.slots.specs.Slots.{slot}
use Rattle.process_table.specs.Processes.{parked_of}
use Rattle.posix_model.specs.Types.{Parked}
use Rattle.posix_model.specs.Turns.{total, took_in, turn, next_turn}
use Rattle.posix_model.specs.declared.world.World.{World}
use Rattle.byte_ledger.specs.Counted.{Counted}
use Rattle.record_book.specs.Seat.{Receipted}
use Rattle.record_book.specs.Counting.{CountsOwn, least_moved, most_moved, least_taken_by, most_taken_by, only_records}
use Rattle.record_book.specs.Proved.Quiet.{AreQuiet}

-- what a turn takes is no more than all that its call has moved
within : (payload : Bool) (now moved : ℕ) → cond payload (now - moved) 0 ≤ now
within true now moved = omega arith
within false now moved = omega arith

taken_next : (parked : Option Parked) (now : ℕ) → option_map_or (took_in now) (option_map next_turn parked) 0 ≤ now
taken_next None now = omega arith
taken_next (Some parked) now = within (is_some (payload_of parked.call)) now parked.moved

most_of : (w : World) (actor : ℕ) (a : Act) (told : Outcome) → option_map_or (took_in (total told)) (turn w actor a) 0 ≤ most_moved a told
most_of w actor (act.Call c) told = omega arith
most_of w actor act.Resume told = taken_next (parked_of (slot w.processes actor)) (total told)
most_of w actor other told = omega arith

-- the least is no more than the most
least_most : (a : Act) (told : Outcome) → least_moved a told ≤ most_moved a told
least_most (act.Call c) told = omega arith
least_most other told = omega arith

least_all : (receipts : List Receipted) → sum_by least_taken_by receipts ≤ sum_by most_taken_by receipts
least_all [] = omega arith
least_all (r ∷ rs) =
    let one = least_most r.record_is.act r.record_is.outcome in
    let all = least_all rs in
    let least = sum_by-cons least_taken_by r rs in
    let most = sum_by-cons most_taken_by r rs in
    omega (arith, one, all, least, most)

-- quiet receipts are counted by their number alone
pub own_quiet : (receipts : List Receipted) (c : Counted) → c ≡ only_records (length receipts) → AreQuiet receipts → CountsOwn c receipts
own_quiet receipts c is quiet =
    let records : c.records ≡ length receipts = ap (λ (x : Counted). x.records) is in
    let taken : c.bytes_in ≡ 0 = ap (λ (x : Counted). x.bytes_in) is in
    let given : c.bytes_out ≡ 0 = ap (λ (x : Counted). x.bytes_out) is in
    let least = least_all receipts in
    record {
      records_are = records;
      given_are = given ∙ sym quiet.give_none;
      taken_least = omega (arith, least, quiet.take_none);
      taken_most = omega (arith, taken);
    }
