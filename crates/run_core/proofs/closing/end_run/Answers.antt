use Rattle.std.proofs.Common.{◌∷◌, [], ◌++◌, map, refl}
use Rattle.std.specs.Arc.{arc_value}
use Rattle.run_core.specs.Run.{held_in}
use Rattle.run_core.proofs.ReceiptLemmas.{received_all}
use Rattle.run_core.proofs.closing.end_run.Goals as goal

pub returns-clause-run : goal.returns-clause-run
returns-clause-run g c =
    let sums = c.gather_with_house.ensures in
    let found = c.in_default.ensures in
    let held = map g.T.HasReceipts.held c.args.holders.now ++ held_in c.args.closed.house ∷ [] in
    record {
      limits_are = refl;
      is_legal = found.is_legal;
      records_are = sums.records;
      taken_is = sums.bytes_in;
      given_is = sums.bytes_out;
      gathered = rw (← c.reserve.ensures.items) sums.gathered;
      all = found.all;
      received_are = received_all c.args.closed.book.history held (map arc_value c.args.traced.now.received.items) found.all;
    }
