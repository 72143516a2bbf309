use Rattle.std.proofs.Common.{◌++◌, map}
use Rattle.std.specs.Arc.{arc_value}
use Rattle.run_core.specs.Receipts.{Agrees, IsBefore, IsReceivedAt, IsSound}
use Rattle.run_core.proofs.ReceiptLemmas.{neither_holds}
use Rattle.run_core.proofs.comparison.compare_known.Goals as goal

-- below both places all agrees
pub returns-clause-agree : goal.returns-clause-agree
returns-clause-agree g c = λ p below.
    let both = c.lowest.ensures.both p below in
    record { sound = c.in_ok-unsound.ensures.sound p both.0; received_is = c.first_difference.ensures.same p both.1 }

-- the lower of a place that is not sound and of one that was not received
pub returns-clause-broken : goal.returns-clause-broken
returns-clause-broken g c =
    let held = map g.T.HasReceipts.held c.args.holders.now ++ map g.U.HasReceipts.held c.args.others.now in
    let received = map arc_value c.args.received.now in
    neither_holds _ _ _ (λ q. IsSound c.args.book.now.history held q) (λ q. IsReceivedAt c.args.book.now.history received q)
    (λ q. Agrees c.args.book.now.history held received q) (λ q. IsBefore q c.in_ok-unsound.unsound)
    (λ q all. all.sound) (λ q all. all.received_is) c.lowest.ensures.either c.in_ok-unsound.ensures.broken c.first_difference.ensures.differs

pub returns-clause-decided : goal.returns-clause-decided
returns-clause-decided g c = λ p below. c.first_difference.ensures.decided p (c.lowest.ensures.both p below).1
