use Rattle.record_book.proofs.PlanLemmas.{start_is_free}
use Rattle.record_book.proofs.book.Book.record_call.Goals as goal

pub is_planned-requires-clause-comes : goal.is_planned-requires-clause-comes
is_planned-requires-clause-comes g c =
    rw (c.in-Ok.ensures, c.progress.ensures, c.progress-2.ensures, c.pid-actor.ensures)
    (start_is_free c.args.self.now c.args.seat.now c.args.call c.requires.free).comes

pub is_planned-requires-clause-roomy : goal.is_planned-requires-clause-roomy
is_planned-requires-clause-roomy g c =
    rw (c.progress-2.ensures, c.pid-actor.ensures) (start_is_free c.args.self.now c.args.seat.now c.args.call c.requires.free).roomy
