use Rattle.std.proofs.Common.{rules, ◌≡◌, None}
use Rattle.record_book.specs.Refusals.{start_refusal}
use Rattle.record_book.proofs.book.Book.start.Goals as goal

pub returns-in_err-record_call-clause-refused : goal.returns-in_err-record_call-clause-refused
returns-in_err-record_call-clause-refused g c =
    let none : start_refusal c.args.self.now c.args.seat.now c.args.call ≡ None = search rules in
    rw none (search rules)
