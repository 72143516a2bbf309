use Rattle.std.proofs.Common.{map, None}
use Rattle.std.specs.Arc.{arc_value}
use Rattle.record_book.specs.Book.{closed_book}
use Rattle.record_book.proofs.CountLemmas.{counts_of}
use Rattle.record_book.proofs.closing.ClosedBook.counts.Goals as goal

pub returns : goal.returns
returns g c =
    let inside = c.self.inside in
    let is = c.self.invariant in
    rw (← c.self.view_is)
    (counts_of c.bytes_of_pipe.ensures.bytes c.bytes_of_pipe.ensures.small (closed_book inside.limits (map arc_value inside.records.items) inside.is_traced)
    inside.tallies None c.sums.result is.counted
    is.is_legal is.reserve c.sums.ensures.records c.sums.ensures.bytes_in c.sums.ensures.bytes_out)
