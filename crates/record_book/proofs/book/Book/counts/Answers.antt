use Rattle.record_book.proofs.CountLemmas.{counts_of}
use Rattle.record_book.proofs.book.Book.counts.Goals as goal

pub returns-clause-sums : goal.returns-clause-sums
returns-clause-sums g c =
    let inside = c.self.inside in
    rw (← c.self.view_is)
    (counts_of c.bytes_of_pipe.ensures.bytes c.bytes_of_pipe.ensures.small inside.journal inside.tallies inside.house c.sums.result c.self.invariant
    c.is_run.ensures.is_legal c.is_run.ensures.reserve
    c.sums.ensures.records c.sums.ensures.bytes_in c.sums.ensures.bytes_out)
