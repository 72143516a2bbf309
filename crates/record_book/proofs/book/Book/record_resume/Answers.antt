use Rattle.record_book.proofs.book.Book.record_resume.Goals as goal

pub is_planned-requires-clause-roomy : goal.is_planned-requires-clause-roomy
is_planned-requires-clause-roomy g c = rw (c.progress-2.ensures, c.pid-actor.ensures) c.requires.roomy
