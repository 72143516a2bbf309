use Rattle.std.proofs.Common.{subst}
use Rattle.logged_streams.specs.Streams.{LoggedReaderState}
use Rattle.job_core.specs.Show.{ShowEnds}
use Rattle.fdref.proofs.PerformLemmas.{show_of}
use Rattle.job_core.proofs.ShowLemmas.{nothing_shown}
use Rattle.fdref.proofs.perform.show_at.Goals as goal

pub returns-in-Some : goal.returns-in-Some
returns-in-Some g c =
    show_of c.args.form _ _ c.args.writer.now c.show.new.writer c.show.result c.in-Some.ensures
    (subst (λ (r : LoggedReaderState). ShowEnds c.args.form r.remaining c.args.writer.now c.show.new.writer c.show.result) c.new-reader.ensures
    c.show.ensures.ends)

pub returns-in-None : goal.returns-in-None
returns-in-None g c = nothing_shown c.args.form (g.F.Opens.bytes_at c.args.files.now c.args.path.now) c.args.writer.now
