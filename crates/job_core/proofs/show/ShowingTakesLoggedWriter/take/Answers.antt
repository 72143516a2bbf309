use Rattle.std.proofs.Common.{length}
use Rattle.job_core.proofs.ShowLemmas as laws
use Rattle.job_core.proofs.show.ShowingTakesLoggedWriter.take.Goals as goal

pub show_piece-requires : goal.show_piece-requires
show_piece-requires g c =
    record {
      few = laws.few_shown c.requires.first.trace c.requires.was c.args.self.now.trace c.args.writer.now c.requires.input
          (length c.args.piece.now) c.requires.taken c.requires.few;
    }

pub returns-in-Some : goal.returns-in-Some
returns-in-Some g c first was input h few =
    laws.shown_no_more first.trace c.args.self.now.trace c.show_piece.new.trace was c.args.writer.now c.show_piece.new.writer input c.args.piece.now
    c.in-Some.ended c.headers_go_on.ensures h c.in-Some.ensures

pub returns-in-None : goal.returns-in-None
returns-in-None g c first was input h few =
    laws.shown_more first.trace c.args.self.now.trace c.show_piece.new.trace was c.args.writer.now c.show_piece.new.writer input c.args.piece.now h
    c.in-None.ensures
