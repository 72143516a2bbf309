use Rattle.trace_writer.proofs.MigratingLemmas as laws
use Rattle.trace_writer.proofs.migrate.MigratingTakesLoggedWriter.take.Goals as goal

pub returns-in-Ok : goal.returns-in-Ok
returns-in-Ok g c first was input h few =
    laws.piece_taken c.args.piece.now was c.args.writer.now c.write_piece.new.writer c.args.self.now.migration c.write_piece.new.migration _ input h few
    c.in-Ok.ensures

pub returns-in-Err : goal.returns-in-Err
returns-in-Err g c first was input h few =
    laws.piece_stopped c.args.piece.now was c.args.writer.now c.write_piece.new.writer c.args.self.now.migration c.write_piece.new.migration c.in-Err.fault
    input h few c.in-Err.ensures
