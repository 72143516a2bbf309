use Rattle.std.proofs.Common.{◌∙◌, ℕ, None, Some, arith, length, subst}
use Rattle.logged_streams.specs.Proved.Pieces.{ReadsPiece}
use Rattle.logged_streams.proofs.ReadingLemmas as laws
use Rattle.logged_streams.proofs.reading.read_often.Goals as goal

pub returns-in-Some-clause-reads : goal.returns-in-Some-clause-reads
returns-in-Some-clause-reads g c =
    laws.read_over g.T.Takes.has_taken g.T.Takes.has_told (length c.args.buffer.now) c.args.most c.loop-turn._turn c.args.reader.now c.loop-turn.reader
    c.read_piece.new.reader c.args.taker.now c.args.out.now c.loop-turn.taker c.loop-turn.out
    c.read_piece.new.taker c.read_piece.new.out c.in-Some.end (omega (arith, c.loop-turn-test.true)) c.requires.short c.loop-turn.invariant.has_read
    (subst (λ (n : ℕ). ReadsPiece g.T.Takes.has_taken g.T.Takes.has_told n c.loop-turn.reader c.read_piece.new.reader c.loop-turn.taker c.loop-turn.out
    c.read_piece.new.taker c.read_piece.new.out (Some c.in-Some.end)) c.loop-turn.invariant.room
    c.in-Some.ensures.reads)

pub loop-turn-preserved : goal.loop-turn-preserved
loop-turn-preserved g c =
    let more = laws.counted_more c.args.reader.now.log c.loop-turn.reader.log c.read_piece.new.reader.log c.loop-turn._turn c.loop-turn.invariant.few
    c.loop-turn.invariant.many c.in-None.ensures.reads.calls in
    record {
      room = c.read_piece.ensures.long ∙ c.loop-turn.invariant.room;
      few = more.0;
      many = more.1;
      may = c.in-None.ensures.reads.logged.0;
      has_read = laws.read_more g.T.Takes.has_taken g.T.Takes.has_told (length c.args.buffer.now) c.args.most c.loop-turn._turn c.args.reader.now
          c.loop-turn.reader c.read_piece.new.reader c.args.taker.now c.args.out.now c.loop-turn.taker
          c.loop-turn.out c.read_piece.new.taker c.read_piece.new.out (omega (arith, c.loop-turn-test.true)) c.requires.short c.loop-turn.invariant.has_read
          (subst (λ (n : ℕ). ReadsPiece g.T.Takes.has_taken g.T.Takes.has_told n c.loop-turn.reader c.read_piece.new.reader c.loop-turn.taker c.loop-turn.out
          c.read_piece.new.taker c.read_piece.new.out None) c.loop-turn.invariant.room
          c.in-None.ensures.reads);
    }
