use Rattle.std.proofs.Common.{◌++◌, ap, subst, ◌∙◌}
use Rattle.frame_codec.specs.Decoding.{DecoderState}
use Rattle.frame_codec.specs.Proved.Filling.{ReadsTo}
use Rattle.frame_codec.specs.Taking.{FeedsTo}
use Rattle.frame_codec.specs.declared.decoder.FedTo.TheVariants as fed
use Rattle.frame_codec.proofs.ReadingOn.{goes_on}
use Rattle.frame_codec.proofs.decoder.Decoder.go_on.Goals as goal

pub returns-in-Ok-Up-clause-fed : goal.returns-in-Ok-Up-clause-fed
returns-in-Ok-Up-clause-fed g c =
    let old : DecoderState = record { before = c.self.inside.before; held = c.self.inside.held.items; progress = c.self.inside.progress } in
    let new : DecoderState = record {
      before = c.saturating_add-self-inside.result;
      held = c.read_in.new.held.items;
      progress =
          c.progress_of-self-inside.result;
    } in
    let read = subst (λ read. ReadsTo g.K.FrameKind.spells g.K.FrameKind.most g.T.ValueTaker.takes (old.held ++ c.args.piece.now) new.held c.args.taker.now
    c.read_in.new.taker read) c.in-Ok-Up.field-0-is c.in-Ok-Up.ensures.ok in
    subst (λ (state : DecoderState). FeedsTo g.K.FrameKind.spells g.K.FrameKind.most g.T.ValueTaker.takes state new c.args.piece.now c.args.taker.now
    c.read_in.new.taker (fed.All c.progress_of-self-inside.result)) c.self.view_is
    (goes_on g.K.FrameKind.spells g.K.FrameKind.most g.T.ValueTaker.takes old new c.args.piece.now c.args.taker.now c.read_in.new.taker c.in-Ok-Up.used
    c.in-Ok-Up.stop
    (ap (λ (state : DecoderState). state.progress) c.self.view_is ∙ c.requires) read c.saturating_add-self-inside.ensures c.progress_of-self-inside.ensures)
