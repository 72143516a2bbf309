use Rattle.std.proofs.Common.{ℕ, Bool, List, ◌++◌, sym, subst}
use Rattle.frame_codec.specs.Proved.Filling.{Begun, Completes, ReadsTo}
use Rattle.frame_codec.proofs.ReadingOn.{reads_none, reads_more, enough_at_first}
use Rattle.frame_codec.proofs.decoder.read_in.Goals as goal

pub returns-in-Stopped-clause-ok : goal.returns-in-Stopped-clause-ok
returns-in-Stopped-clause-ok g c =
    let completes = subst (λ (most : ℕ). Completes most c.args.held.now.items c.complete.new.held.items c.args.piece.now c.in_ok-taken.taken) c.most.ensures
    c.in_ok-taken.ensures.ok in
    let here = subst (λ (bytes : List ℕ). Begun g.K.FrameKind.spells g.K.FrameKind.most bytes c.in_ok-stop.field-0) c.as_slice.ensures.value
    c.in_ok-stop.ensures in
    let stops = subst (λ begins. Begun g.K.FrameKind.spells g.K.FrameKind.most c.complete.new.held.items begins) c.in-Stopped.is here in
    reads_none g.K.FrameKind.spells g.K.FrameKind.most g.T.ValueTaker.takes c.args.held.now.items c.complete.new.held.items c.args.piece.now c.in_ok-taken.taken
    c.args.taker.now c.in-Stopped.stop
    completes stops

pub returns-then-not-branch-clause-ok : goal.returns-then-not-branch-clause-ok
returns-then-not-branch-clause-ok g c =
    let completes = subst (λ (most : ℕ). Completes most c.args.held.now.items c.complete.new.held.items c.args.piece.now c.in_ok-taken.taken) c.most.ensures
    c.in_ok-taken.ensures.ok in
    let here = subst (λ (bytes : List ℕ). Begun g.K.FrameKind.spells g.K.FrameKind.most bytes c.in_ok-stop.field-0) c.as_slice.ensures.value
    c.in_ok-stop.ensures in
    let whole = subst (λ begins. Begun g.K.FrameKind.spells g.K.FrameKind.most c.complete.new.held.items begins) c.in-Whole.is here in
    let last = subst (λ (more : Bool). g.T.ValueTaker.takes c.args.taker.now c.take.new.self c.in-Whole.value more) c.if-not-branch.true
    c.in_ok-take-in-Whole.ensures in
    enough_at_first g.K.FrameKind.spells g.K.FrameKind.most g.T.ValueTaker.takes c.args.held.now.items c.complete.new.held.items c.args.piece.now
    c.in_ok-taken.taken c.in-Whole.value c.in-Whole.len
    c.args.taker.now c.take.new.self completes whole last

pub returns-in_ok-read-in-Whole-clause-ok : goal.returns-in_ok-read-in-Whole-clause-ok
returns-in_ok-read-in-Whole-clause-ok g c =
    let completes = subst (λ (most : ℕ). Completes most c.args.held.now.items c.complete.new.held.items c.args.piece.now c.in_ok-taken.taken) c.most.ensures
    c.in_ok-taken.ensures.ok in
    let here = subst (λ (bytes : List ℕ). Begun g.K.FrameKind.spells g.K.FrameKind.most bytes c.in_ok-stop.field-0) c.as_slice.ensures.value
    c.in_ok-stop.ensures in
    let whole = subst (λ begins. Begun g.K.FrameKind.spells g.K.FrameKind.most c.complete.new.held.items begins) c.in-Whole.is here in
    let more = subst (λ (more : Bool). g.T.ValueTaker.takes c.args.taker.now c.take.new.self c.in-Whole.value more) c.if-not-branch.false
    c.in_ok-take-in-Whole.ensures in
    let after = subst (λ (bytes : List ℕ). ReadsTo g.K.FrameKind.spells g.K.FrameKind.most g.T.ValueTaker.takes bytes c.read_on-in-Whole.new.held.items
    c.take.new.self c.read_on-in-Whole.new.taker c.in_ok-read-in-Whole.read) c.split_at.ensures.back c.in_ok-read-in-Whole.ensures.ok in
    subst (λ read. ReadsTo g.K.FrameKind.spells g.K.FrameKind.most g.T.ValueTaker.takes (c.args.held.now.items ++ c.args.piece.now)
    c.read_on-in-Whole.new.held.items c.args.taker.now c.read_on-in-Whole.new.taker read) (sym c.further.ensures)
    (reads_more g.K.FrameKind.spells g.K.FrameKind.most g.T.ValueTaker.takes c.args.held.now.items c.complete.new.held.items c.args.piece.now
    c.read_on-in-Whole.new.held.items c.in_ok-taken.taken c.in-Whole.value c.in-Whole.len
    c.args.taker.now c.take.new.self c.read_on-in-Whole.new.taker c.in_ok-read-in-Whole.read completes whole more after)
