use Rattle.std.proofs.Common.{◌≡◌, ◌∙◌, ℕ, List, Option, ap, sym, subst}
use Rattle.call_types.specs.Stored.{span_bytes}
use Rattle.slots.specs.Slots.{slot}
use Rattle.posix_model.specs.Pipes.{fifo_at}
use Rattle.posix_model.specs.Change.{with_files, with_processes}
use Rattle.machine_state.specs.Proved.Types.{File}
use Rattle.machine_state.proofs.ApplyLaws.{SameFifo, fifos_same, files_keep, processes_keep, processes_keep_files, proper_after, room_after, theirs_after}
use Rattle.machine_state.proofs.machine.Machine.apply.Goals as goal

pub apply_table-requires : goal.apply_table-requires
apply_table-requires c =
    let m = c.args.self.now in
    let n = c.apply_process.new.self in
    let w = m.world in
    let between = with_files w (span_bytes c.args.bytes) c.args.change.files in
    let made : n.world ≡ with_processes between c.args.change.process = c.apply_process.ensures.world ∙
    ap (λ v. with_processes v c.args.change.process) c.apply_files.ensures.world in
    let descriptions : n.world.descriptions ≡ w.descriptions =
    ap (λ v. v.descriptions) made ∙ (processes_keep between c.args.change.process ∙ files_keep w (span_bytes c.args.bytes) c.args.change.files) in
    let files : n.world.files ≡ between.files = ap (λ v. v.files) made ∙ processes_keep_files between c.args.change.process in
    let P : List (Option File) → Type 0 = λ fs. (f : ℕ) → SameFifo (fifo_at (slot w.files f)) (fifo_at (slot fs f)) in
    let fifos : (f : ℕ) → SameFifo (fifo_at (slot w.files f)) (fifo_at (slot n.world.files f)) =
    subst P (sym files) (fifos_same w (span_bytes c.args.bytes) c.args.change.files c.requires.fits.files) in
    record {
      fits = rw made c.requires.fits.table;
      proper = proper_after w n.world c.args.change.table descriptions c.requires.proper.table;
      room = room_after m n c.args.change.table (c.apply_process.ensures.room.descriptions ∙ c.apply_files.ensures.tables.descriptions)
          (c.apply_process.ensures.room.pipes ∙ c.apply_files.ensures.tables.pipes) fifos c.requires.room.table;
      theirs = theirs_after w n.world descriptions fifos c.requires.ends;
    }
