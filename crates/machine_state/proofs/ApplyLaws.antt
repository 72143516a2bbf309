-- What holds before a change holds between its edits, too.
use Rattle.std.proofs.Common.{◌≡◌, ℕ, ◌∙◌, true, cond, List, [], ◌∷◌, ◌++◌, Option, None, Some, length, set, refl, ap, sym, arith, inl, inr}
use Rattle.std.proofs.Math.ListN.{get_or-eq_default}
use Rattle.slots.specs.Slots.{slot}
use Rattle.posix_model.specs.Pipes.{fifo_at, pipe_of_fifo, unopened}
use Rattle.posix_model.specs.Change.{with_files, with_processes}
use Rattle.posix_model.specs.Proved.Whole.{is_regular_file}
use Rattle.posix_model.specs.Proved.Fits.{FilesFit, TableProper}
use Rattle.machine_state.specs.Proved.Types.{World, File, Fifo, Mode, FileEdit, ProcessEdit, TableEdit}
use Rattle.posix_model.specs.declared.world.File.TheVariants as file
use Rattle.call_types.specs.declared.description.Mode.TheVariants as mode
use Rattle.posix_model.specs.declared.change.FileEdit.TheVariants as on_files
use Rattle.posix_model.specs.declared.change.ProcessEdit.TheVariants as on_process
use Rattle.posix_model.specs.declared.change.TableEdit.TheVariants as on_table
use Rattle.file_table.specs.Proved.Files.{openings}
use Rattle.machine_state.specs.Proved.Targets.{EndsAreTheirs}
use Rattle.machine_state.specs.Held.{Held}
use Rattle.machine_state.specs.Proved.Room.{HasTableRoom}
use Rattle.slots.proofs.SlotLaws.{same_or_not}
use Rattle.machine_state.proofs.SlotLaws.{slot_set, slot_added}

-- a FIFO on the same pipe, opened as often, or none
pub record SameFifo (old new : Option Fifo) : Type 0 where
  pub pipe : pipe_of_fifo new ≡ pipe_of_fifo old
  pub opened : (m : Mode) → openings m new ≡ openings m old

same_fifo : (old new : Option Fifo) → new ≡ old → SameFifo old new
same_fifo old new same = record { pipe = ap pipe_of_fifo same; opened = λ m. ap (openings m) same }

-- a regular file that is written is no FIFO
written : (files : List (Option File)) (k : ℕ) (bytes : List ℕ) (n : ℕ) → is_regular_file (slot files k) ≡ true →
    fifo_at (slot (set files k (Some (file.Regular bytes))) n) ≡ fifo_at (slot files n)
written files k bytes n regular = by_slot (slot files k) refl regular
  where
    by_slot : (x : Option File) → slot files k ≡ x → is_regular_file x ≡ true → fifo_at (slot (set files k (Some (file.Regular bytes))) n) ≡ fifo_at
        (slot files n)
    by_slot None is h = cc
    by_slot (Some (file.Fifo fifo)) is h = cc
    by_slot (Some (file.Regular old)) is h = elim (same_or_not k n) [
      | inl same ↦
          let was : fifo_at (slot files n) ≡ None = ap (λ k. fifo_at (slot files k)) (sym same.0) ∙ ap fifo_at is in
          ap fifo_at (slot_set files k (file.Regular old) (Some (file.Regular bytes)) n is ∙
          ap (λ b. cond b (Some (file.Regular bytes)) (slot files n)) same.1) ∙ sym was
      | inr other ↦ ap fifo_at (slot_set files k (file.Regular old) (Some (file.Regular bytes)) n is ∙
          ap (λ b. cond b (Some (file.Regular bytes)) (slot files n)) other.1)
    ]

-- a new file is one of which no end was opened
made : (files : List (Option File)) (new : File) (n : ℕ) → SameFifo None (fifo_at (Some new)) →
    SameFifo (fifo_at (slot files n)) (fifo_at (slot (files ++ Some new ∷ []) n))
made files new n fresh = elim (same_or_not (length files) n) [
  | inl same ↦
      let was : fifo_at (slot files n) ≡ None = ap fifo_at (get_or-eq_default files None (omega (arith, same.0))) in
      let now : fifo_at (slot (files ++ Some new ∷ []) n) ≡ fifo_at (Some new) =
      ap fifo_at (slot_added files (Some new) n ∙ ap (λ b. cond b (Some new) (slot files n)) same.1) in
      rw (was, now) fresh
  | inr other ↦
      same_fifo (fifo_at (slot files n)) (fifo_at (slot (files ++ Some new ∷ []) n))
      (ap fifo_at (slot_added files (Some new) n ∙ ap (λ b. cond b (Some new) (slot files n)) other.1))
]

fresh_regular : SameFifo None (fifo_at (Some (file.Regular [])))
fresh_regular = record { pipe = refl; opened = λ m. refl }

fresh_fifo : SameFifo None (fifo_at (Some (file.Fifo unopened)))
fresh_fifo = record { pipe = refl; opened = never }
  where
    never : (m : Mode) → openings m (Some unopened) ≡ 0
    never mode.Read = refl
    never mode.Write = refl
    never mode.ReadWrite = refl

pub fifos_same : (w : World) (bytes : List ℕ) (e : FileEdit) → FilesFit w e → (n : ℕ) →
    SameFifo (fifo_at (slot w.files n)) (fifo_at (slot (with_files w bytes e).files n))
fifos_same w bytes (on_files.Bytes f start count) fits n =
    same_fifo (fifo_at (slot w.files n)) (fifo_at (slot (with_files w bytes (on_files.Bytes f start count)).files n)) (written w.files f _ n fits)
fifos_same w bytes (on_files.Resize f len) fits n = same_fifo (fifo_at (slot w.files n)) (fifo_at (slot (with_files w bytes (on_files.Resize f len)).files n))
    (written w.files f _ n fits)
fifos_same w bytes (on_files.MakeFile name) fits n = made w.files (file.Regular []) n fresh_regular
fifos_same w bytes (on_files.MakeFifo name) fits n = made w.files (file.Fifo unopened) n fresh_fifo
fifos_same w bytes other fits n = same_fifo (fifo_at (slot w.files n)) (fifo_at (slot w.files n)) refl

-- an edit of files leaves the descriptions, and one of processes leaves the files too
pub files_keep : (w : World) (bytes : List ℕ) (e : FileEdit) → (with_files w bytes e).descriptions ≡ w.descriptions
files_keep w bytes on_files.Nothing = refl
files_keep w bytes other = refl

pub processes_keep : (w : World) (e : ProcessEdit) → (with_processes w e).descriptions ≡ w.descriptions
processes_keep w on_process.Nothing = refl
processes_keep w other = refl

pub processes_keep_files : (w : World) (e : ProcessEdit) → (with_processes w e).files ≡ w.files
processes_keep_files w on_process.Nothing = refl
processes_keep_files w other = refl

-- what an edit of descriptors asks of numbers, it asks of the descriptions alone
pub proper_after : (w v : World) (e : TableEdit) → v.descriptions ≡ w.descriptions → TableProper w e → TableProper v e
proper_after w v (on_table.Open process fd description) same proper = rw same proper
proper_after w v (on_table.OpenPair process reading writing) same proper = rw same proper
proper_after w v (on_table.OpenEnd process fd file description) same proper = rw same proper
proper_after w v other same proper = tt

-- room stays where the FIFOs are the same
pub room_after : (m n : Held) (e : TableEdit) → n.room.descriptions ≡ m.room.descriptions → n.room.pipes ≡ m.room.pipes →
    ((f : ℕ) → SameFifo (fifo_at (slot m.world.files f)) (fifo_at (slot n.world.files f))) → HasTableRoom m e → HasTableRoom n e
room_after m n (on_table.Open process fd description) descriptions pipes same room = omega (arith, descriptions, room)
room_after m n (on_table.OpenPair process reading writing) descriptions pipes same room = (omega (arith, descriptions, room.0), omega (arith, pipes, room.1))
room_after m n (on_table.OpenEnd process fd f description) descriptions pipes same room = record {
  description = omega (arith, descriptions, room.description);
  pipe = λ unknown. omega (arith, pipes, room.pipe (sym (same f).pipe ∙ unknown));
  opening = omega (arith, (same f).opened description.mode, room.opening);
}
room_after m n other descriptions pipes same room = tt

-- an end is one of its FIFO where the FIFOs are the same
pub theirs_after : (w v : World) → v.descriptions ≡ w.descriptions → ((f : ℕ) → SameFifo (fifo_at (slot w.files f)) (fifo_at (slot v.files f))) →
    EndsAreTheirs w → EndsAreTheirs v
theirs_after w v same fifos theirs n d is g x p stands has on =
    let knows = known_in (slot w.files g) (sym (fifos g).pipe ∙ (ap (λ y. pipe_of_fifo (fifo_at y)) stands ∙ has)) in
    theirs n d (ap (λ ds. slot ds n) (sym same) ∙ is) g knows.0 p knows.1 knows.2 on
  where
    known_in : (y : Option File) → pipe_of_fifo (fifo_at y) ≡ Some p → (z : Fifo) × (y ≡ Some (file.Fifo z)) × (z.pipe ≡ Some p)
    known_in None h = cc
    known_in (Some (file.Regular bytes)) h = cc
    known_in (Some (file.Fifo fifo)) h = (fifo, refl, h)
