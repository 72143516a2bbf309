use Rattle.std.proofs.Common.{◌≡◌, ℕ, ◌∙◌, true, false, cond, List, Option, None, Some, set, refl, ap, sym}
use Rattle.std.specs.Prelude.{is_some}
use Rattle.std.specs.Option.{option_map}
use Rattle.std.proofs.lemmas.List.{map-set}
use Rattle.std.proofs.Math.Seq.{map-set_same}
use Rattle.std.proofs.Math.ListN.{get_or-map}
use Rattle.slots.specs.Slots.{slot, edited}
use Rattle.posix_model.specs.Sweep.{is_open, open_pipe, without_gone_pipe}
use Rattle.posix_model.specs.Pipes.{fifo_at, pipe_of_fifo}
use Rattle.posix_model.specs.Proved.Whole.{is_regular_file}
use Rattle.machine_state.specs.Proved.Types.{Description, File, Used, FileBody, StoredFile}
use Rattle.posix_model.specs.declared.world.File.TheVariants as file
use Rattle.slots.specs.UsedSlots.{values_in}
use Rattle.slots.specs.Proved.Uses.{with_value}
use Rattle.file_table.specs.declared.stored_file.FileBody.TheVariants as body
use Rattle.file_table.specs.StoredFiles.{file_in, file_slot, file_slots}
use Rattle.machine_state.proofs.UseLaws.{there_values, values_edited}

abbrev pub Files : Type 0
Files = List (Option (Used StoredFile))

pub slot_files : (states : List (Option StoredFile)) (n : ℕ) → slot (file_slots states) n ≡ file_slot (slot states n)
slot_files states n = get_or-map file_slot states n None

pub file_slots_set : (states : List (Option StoredFile)) (n : ℕ) (x : Option StoredFile) → file_slots (set states n x) ≡ set (file_slots states) n (file_slot x)
file_slots_set states n x = map-set file_slot states n x

as_full : (x : Option StoredFile) → is_some (file_slot x) ≡ is_some x
as_full None = refl
as_full (Some state) = refl

-- a file is there where it is stored
pub files_there : (xs : Files) (n : ℕ) → is_some (slot (file_slots (values_in xs)) n) ≡ is_some (slot xs n)
files_there xs n = ap is_some (slot_files (values_in xs) n) ∙ (as_full (slot (values_in xs) n) ∙ there_values xs n)

some_regular : (x : Option File) → is_regular_file x ≡ true → is_some x ≡ true
some_regular None h = cc
some_regular (Some x) h = refl

-- a regular file is stored
pub regular_there : (xs : Files) (n : ℕ) → is_regular_file (slot (file_slots (values_in xs)) n) ≡ true → is_some (slot xs n) ≡ true
regular_there xs n regular = sym (files_there xs n) ∙ some_regular (slot (file_slots (values_in xs)) n) regular

-- an edit of a file is an edit of the file of the world
pub files_edited : (xs : Files) (n : ℕ) (f : StoredFile → StoredFile) (g : File → File) →
    ((stored : StoredFile) → file_in (f stored).body ≡ g (file_in stored.body)) →
    file_slots (values_in (edited n (with_value f) xs)) ≡ edited n g (file_slots (values_in xs))
files_edited xs n f g same =
    ap file_slots (values_edited xs n f) ∙ (file_slots_set (values_in xs) n (option_map f (slot (values_in xs) n)) ∙
    ap (λ y. set (file_slots (values_in xs)) n y) (alike (slot (values_in xs) n) ∙ ap (option_map g) (sym (slot_files (values_in xs) n))))
  where
    alike : (x : Option StoredFile) → file_slot (option_map f x) ≡ option_map g (file_slot x)
    alike None = refl
    alike (Some stored) = ap Some (same stored)

-- an edit that leaves the bytes alone leaves the files of the world
pub files_same : (xs : Files) (n : ℕ) (f : StoredFile → StoredFile) → ((stored : StoredFile) → file_in (f stored).body ≡ file_in stored.body) →
    file_slots (values_in (edited n (with_value f) xs)) ≡ file_slots (values_in xs)
files_same xs n f same =
    ap file_slots (values_edited xs n f) ∙ map-set_same file_slot (values_in xs) n (option_map f (slot (values_in xs) n)) None (alike (slot (values_in xs) n))
  where
    alike : (x : Option StoredFile) → file_slot (option_map f x) ≡ file_slot x
    alike None = refl
    alike (Some stored) = ap Some (same stored)

-- the pipe that a FIFO knows, if one stands there
abbrev pub known : Option StoredFile → Option ℕ
known x = pipe_of_fifo (fifo_at (file_slot x))

-- what a FIFO knows is open, and then it forgets nothing
module _ (ds : List (Option Description)) where
  pub known_open : (x : Option StoredFile) (p : ℕ) → without_gone_pipe ds (file_slot x) ≡ file_slot x → known x ≡ Some p → is_open ds p ≡ true
  known_open None p same knows = cc
  known_open (Some stored) p same knows = by_body stored.body same knows
    where
      by_pipe : (pipe : Option ℕ) → open_pipe ds pipe ≡ pipe → pipe ≡ Some p → is_open ds p ≡ true
      by_pipe None same knows = cc
      by_pipe (Some q) same knows = elim (is_open ds q) as (λ b. is_open ds q ≡ b → cond b (Some q) None ≡ Some q → is_open ds p ≡ true) [
        | true ↦ λ opens _. let here : q ≡ p = cc in ap (is_open ds) (sym here) ∙ opens
        | false ↦ λ _ bad. cc
      ] refl same

      by_body : (b : FileBody) → without_gone_pipe ds (Some (file_in b)) ≡ Some (file_in b) → pipe_of_fifo (fifo_at (Some (file_in b))) ≡ Some p →
          is_open ds p ≡ true
      by_body (body.Regular bytes) same knows = cc
      by_body (body.Fifo fifo) same knows = by_pipe fifo.pipe (ap (λ x. pipe_of_fifo (fifo_at x)) same) knows

  pub open_stays : (x : Option StoredFile) → ((p : ℕ) → known x ≡ Some p → is_open ds p ≡ true) → without_gone_pipe ds (file_slot x) ≡ file_slot x
  open_stays None opens = refl
  open_stays (Some stored) opens = by_body stored.body opens
    where
      by_pipe : (pipe : Option ℕ) → ((p : ℕ) → pipe ≡ Some p → is_open ds p ≡ true) → open_pipe ds pipe ≡ pipe
      by_pipe None opens = refl
      by_pipe (Some q) opens = rw (opens q refl) refl

      by_body : (b : FileBody) → ((p : ℕ) → pipe_of_fifo (fifo_at (Some (file_in b))) ≡ Some p → is_open ds p ≡ true) →
          without_gone_pipe ds (Some (file_in b)) ≡ Some (file_in b)
      by_body (body.Regular bytes) opens = refl
      by_body (body.Fifo fifo) opens = ap (λ pipe. Some (file.Fifo (record fifo { pipe = pipe }))) (by_pipe fifo.pipe opens)
