-- The bytes of a regular file, where they are lent.
use Rattle.std.proofs.Common.{◌≡◌, ℕ, zero, suc, ◌∙◌, true, [], ◌∷◌, Option, None, Some, set, refl, ap, sym}
use Rattle.std.specs.Prelude.{is_some}
use Rattle.std.specs.Option.{option_map}
use Rattle.std.proofs.Math.Seq.{map-set_same}
use Rattle.std.proofs.Math.ListN.{get_or-map}
use Rattle.slots.specs.Slots.{slot, edited}
use Rattle.slots.specs.UsedSlots.{value_at, values_in}
use Rattle.slots.specs.Proved.Uses.{with_value}
use Rattle.posix_model.specs.Bytes.{bytes_at}
use Rattle.posix_model.specs.Descriptors.{file_bytes}
use Rattle.posix_model.specs.Proved.Whole.{is_regular_file}
use Rattle.posix_model.specs.declared.world.File.TheVariants as file
use Rattle.file_extents.specs.ExtentsState.{ExtentsState}
use Rattle.file_extents.specs.Proved.Contents.{KeepsRoom}
use Rattle.file_table.specs.declared.stored_file.FileBody.TheVariants as body
use Rattle.file_table.specs.StoredFiles.{file_in, room_in, file_slot, file_slots, room_slot, room_slots}
use Rattle.file_table.specs.Proved.Files.{extents_in, extents_at, with_extents_in, with_extents, room_at}
use Rattle.machine_state.specs.Proved.Types.{Used, TableState, FileBody, StoredFile}
use Rattle.machine_state.proofs.UseLaws.{values_edited}
use Rattle.machine_state.proofs.FileLaws.{Files, slot_files, file_slots_set}

abbrev pub Stored : Type 0
Stored = Option (Used StoredFile)

-- a file of the world is what stands at its number
stands : (xs : Files) (n : ℕ) → slot (file_slots (values_in xs)) n ≡ file_slot (value_at (slot xs n))
stands xs n = slot_files (values_in xs) n ∙ ap file_slot (get_or-map value_at xs n None)

-- where a regular file stands, its bytes can be lent
pub regular_lends : (xs : Files) (n : ℕ) → is_regular_file (slot (file_slots (values_in xs)) n) ≡ true → is_some (extents_at (slot xs n)) ≡ true
regular_lends xs n regular = by_slot (slot xs n) (ap is_regular_file (sym (stands xs n)) ∙ regular)
  where
    by_body : (b : FileBody) → is_regular_file (Some (file_in b)) ≡ true → is_some (extents_in b) ≡ true
    by_body (body.Regular bytes) h = refl
    by_body (body.Fifo fifo) h = cc

    by_slot : (x : Stored) → is_regular_file (file_slot (value_at x)) ≡ true → is_some (extents_at x) ≡ true
    by_slot None h = cc
    by_slot (Some used) h = by_body used.value.body h

-- the bytes of a file of the world are those that are lent
pub bytes_lent : (xs : Files) (n : ℕ) (lent : ExtentsState) → extents_at (slot xs n) ≡ Some lent →
    file_bytes (slot (file_slots (values_in xs)) n) ≡ lent.bytes
bytes_lent xs n lent is = ap file_bytes (stands xs n) ∙ by_slot (slot xs n) is
  where
    by_body : (b : FileBody) → extents_in b ≡ Some lent → file_bytes (Some (file_in b)) ≡ lent.bytes
    by_body (body.Regular bytes) is = cc
    by_body (body.Fifo fifo) is = cc

    by_slot : (x : Stored) → extents_at x ≡ Some lent → file_bytes (file_slot (value_at x)) ≡ lent.bytes
    by_slot None is = cc
    by_slot (Some used) is = by_body used.value.body is

-- a file that has none to lend has none
pub bytes_unlent : (xs : Files) (n : ℕ) → extents_at (slot xs n) ≡ None → file_bytes (slot (file_slots (values_in xs)) n) ≡ []
bytes_unlent xs n is = ap file_bytes (stands xs n) ∙ by_slot (slot xs n) is
  where
    by_body : (b : FileBody) → extents_in b ≡ None → file_bytes (Some (file_in b)) ≡ []
    by_body (body.Regular bytes) is = cc
    by_body (body.Fifo fifo) is = refl

    by_slot : (x : Stored) → extents_at x ≡ None → file_bytes (file_slot (value_at x)) ≡ []
    by_slot None is = refl
    by_slot (Some used) is = by_body used.value.body is

-- what is read where there is no byte
pub no_bytes : (start count : ℕ) → [] ≡ bytes_at [] start count
no_bytes zero zero = refl
no_bytes zero (suc count) = refl
no_bytes (suc start) zero = refl
no_bytes (suc start) (suc count) = refl

-- the file, with what was left behind
kept_slot : (lent now : ExtentsState) (x : Stored) → extents_at x ≡ Some lent → file_slot (option_map (with_extents now) (value_at x)) ≡
    Some (file.Regular now.bytes)
kept_slot lent now None is = cc
kept_slot lent now (Some used) is = by_body used.value.body is
  where
    by_body : (b : FileBody) → extents_in b ≡ Some lent → Some (file_in (with_extents_in now b)) ≡ Some (file.Regular now.bytes)
    by_body (body.Regular bytes) is = refl
    by_body (body.Fifo fifo) is = cc

module _ (xs : Files) (n : ℕ) (lent now : ExtentsState) (is : extents_at (slot xs n) ≡ Some lent) where
  -- a file of the world has the bytes that were left behind
  pub files_lent : file_slots (values_in (edited n (with_value (with_extents now)) xs)) ≡ set (file_slots (values_in xs)) n (Some (file.Regular now.bytes))
  files_lent =
      ap file_slots (values_edited xs n (with_extents now)) ∙ (file_slots_set (values_in xs) n (option_map (with_extents now) (slot (values_in xs) n)) ∙
      ap (λ y. set (file_slots (values_in xs)) n y)
      (ap (λ x. file_slot (option_map (with_extents now) x)) (get_or-map value_at xs n None) ∙ kept_slot lent now (slot xs n) is))

  -- where these are the same, so is the world
  pub files_kept : now.bytes ≡ lent.bytes → file_slots (values_in (edited n (with_value (with_extents now)) xs)) ≡ file_slots (values_in xs)
  files_kept same =
      ap file_slots (values_edited xs n (with_extents now)) ∙
      map-set_same file_slot (values_in xs) n (option_map (with_extents now) (slot (values_in xs) n)) None
      (ap (λ x. file_slot (option_map (with_extents now) x)) (get_or-map value_at xs n None) ∙ (kept_slot lent now (slot xs n) is ∙
      (ap (λ bytes. Some (file.Regular bytes)) same ∙ (sym (whole (slot xs n) is) ∙ ap file_slot (sym (get_or-map value_at xs n None))))))
    where
      by_body : (b : FileBody) → extents_in b ≡ Some lent → Some (file_in b) ≡ Some (file.Regular lent.bytes)
      by_body (body.Regular bytes) is = cc
      by_body (body.Fifo fifo) is = cc

      whole : (x : Stored) → extents_at x ≡ Some lent → file_slot (value_at x) ≡ Some (file.Regular lent.bytes)
      whole None is = cc
      whole (Some used) is = by_body used.value.body is

-- the room of a file is that of the bytes that are lent
pub room_lent : (xs : Files) (n : ℕ) (lent : ExtentsState) → extents_at (slot xs n) ≡ Some lent → room_at (room_slots (values_in xs)) n ≡ lent.table
room_lent xs n lent is = get_or-map room_slot (values_in xs) n None ∙ (ap room_slot (get_or-map value_at xs n None) ∙ by_slot (slot xs n) is)
  where
    by_body : (b : FileBody) → extents_in b ≡ Some lent → room_in b ≡ lent.table
    by_body (body.Regular bytes) is = cc
    by_body (body.Fifo fifo) is = cc

    by_slot : (x : Stored) → extents_at x ≡ Some lent → room_slot (value_at x) ≡ lent.table
    by_slot None is = cc
    by_slot (Some used) is = by_body used.value.body is

-- it has the room that was left behind
pub room_left : (xs : Files) (n : ℕ) (lent now : ExtentsState) → extents_at (slot xs n) ≡ Some lent →
    room_at (room_slots (values_in (edited n (with_value (with_extents now)) xs))) n ≡ now.table
room_left [] n lent now is = cc
room_left (None ∷ xs) zero lent now is = cc
room_left (Some used ∷ xs) zero lent now is = by_body used.value.body is
  where
    by_body : (b : FileBody) → extents_in b ≡ Some lent → room_in (with_extents_in now b) ≡ now.table
    by_body (body.Regular bytes) is = refl
    by_body (body.Fifo fifo) is = cc
room_left (x ∷ xs) (suc n) lent now is = room_left xs n lent now is

same_room : (room : TableState) → KeepsRoom room room
same_room room = record { kept = λ k. record { low = λ i from below. from; high = λ i from below. below } }

-- where its room stays, that of each file stays
pub rooms_left : (xs : Files) (n : ℕ) (lent now : ExtentsState) → extents_at (slot xs n) ≡ Some lent → KeepsRoom lent.table now.table → (k : ℕ) →
    KeepsRoom (room_at (room_slots (values_in xs)) k) (room_at (room_slots (values_in (edited n (with_value (with_extents now)) xs))) k)
rooms_left [] n lent now is kept k = cc
rooms_left (None ∷ xs) zero lent now is kept k = cc
rooms_left (Some used ∷ xs) zero lent now is kept zero = by_body used.value.body is
  where
    by_body : (b : FileBody) → extents_in b ≡ Some lent → KeepsRoom (room_in b) (room_in (with_extents_in now b))
    by_body (body.Regular bytes) is = let same : bytes.table ≡ lent.table = cc in rw same kept
    by_body (body.Fifo fifo) is = cc
rooms_left (Some used ∷ xs) zero lent now is kept (suc k) = same_room (room_at (room_slots (values_in xs)) k)
rooms_left (x ∷ xs) (suc n) lent now is kept zero = same_room (room_slot (value_at x))
rooms_left (x ∷ xs) (suc n) lent now is kept (suc k) = rooms_left xs n lent now is kept k
