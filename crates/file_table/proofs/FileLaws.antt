-- Files where they stand.
use Rattle.std.proofs.Common.{◌≡◌, ℕ, ◌∙◌, List, Option, None, Some, ap}
use Rattle.std.proofs.Math.ListN.{get_or-map}
use Rattle.slots.specs.declared.used.Used.{Used}
use Rattle.slots.specs.Slots.{slot}
use Rattle.slots.specs.UsedSlots.{value_at, values_in}
use Rattle.file_table.specs.declared.stored_file.StoredFile.{StoredFile}
use Rattle.file_table.specs.StoredFiles.{file_in, file_slot, file_slots}

abbrev pub Files : Type 0
Files = List (Option (Used StoredFile))

slot_files : (xs : Files) (n : ℕ) → slot (file_slots (values_in xs)) n ≡ file_slot (value_at (slot xs n))
slot_files xs n = get_or-map file_slot (values_in xs) n None ∙ ap file_slot (get_or-map value_at xs n None)

-- what stands at a number, as the file of a world
pub stands : (xs : Files) (n : ℕ) (used : Used StoredFile) → slot xs n ≡ Some used → slot (file_slots (values_in xs)) n ≡ Some (file_in used.value.body)
stands xs n used is = slot_files xs n ∙ ap (λ x. file_slot (value_at x)) is

pub stands_not : (xs : Files) (n : ℕ) → slot xs n ≡ None → slot (file_slots (values_in xs)) n ≡ None
stands_not xs n is = slot_files xs n ∙ ap (λ x. file_slot (value_at x)) is
