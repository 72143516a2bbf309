-- Where an open descriptor stands.
use Rattle.std.proofs.Common.{◌≡◌, ℕ, ℤ, pos, negsuc, Option, None, Some, refl, subst}
use Rattle.plain_world.specs.Proved.Types.{World, Description, OpenDescriptor}
use Rattle.slots.specs.Slots.{slot}
use Rattle.process_table.specs.Processes.{table_of}
use Rattle.posix_model.specs.Descriptors.{opened, opened_number, opened_description}

-- its number stands in the table of its process, and its description under its number
pub record IsOpenAt (w : World) (process : ℕ) (fd : ℤ) (o : OpenDescriptor) : Type 0 where
  pub fd_is : pos o.fd ≡ fd
  pub entry_is : slot (table_of (slot w.processes process)) o.fd ≡ Some o.number
  pub description_is : slot w.descriptions o.number ≡ Some o.description

open_description : (w : World) (p fd number : ℕ) (there : Option Description) (o : OpenDescriptor) → slot (table_of (slot w.processes p)) fd ≡ Some number →
    slot w.descriptions number ≡ there → opened_description fd number there ≡ Some o → IsOpenAt w p (pos fd) o
open_description w p fd number None o entry stands h = cc
open_description w p fd number (Some d) o entry stands h =
    let opens : OpenDescriptor = record { fd = fd; number = number; description = d } in
    let same : opens ≡ o = cc in
    subst (λ (x : OpenDescriptor). IsOpenAt w p (pos fd) x) same (record { fd_is = refl; entry_is = entry; description_is = stands })

open_number : (w : World) (p fd : ℕ) (entry : Option ℕ) (o : OpenDescriptor) → slot (table_of (slot w.processes p)) fd ≡ entry →
    opened_number w fd entry ≡ Some o → IsOpenAt w p (pos fd) o
open_number w p fd None o at h = cc
open_number w p fd (Some number) o at h = open_description w p fd number (slot w.descriptions number) o at refl h

pub opened_stands : (w : World) (p : ℕ) (fd : ℤ) (o : OpenDescriptor) → opened w p fd ≡ Some o → IsOpenAt w p fd o
opened_stands w p (pos fd) o h = open_number w p fd (slot (table_of (slot w.processes p)) fd) o refl h
opened_stands w p (negsuc n) o h = cc
