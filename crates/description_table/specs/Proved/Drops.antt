-- References to descriptions, and what is told of one that is dropped.
use Rattle.std.specs.Prelude.{◌≡◌, ℕ, ◌<◌, List, Option, None, Some}
use Rattle.slots.specs.declared.used.Used.{Used}
use Rattle.slots.specs.Slots.{slot}
use Rattle.call_types.specs.declared.description.Description.{Description}
use Rattle.description_table.specs.declared.Dropped.{Dropped}
use Rattle.description_table.specs.declared.Dropped.TheVariants.{Still, Gone}

-- what is live is referred to
abbrev pub Referred : List (Option (Used Description)) → Type 0
Referred slots = (number : ℕ) (used : Used Description) → slot slots number ≡ Some used → 0 < used.uses

-- the description that went with its last reference tells its target and mode
abbrev pub dropped : Option Description → Dropped
dropped None = Still
dropped (Some description) = Gone description.target description.mode
