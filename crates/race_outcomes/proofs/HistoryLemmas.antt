-- Histories one after another.
use Rattle.std.proofs.Common.{◌≡◌, ◌++◌, ◌∷◌, [], List, refl}
use Rattle.posix_model.specs.Types.{Record, Bounds}
use Rattle.posix_model.specs.declared.world.World.{World}
use Rattle.posix_model.specs.History.{after, world_from, legal_from}

-- records that go on after others are legal with them
pub legal_append : (bounds : Bounds) (w : World) (h rs : List Record) → legal_from bounds w h → legal_from bounds (world_from bounds w h) rs →
    legal_from bounds w (h ++ rs)
legal_append bounds w [] rs first next = next
legal_append bounds w (r ∷ h) rs first next = (first.0, legal_append bounds (after bounds w r) h rs first.1 next)

pub world_append : (bounds : Bounds) (w : World) (h rs : List Record) → world_from bounds w (h ++ rs) ≡ world_from bounds (world_from bounds w h) rs
world_append bounds w [] rs = refl
world_append bounds w (r ∷ h) rs = world_append bounds (after bounds w r) h rs
