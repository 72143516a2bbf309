-- What is handed back where a ring is full, and how room is asked for (own).
use Rattle.std.specs.Prelude.{◌≡◌, ℕ, ◌≤◌, List, ◌∷◌, ◌++◌, length}
use Rattle.call_types.specs.declared.request.Request.{Request}
use Rattle.request_pump.specs.Bells.{BellState, more_by}
use Rattle.request_pump.specs.Pushes.{PushState}

-- the request is handed back, and nothing more was sent; at least as many were as the ring has room for
pub record HandsOneBack (capacity : ℕ) (old new : List Request) (request back : Request) : Type 0 where
  pub same : back ≡ request
  pub stays : new ≡ old
  pub full : capacity ≤ length new

-- one of the requests is handed back, and those before it were sent; by then at least as many were as the ring has room for
pub record HandsBack (capacity : ℕ) (old new requests : List Request) (back : Request) : Type 0 where
  pub pushed : List Request
  pub later : List Request
  pub are : requests ≡ pushed ++ back ∷ later
  pub is : new ≡ old ++ pushed
  pub full : capacity ≤ length new

-- if room was asked for once for each request that was given back, it still is; no end of a piece is rung
pub record AsksAsGivenBack (old new : PushState) (before after : BellState) : Type 0 where
  pub rooms : (base : ℕ) → before.rooms ≡ more_by base old.requests → after.rooms ≡ more_by base new.requests
  pub pieces : after.pieces ≡ before.pieces
