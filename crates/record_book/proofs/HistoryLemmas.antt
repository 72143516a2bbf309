-- Histories with one more record.
use Rattle.std.proofs.Common.{◌≡◌, ℕ, ◌+◌, List, [], ◌∷◌, ◌++◌, Some, refl, arith, length-append}
use Rattle.std.specs.Option.{option_map}
use Rattle.call_types.specs.declared.limits.Bounds.{Bounds}
use Rattle.call_types.specs.declared.act.Record.{Record}
use Rattle.call_types.specs.declared.limits.Limits.{Limits}
use Rattle.posix_model.specs.Step.{step}
use Rattle.posix_model.specs.History.{empty_world, after, world_from, world_of, legal_from}
use Rattle.posix_model.specs.Turns.{took, gave, sum_from, bytes_in, bytes_out}
use Rattle.posix_model.specs.declared.world.World.{World}
use Rattle.record_book.specs.RunState.{grown, run_at}

pub world_from-push : (bounds : Bounds) (w : World) (h : List Record) (r : Record) → world_from bounds w (h ++ r ∷ []) ≡ after bounds (world_from bounds w h) r
world_from-push bounds w [] r = refl
world_from-push bounds w (x ∷ h) r = world_from-push bounds (after bounds w x) h r

-- one more record that is the model's leaves a history legal
pub legal_from-push : (bounds : Bounds) (w : World) (h : List Record) (r : Record) → legal_from bounds w h →
    option_map (λ s. s.outcome) (step bounds (world_from bounds w h) r.actor r.act) ≡ Some r.outcome → legal_from bounds w (h ++ r ∷ [])
legal_from-push bounds w [] r is_legal e = (e, tt)
legal_from-push bounds w (x ∷ h) r is_legal e = (is_legal.0, legal_from-push bounds (after bounds w x) h r is_legal.1 e)

-- a sum along a history goes on by the record in the world before it
sum_from-push : (count : World → Record → ℕ) (bounds : Bounds) (w : World) (h : List Record) (r : Record) →
    sum_from count bounds w (h ++ r ∷ []) ≡ sum_from count bounds w h + count (world_from bounds w h) r
sum_from-push count bounds w [] r = omega arith
sum_from-push count bounds w (x ∷ h) r = omega (arith, sum_from-push count bounds (after bounds w x) h r)

pub bytes_in-push : (bounds : Bounds) (h : List Record) (r : Record) → bytes_in bounds (h ++ r ∷ []) ≡ bytes_in bounds h + took (world_of bounds h) r
bytes_in-push bounds h r = sum_from-push took bounds empty_world h r

pub bytes_out-push : (bounds : Bounds) (h : List Record) (r : Record) → bytes_out bounds (h ++ r ∷ []) ≡ bytes_out bounds h + gave (world_of bounds h) r
bytes_out-push bounds h r = sum_from-push gave bounds empty_world h r

-- where a history leads goes on by one record
pub run_push : (limits : Limits) (h : List Record) (r : Record) → run_at limits (h ++ r ∷ []) ≡ grown (run_at limits h) r
run_push limits h r =
    let bounds = limits.bounds in
    rw (length-append h (r ∷ []), world_from-push bounds empty_world h r, bytes_in-push bounds h r, bytes_out-push bounds h r) refl
