-- What is told of an end, and of a refusal, is due in a book that may stand under the lock.
use Rattle.std.proofs.Common.{◌≡◌, ◌∙◌, ℕ, ◌+◌, ap, subst, List, length, Option, Result, Ok, Err, IfErr}
use mathlib.Core.List.{IsPrefix}
use Rattle.call_types.specs.declared.act.Record.{Record}
use Rattle.call_types.specs.declared.call.Call.{Call}
use Rattle.call_types.specs.declared.limits.Limits.{Limits}
use Rattle.call_types.specs.declared.refusal.Refusal.{Refusal}
use Rattle.call_types.specs.declared.request.Request.{Request}
use Rattle.call_types.specs.declared.request.Request.TheVariants as request
use Rattle.record_book.specs.Openings.{Opened}
use Rattle.system_lock.specs.Kernel.{IsWhyHungUp}
use Rattle.record_book.specs.Seat.{Receipted, SeatState}
use Rattle.byte_ledger.specs.Counted.{IsPartOf}
use Rattle.record_book.specs.Book.{BookState}
use Rattle.record_book.specs.Counting.{counted_in}
use Rattle.record_book.specs.Ends.{Exits}
use Rattle.system_lock.specs.declared.kernel.Why.{Why}
use Rattle.system_lock.specs.declared.kernel.Why.TheVariants as why
use Rattle.system_lock.specs.Proved.Events.{CallsIn, ExitsIn, ExitIsDue, IsDueEnd, OpensIn}
use Rattle.system_lock.specs.Owns.{OwnsUnder}
use Rattle.system_lock.specs.Says.{HasGiven, IsEnded, IsNotOpened, IsRefused, StandsUnder}

-- the book has given the seat its receipts
given : (limits : Option Limits) (b : BookState) (s : SeatState) → StandsUnder limits b → OwnsUnder limits b.history s → IsPartOf s.counted (counted_in b) →
    HasGiven limits s b
given limits b s stands own part = record { stands = stands; owns = subst (λ (l : Option Limits). OwnsUnder l b.history s) stands.limits_are own; part = part }

-- an exit that is recorded is the record that comes next
comes_next : (old new : BookState) (s t : SeatState) → Exits old new s t → t.seen ≡ length old.history + 1
comes_next old new s t exits = exits.1.receives.seen ∙ ap (λ (n : ℕ). n + 1) exits.1.appends.place

pub ended_in : (limits : Option Limits) (h : List Record) (old new : BookState) (s t : SeatState) (reason : Why) → StandsUnder limits old →
    OwnsUnder limits old.history s → IsPartOf s.counted (counted_in old) → IsPrefix old.history h
    → ExitsIn old new s t reason → IsDueEnd old s reason → IsEnded limits h s t reason
ended_in limits h old new s t why.Foreign stands own part front exits due = (old, given limits old s stands own part, front, exits.2, tt)
ended_in limits h old new s t why.RunFull stands own part front exits due = (old, given limits old s stands own part, front, due, comes_next old new s t exits)
ended_in limits h old new s t why.NoMemory stands own part front exits due = (old, given limits old s stands own part, front, due, comes_next old new s t exits)
ended_in limits h old new s t why.HungUp stands own part front exits due = absurd due
ended_in limits h old new s t why.Lost stands own part front exits due = (old, given limits old s stands own part, front, due, comes_next old new s t exits)

pub hung_up_in : (limits : Option Limits) (h : List Record) (old new : BookState) (s t : SeatState) (reason : Why) → StandsUnder limits old →
    OwnsUnder limits old.history s → IsPartOf s.counted (counted_in old) → IsPrefix old.history h
    → ExitsIn old new s t reason → ExitIsDue old s reason → IsWhyHungUp reason → IsEnded limits h s t reason
hung_up_in limits h old new s t why.Foreign stands own part front exits due is = (old, given limits old s stands own part, front, exits.2, tt)
hung_up_in limits h old new s t why.HungUp stands own part front exits due is =
    (old, given limits old s stands own part, front, due, comes_next old new s t exits)
hung_up_in limits h old new s t why.RunFull stands own part front exits due is = absurd is
hung_up_in limits h old new s t why.NoMemory stands own part front exits due is = absurd is
hung_up_in limits h old new s t why.Lost stands own part front exits due is = absurd is

-- a refusal of an opening is one that is due in some book
pub not_opened_in : (limits : Option Limits) (h : List Record) (old new : BookState) (asked : Request) (r : Result Opened Refusal) → StandsUnder limits old →
    IsPrefix old.history h → OpensIn old new asked r → IfErr r (λ (told : Refusal). IsNotOpened limits h asked told)
not_opened_in limits h old new asked (Ok opened) stands front done = tt
not_opened_in limits h old new request.Join (Err told) stands front done = (old, stands, front, done.1)
not_opened_in limits h old new (request.Attach process) (Err told) stands front done = (old, stands, front, done.1)
not_opened_in limits h old new (request.Call call) (Err told) stands front done = absurd done

-- so is one of a call
pub refused_in : (limits : Option Limits) (h : List Record) (old new : BookState) (s t : SeatState) (asked : Call) (r : Result Receipted Refusal) →
    StandsUnder limits old → OwnsUnder limits old.history s → IsPartOf s.counted (counted_in old) → IsPrefix old.history h
    → CallsIn old new s t asked r → IfErr r (λ (told : Refusal). IsRefused limits h s asked told)
refused_in limits h old new s t asked (Ok receipt) stands own part front done = tt
refused_in limits h old new s t asked (Err told) stands own part front done = (old, given limits old s stands own part, front, done.2)
