-- What a book tells of a call is what a kernel promises.
use Rattle.std.proofs.Common.{◌≡◌, ℕ, ◌≤◌, Bool, true, false, cond, ltb, List, [], ◌∷◌, ◌++◌, length, Option, Some, None, Result, Ok, Err, IfOk, OnOk, OnErr, refl, sym, subst}
use Rattle.std.specs.Option.{option_map}
use Rattle.std.proofs.lemmas.Bool.{ltb-false}
use Rattle.call_types.specs.declared.act.Act.{Act}
use Rattle.call_types.specs.declared.act.Act.TheVariants as act
use Rattle.call_types.specs.declared.call.Call.{Call}
use Rattle.call_types.specs.declared.outcome.Outcome.{Outcome}
use Rattle.call_types.specs.declared.refusal.Refusal.{Refusal}
use Rattle.call_types.specs.declared.refusal.Refusal.TheVariants.{Foreign, Waiting, RunFull}
use Rattle.slots.specs.Slots.{slot}
use Rattle.posix_model.specs.Step.{Stepped, step, is_parked, EndsOrWaits}
use Rattle.posix_model.specs.Proved.WaitLaws.{CallsEndOrWait}
use Rattle.record_book.specs.Seat.{Receipted, SeatState}
use Rattle.record_book.specs.Book.{BookState, world_now, Appends, Receives, Records}
use Rattle.record_book.specs.Refusals.{first_refusal, seat_refusals, start_refusal, is_too_full}
use Rattle.system_lock.specs.Kernel.{Adds, CallsBy}

-- a record whose place is the number of records before it is no older than what a seat of that book has seen
seen_first : (foreign : Bool) (len seen : ℕ) (rest : Option Refusal) → ltb len seen ≡ foreign → cond foreign (Some (Foreign seen len)) rest ≡ None → seen ≤ len
seen_first true len seen rest e h = absurd cc
seen_first false len seen rest e h = ltb-false len seen e

seen_known : (b : BookState) (s : SeatState) (more : List (Bool × Refusal)) → first_refusal (seat_refusals b s ++ more) ≡ None → s.seen ≤ length b.history
seen_known b s more h = seen_first (ltb (length b.history) s.seen) (length b.history) s.seen _ refl h

adds : (old new : BookState) (s t : SeatState) (a : Act) (receipt : Receipted) → Appends old new s.pid a receipt → Receives s t receipt →
    s.seen ≤ length old.history → Adds s t a receipt
adds old new s t a receipt h k le = record { actor_is = h.actor_is; act_is = h.act_is; later = subst (λ (n : ℕ). s.seen ≤ n) (sym h.place) le; receives = k }

-- the outcome of a record is that of a step
stepped_as : (x : Option Stepped) (o : Outcome) → option_map (λ (s : Stepped). s.outcome) x ≡ Some o → (s : Stepped) × (x ≡ Some s) × (s.outcome ≡ o)
stepped_as None o e = absurd cc
stepped_as (Some s) o e = (s, refl, cc)

tells : (old new : BookState) (actor : ℕ) (call : Call) (receipt : Receipted) → CallsEndOrWait → Appends old new actor (act.Call call) receipt →
    EndsOrWaits receipt.record_is.outcome
tells old new actor call receipt all h =
    let s = stepped_as (step old.limits.bounds (world_now old) actor (act.Call call)) receipt.record_is.outcome h.outcome in
    subst EndsOrWaits s.2 (all old.limits.bounds (world_now old) actor call s.0 s.1)

abbrev call_refusals : BookState → SeatState → Call → List (Bool × Refusal)
call_refusals b s call = (is_parked (slot (world_now b).processes s.pid), Waiting) ∷ (is_too_full b s.pid (act.Call call), RunFull) ∷ []

pub called : (old new : BookState) (s t : SeatState) (call : Call) (r : Result Receipted Refusal) → CallsEndOrWait
    → IfOk r (λ (receipt : Receipted). Records old new s t (act.Call call) receipt) → OnOk r (start_refusal old s call ≡ None) →
    OnErr r ((new ≡ old) × (t ≡ s)) → CallsBy s t call r
called old new s t call (Ok receipt) all h none same = (
  adds old new s t (act.Call call) receipt h.appends h.receives (seen_known old s (call_refusals old s call) none),
  tells old new s.pid call receipt all h.appends,
)
called old new s t call (Err refusal) all h none same = same.1
