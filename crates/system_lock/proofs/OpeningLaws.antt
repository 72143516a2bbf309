-- What a book tells of a join and an attach is what a kernel promises of an opening.
use Rattle.std.proofs.Common.{◌≡◌, ℕ, Bool, true, false, not, ◌==◌, List, [], ◌∷◌, length, Some, None, Result, Ok, Err, IfOk, IfErr, sym, ap, subst}
use Rattle.std.specs.Prelude.{if◌then◌else◌}
use Rattle.std.specs.Option.{option_map}
use Rattle.call_types.specs.declared.act.Act.{Act}
use Rattle.call_types.specs.declared.act.Act.TheVariants as act
use Rattle.call_types.specs.declared.errno.Errno.{Errno}
use Rattle.call_types.specs.declared.errno.Errno.TheVariants.{EAGAIN, ESRCH}
use Rattle.call_types.specs.declared.outcome.Outcome.{Outcome}
use Rattle.call_types.specs.declared.refusal.Refusal.{Refusal}
use Rattle.call_types.specs.declared.refusal.Refusal.TheVariants.{RunFull}
use Rattle.call_types.specs.declared.request.Request.TheVariants as request
use Rattle.slots.specs.Slots.{slot}
use Rattle.process_table.specs.Processes.{awaits}
use Rattle.posix_model.specs.Attach.{attach}
use Rattle.posix_model.specs.Join.{is_full, join}
use Rattle.posix_model.specs.Pages.{decided_by}
use Rattle.posix_model.specs.Step.{Stepped, stepped}
use Rattle.posix_model.specs.declared.change.Decided.{Decided}
use Rattle.posix_model.specs.declared.world.World.{World}
use Rattle.record_book.specs.Seat.{Receipted, SeatState}
use Rattle.record_book.specs.Book.{BookState, world_now}
use Rattle.record_book.specs.Openings.{Opened, IsOpening, next_pid, Joins, Attaches}
use Rattle.record_book.specs.Refusals.{first_refusal, join_refusal, attach_refusal, is_too_full, IsDue}
use Rattle.record_book.specs.declared.opening.Opened.TheVariants as opened
use Rattle.system_lock.specs.Kernel.{IsError, IsNoError, IsWanting, Opens}
use Rattle.system_lock.specs.Proved.Reasons.{OpensBy}

-- a page with one fault, whose condition holds
refused_page : (condition : Bool) (error : Errno) (effect : Decided) → condition ≡ true →
    IsError (decided_by (record { faults = (condition, error) ∷ []; effect = effect })).outcome
refused_page true error effect e = tt
refused_page false error effect e = absurd cc

-- and one whose condition does not hold
granted_page : (condition : Bool) (error : Errno) (effect : Decided) → condition ≡ false → IsNoError effect.outcome →
    IsNoError (decided_by (record { faults = (condition, error) ∷ []; effect = effect })).outcome
granted_page true error effect e granted = absurd cc
granted_page false error effect e granted = granted

-- the outcome of a step that may be none
told_outcome : (may : Bool) (w : World) (bytes : List ℕ) (d : Decided) (o : Outcome) →
    option_map (λ (s : Stepped). s.outcome) (option_map (stepped w bytes) (if may then Some d else None)) ≡ Some o → d.outcome ≡ o
told_outcome true w bytes d o e = cc
told_outcome false w bytes d o e = absurd cc

opens : (old new : BookState) (process : ℕ) (a : Act) (s : SeatState) (receipt : Receipted) → IsOpening old new process a s receipt → Opens process a s receipt
opens old new process a s receipt h = record { actor_is = h.appends.actor_is; act_is = h.appends.act_is; seat_is = h.seat }

-- the one refusal of an opening is for want of records or of memory
wants : (full : Bool) (refusal : Refusal) → IsDue (first_refusal ((full, RunFull) ∷ [])) refusal → IsWanting refusal
wants true refusal h = subst IsWanting (sym h) tt
wants false refusal h = subst IsWanting (sym h) tt

pub joined : (old new : BookState) (r : Result Opened Refusal) → IfOk r (λ (o : Opened). Joins old new o) →
    IfErr r (λ (refusal : Refusal). IsDue (join_refusal old) refusal) → OpensBy request.Join r
joined old new (Ok (opened.Seated s)) h e =
    let w = world_now old in
    let same = told_outcome (next_pid old == length w.processes) w [] (decided_by (join w)) h.0.record_is.outcome h.1.1.appends.outcome in (
      h.0,
      subst (λ (n : ℕ). Opens n act.Join s h.0) (sym (ap (λ (x : SeatState). x.pid) h.1.1.seat)) (opens old new (next_pid old) act.Join s h.0 h.1.1),
      subst IsNoError same (granted_page (is_full w) EAGAIN (join w).effect h.1.0 tt),
    )
joined old new (Ok (opened.Refused s)) h e =
    let w = world_now old in
    let same = told_outcome (next_pid old == length w.processes) w [] (decided_by (join w)) h.0.record_is.outcome h.1.1.appends.outcome in (
      h.0,
      subst (λ (n : ℕ). Opens n act.Join s h.0) (sym (ap (λ (x : SeatState). x.pid) h.1.1.seat)) (opens old new (next_pid old) act.Join s h.0 h.1.1),
      subst IsError same (refused_page (is_full w) EAGAIN (join w).effect h.1.0),
    )
joined old new (Err refusal) h e = wants (is_too_full old (length (world_now old).processes) act.Join) refusal e

pub attached : (old new : BookState) (process : ℕ) (r : Result Opened Refusal) → IfOk r (λ (o : Opened). Attaches old new process o) →
    IfErr r (λ (refusal : Refusal). IsDue (attach_refusal old process) refusal) → OpensBy (request.Attach process) r
attached old new process (Ok (opened.Seated s)) h e =
    let w = world_now old in
    let same : (decided_by (attach w process)).outcome ≡ h.0.record_is.outcome = cc (h.1.1.appends.outcome) in (
      h.0,
      opens old new process act.Attach s h.0 h.1.1,
      subst IsNoError same (granted_page (not (awaits (slot w.processes process))) ESRCH (attach w process).effect (ap not h.1.0) tt),
    )
attached old new process (Ok (opened.Refused s)) h e =
    let w = world_now old in
    let same : (decided_by (attach w process)).outcome ≡ h.0.record_is.outcome = cc (h.1.1.appends.outcome) in (
      h.0,
      opens old new process act.Attach s h.0 h.1.1,
      subst IsError same (refused_page (not (awaits (slot w.processes process))) ESRCH (attach w process).effect (ap not h.1.0)),
    )
attached old new process (Err refusal) h e = wants (is_too_full old process act.Attach) refusal e
