-- Each event under the lock adds one record to those before it, or none.
use Rattle.std.proofs.Common.{◌≡◌, ◌∙◌, ap, sym, subst, List, [], ◌∷◌, ◌++◌, Result, Ok, Err}
use Rattle.std.proofs.lemmas.List.{append_assoc}
use mathlib.Core.List.{IsPrefix}
use Rattle.call_types.specs.declared.act.Record.{Record}
use Rattle.call_types.specs.declared.call.Call.{Call}
use Rattle.call_types.specs.declared.refusal.Refusal.{Refusal}
use Rattle.call_types.specs.declared.request.Request.{Request}
use Rattle.call_types.specs.declared.request.Request.TheVariants as request
use Rattle.record_book.specs.Seat.{Receipted, SeatState}
use Rattle.record_book.specs.Book.{BookState}
use Rattle.record_book.specs.Openings.{Opened}
use Rattle.record_book.specs.declared.opening.Opened.TheVariants as opened
use Rattle.run_history.specs.Fronts.{Grows}
use Rattle.system_lock.specs.declared.kernel.Why.{Why}
use Rattle.system_lock.specs.declared.kernel.Why.TheVariants as why
use Rattle.system_lock.specs.Proved.Acts.{Tried}
use Rattle.system_lock.specs.declared.acts.Tried.TheVariants as tried
use Rattle.system_lock.specs.Proved.Events.{OpensIn, CallsIn, ExitsIn, TriesIn}

-- what begins with more begins with less
more : (xs ys : List Record) (r : Record) → ys ≡ xs ++ r ∷ [] → Grows xs ys
more xs ys r e h p = (r ∷ p.0, sym (append_assoc xs (r ∷ []) p.0) ∙ (ap (λ (l : List Record). l ++ p.0) (sym e) ∙ p.1))

same : (old new : BookState) → new ≡ old → Grows old.history new.history
same old new e h p = subst (λ (b : BookState). IsPrefix b.history h) e p

pub opens_grow : (old new : BookState) (asked : Request) (r : Result Opened Refusal) → OpensIn old new asked r → Grows old.history new.history
opens_grow old new request.Join (Ok (opened.Seated s)) h = more old.history new.history h.0.record_is h.1.1.appends.history
opens_grow old new request.Join (Ok (opened.Refused s)) h = more old.history new.history h.0.record_is h.1.1.appends.history
opens_grow old new request.Join (Err told) h = same old new h.0
opens_grow old new (request.Attach process) (Ok (opened.Seated s)) h = more old.history new.history h.0.record_is h.1.1.appends.history
opens_grow old new (request.Attach process) (Ok (opened.Refused s)) h = more old.history new.history h.0.record_is h.1.1.appends.history
opens_grow old new (request.Attach process) (Err told) h = same old new h.0
opens_grow old new (request.Call call) r h = absurd h

pub calls_grow : (old new : BookState) (s t : SeatState) (asked : Call) (r : Result Receipted Refusal) → CallsIn old new s t asked r →
    Grows old.history new.history
calls_grow old new s t asked (Ok receipt) h = more old.history new.history receipt.record_is h.appends.history
calls_grow old new s t asked (Err told) h = same old new h.0

pub exits_grow : (old new : BookState) (s t : SeatState) (reason : Why) → ExitsIn old new s t reason → Grows old.history new.history
exits_grow old new s t why.Foreign h = same old new h.0
exits_grow old new s t why.HungUp h = more old.history new.history h.0.record_is h.1.appends.history
exits_grow old new s t why.NoMemory h = more old.history new.history h.0.record_is h.1.appends.history
exits_grow old new s t why.RunFull h = more old.history new.history h.0.record_is h.1.appends.history
exits_grow old new s t why.Lost h = more old.history new.history h.0.record_is h.1.appends.history

pub tries_grow : (old new : BookState) (s : SeatState) (r : Tried) → TriesIn old new s r → Grows old.history new.history
tries_grow old new s (tried.Resumed t receipt) h = more old.history new.history receipt.record_is h.1.appends.history
tries_grow old new s (tried.Still t) h = same old new h.1
tries_grow old new s (tried.Ended ended) h = exits_grow old new s ended.seat ended.why h.0
