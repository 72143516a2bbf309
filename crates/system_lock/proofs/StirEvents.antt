-- What an event of a book leaves of those that sleep: all whom it does not stir.
use Rattle.std.proofs.Common.{◌≡◌, ◌∙◌, ℕ, List, [], ◌∷◌, ◌++◌, Ok, Err, refl, ap, sym, subst}
use Rattle.std.specs.Option.{is_some}
use Rattle.slots.specs.Slots.{slot}
use Rattle.call_types.specs.declared.act.Act.{Act}
use Rattle.call_types.specs.declared.act.Act.TheVariants as act
use Rattle.call_types.specs.declared.act.Record.{Record}
use Rattle.call_types.specs.declared.limits.Bounds.{Bounds}
use Rattle.call_types.specs.declared.request.Request.TheVariants as request
use Rattle.call_types.specs.declared.limits.Limits.{Limits}
use Rattle.posix_model.specs.declared.world.World.{World}
use Rattle.posix_model.specs.Proved.Released.{SweptIsSettled, SettledStays}
use Rattle.posix_model.specs.Proved.Sound.{ActsAreSound}
use Rattle.posix_model.specs.Proved.Laws.{HistoryIsWhole, HistorySettles, SweepLeaves}
use Rattle.posix_model.specs.History.{empty_world, after_act, after, world_from, world_of}
use Rattle.posix_model.specs.Resume.{is_ready}
use Rattle.record_book.specs.Seat.{Receipted, SeatState}
use Rattle.record_book.specs.Book.{BookState, world_now, Appends}
use Rattle.record_book.specs.Openings.{next_pid, IsOpening}
use Rattle.record_book.specs.declared.opening.Opened.TheVariants as opened
use Rattle.system_lock.specs.declared.kernel.Why.TheVariants as why
use Rattle.system_lock.specs.Proved.Stirred.{pipe_waited, stirred_at, stirred_by, stirred_with, Spares}
use Rattle.system_lock.specs.Proved.Sleepers.{pipe_in, SparesIn, CallsSpare, ResumesSpare, OpensSpare, ExitsSpare}
use Rattle.system_lock.specs.declared.stirred.Stirred.{Stirred}
use Rattle.system_lock.specs.declared.stirred.Stirred.TheVariants as stirred
use Rattle.system_lock.proofs.StirActs.{Grounds, call_spares, resume_spares, join_spares, attach_spares, exit_spares}

-- where nothing changes
pub same_spared : (old new : BookState) (s : Stirred) → new ≡ old → SparesIn old new s
same_spared old new s same = subst (λ (b : BookState). SparesIn old b s) (sym same)
    (record { ready = λ q apart. refl; pipe = λ q other. refl; live = λ q other there. there })

-- the world after one record more
world_further : (bounds : Bounds) (w : World) (h : List Record) (r : Record) → world_from bounds w (h ++ r ∷ []) ≡ after bounds (world_from bounds w h) r
world_further bounds w [] r = refl
world_further bounds w (x ∷ xs) r = world_further bounds (after bounds w x) xs r

world_appended : (old new : BookState) (actor : ℕ) (a : Act) (receipt : Receipted) → Appends old new actor a receipt →
    world_now new ≡ after_act old.limits.bounds (world_now old) actor a
world_appended old new actor a receipt h =
    let bounds = old.limits.bounds in
    let w = world_now old in
    let r = receipt.record_is in
    ap (λ (l : Limits). world_of l.bounds new.history) h.limits ∙
    (ap (world_of bounds) h.history ∙
    (world_further bounds empty_world old.history r ∙
    (ap (λ (n : ℕ). after_act bounds w n r.act) h.actor_is ∙ ap (λ (x : Act). after_act bounds w actor x) h.act_is)))

-- a book is spared as its world is
spared_by : (old new : BookState) (v : World) (s : Stirred) → new.limits ≡ old.limits → world_now new ≡ v → Spares old.limits.bounds (world_now old) v s →
    SparesIn old new s
spared_by old new v s same is spares = record {
  ready = λ q apart.
      ap (λ (l : Limits). is_ready l.bounds (world_now new) q) same ∙ (ap (λ (x : World). is_ready old.limits.bounds x q) is ∙ spares.ready q apart);
  pipe = λ q other. ap (λ (x : World). pipe_waited x q) is ∙ spares.pipe q other;
  live = λ q other there. ap (λ (x : World). is_some (slot x.processes q)) is ∙ spares.live q other there;
}

-- what is known of all acts and histories
pub record Known : Type 0 where
  pub settles : SweptIsSettled
  pub stays : SettledStays
  pub sound : ActsAreSound
  pub leaves : SweepLeaves
  pub swept : HistorySettles
  pub whole : HistoryIsWhole

grounds : Known → (b : BookState) → Grounds (world_now b)
grounds k b = record {
  settles = k.settles;
  stays = k.stays;
  sound = k.sound;
  leaves = k.leaves;
  swept = k.swept b.limits.bounds b.history;
  whole =
      k.whole b.limits.bounds b.history;
}

-- an act is recorded, and spares in each world all whom it does not stir
appended : Known → (old new : BookState) (actor : ℕ) (a : Act) (receipt : Receipted) (s : Stirred) → Appends old new actor a receipt →
    (Grounds (world_now old) → Spares old.limits.bounds (world_now old) (after_act old.limits.bounds (world_now old) actor a) s) → SparesIn old new s
appended k old new actor a receipt s h spares = spared_by old new (after_act old.limits.bounds (world_now old) actor a) s h.limits
    (world_appended old new actor a receipt h) (spares (grounds k old))

pub calls_spare : Known → CallsSpare
calls_spare k old new s t call (Ok receipt) h =
    let w = world_now old in
    let o = receipt.record_is.outcome in
    appended k old new s.pid (act.Call call) receipt (stirred_with o (stirred_by w s.pid call)) h.appends
    (λ g. call_spares old.limits.bounds w g s.pid call o h.appends.outcome)
calls_spare k old new s t call (Err refusal) h = same_spared old new stirred.Nobody h.0

pub resumes_spare : Known → ResumesSpare
resumes_spare k old new s t receipt h =
    appended k old new s.pid act.Resume receipt (stirred_at s.pid (pipe_in old s.pid)) h.appends (λ g. resume_spares old.limits.bounds (world_now old) g s.pid)

joined : Known → (old new : BookState) (s : SeatState) (receipt : Receipted) → IsOpening old new (next_pid old) act.Join s receipt →
    SparesIn old new (stirred.Anybody (next_pid old))
joined k old new s receipt h = appended k old new (next_pid old) act.Join receipt (stirred.Anybody (next_pid old)) h.appends
    (λ g. join_spares old.limits.bounds (world_now old) g (next_pid old))

attached : Known → (old new : BookState) (process : ℕ) (s : SeatState) (receipt : Receipted) → IsOpening old new process act.Attach s receipt →
    SparesIn old new (stirred.Anybody process)
attached k old new process s receipt h = appended k old new process act.Attach receipt (stirred.Anybody process) h.appends
    (λ g. attach_spares old.limits.bounds (world_now old) g process)

pub opens_spare : Known → OpensSpare
opens_spare k old new request.Join (Ok (opened.Seated s)) h = joined k old new s h.0 h.1.1
opens_spare k old new request.Join (Ok (opened.Refused s)) h = joined k old new s h.0 h.1.1
opens_spare k old new request.Join (Err refusal) h = same_spared old new (stirred.Anybody (next_pid old)) h.0
opens_spare k old new (request.Attach process) (Ok (opened.Seated s)) h = attached k old new process s h.0 h.1.1
opens_spare k old new (request.Attach process) (Ok (opened.Refused s)) h = attached k old new process s h.0 h.1.1
opens_spare k old new (request.Attach process) (Err refusal) h = same_spared old new (stirred.Anybody process) h.0
opens_spare k old new (request.Call call) told h = absurd h

pub exits_spare : Known → ExitsSpare
exits_spare k old new s t why.Foreign h = same_spared old new (stirred.Anybody s.pid) h.0
exits_spare k old new s t other h = appended k old new s.pid act.Exit h.0 (stirred.Anybody s.pid) h.1.appends
    (λ g. exit_spares old.limits.bounds (world_now old) g s.pid)
