-- What is told of an act is what each book and seats that fit the run tell of it.
use Rattle.std.proofs.Common.{◌≡◌, ◌≢◌, ◌∙◌, ℕ, ◌+◌, ◌≤◌, ◌||◌, Bool, true, false, cond, List, [], ◌∷◌, ◌++◌, Option, None, Some, Result, Ok, Err, length, set, refl, ap, sym, subst, arith}
use Rattle.std.specs.Prelude.{not, nat_lt}
use Rattle.std.specs.Global.{Vec}
use Rattle.std.specs.Option.{option_map}
use Rattle.std.proofs.lemmas.Bool.{le-ltb}
use Rattle.call_types.specs.declared.act.Act.{Act}
use Rattle.call_types.specs.declared.act.Act.TheVariants as act
use Rattle.call_types.specs.declared.act.Record.{Record}
use Rattle.call_types.specs.declared.act.ScriptAct.{ScriptAct}
use Rattle.call_types.specs.declared.act.ScriptAct.TheVariants as script
use Rattle.call_types.specs.declared.act.TheConstants.{HOUSE}
use Rattle.call_types.specs.declared.call.Call.{Call}
use Rattle.call_types.specs.declared.refusal.Refusal.{Refusal}
use Rattle.call_types.specs.declared.refusal.Refusal.TheVariants.{NotHere}
use Rattle.byte_ledger.specs.Counted.{counted_more}
use Rattle.slots.specs.Slots.{slot, edited}
use Rattle.process_table.specs.declared.process.Process.{Process}
use Rattle.process_table.specs.Processes.{awaits, free_table, is_here, process_with, with_connection}
use Rattle.posix_model.specs.Attach.{attach}
use Rattle.posix_model.specs.Exit.{exit}
use Rattle.posix_model.specs.Join.{is_full, join}
use Rattle.posix_model.specs.Pages.{decided_by}
use Rattle.posix_model.specs.Step.{can_call, comes_to, decided, given, step, stepped}
use Rattle.posix_model.specs.Turns.{took, gave}
use Rattle.posix_model.specs.Proved.Laws.{StepPlansProcesses}
use Rattle.posix_model.specs.Proved.Sound.{closes}
use Rattle.posix_model.specs.declared.change.Decided.{Decided}
use Rattle.posix_model.specs.declared.world.World.{World}
use Rattle.posix_model.proofs.SlotLaws.{set_other, slot_at_end, slot_set_there}
use Rattle.record_book.specs.Seat.{Receipted, SeatState}
use Rattle.record_book.specs.RunState.{RunState, grown, next_of}
use Rattle.record_book.specs.Book.{BookState, run_of, world_now, Appends, Records}
use Rattle.record_book.specs.Ends.{Ends, told_more}
use Rattle.record_book.specs.Exits.{closing_records, receipts_from}
use Rattle.record_book.specs.Openings.{first_seat, next_pid}
use Rattle.record_book.specs.Refusals.{IsDue, exit_refusal, first_refusal, foreign, is_ready_in, join_refusal, attach_refusal, resume_refusal, start_refusal, call_refusals, exit_refusals, is_run_ready, opening_refusals, resume_refusals}
use Rattle.record_book.proofs.PlanLemmas.{join_comes}
use Rattle.script_run.specs.Runs.{Seats, Tells, Unchanged, CallRuns, ExitRuns, ResumeRuns, StaysStill, seat_of_house, seats_after, with_seat}
use Rattle.script_run.specs.Fits.{LeadsTo, FitsRun, RunsTo, SeatsFit, StandsFor, house_of}
use Rattle.script_run.specs.Proved.Closing.{ClosesBy, grown_by}
use Rattle.script_run.specs.Proved.Going.{Grows, JoinGoes, AttachGoes, CallGoes, ExitGoes, ResumeGoes, answer_of}
use Rattle.script_run.specs.declared.told.ScriptAnswer.{ScriptAnswer}
use Rattle.script_run.specs.declared.told.ScriptAnswer.TheVariants.{Recorded, Closed, Still, Refused}
use Rattle.script_run.proofs.HereLemmas.{here_stepped}
use Rattle.script_run.proofs.CallLemmas.{Leaves, call_leaves, resume_leaves}
use Rattle.script_run.proofs.FitsLemmas.{appends_one, came_to, fits_more, leads_all, records_made, with_record, with_records, world_stepped}
use Rattle.script_run.proofs.RunLemmas.{goes_on}
use Rattle.script_run.proofs.SeatLemmas.{pushed_other, seat_put, seats_at, seats_stay, slot_emptied}

-- a book and seats to which an act leads
runs_to : (b : BookState) (seats : Seats) (t : RunState) (a : ScriptAct) (told : ScriptAnswer) (book : BookState) (after : Seats) → FitsRun book after t →
    Tells b book seats after a (told ∷ []) → RunsTo b seats t a told
runs_to b seats t a told book after fits tells = record {
  book = book;
  seats_are = after;
  fits = fits;
  tells = tells;
  goes_on =
      goes_on b book seats after a told tells;
}

unchanged : (b : BookState) (seats : Seats) → Unchanged b b seats seats
unchanged b seats = record { book = refl; seats_are = refl }

-- a run that is as it was
still_fits : (b : BookState) (seats : Seats) (s t : RunState) → FitsRun b seats s → t ≡ s → FitsRun b seats t
still_fits b seats s t fits same = subst (FitsRun b seats) (sym same) fits

-- whether a run is closed after an act
pub closed_made : StepPlansProcesses → (s t : RunState) (actor : ℕ) (a : Act) (told : Receipted) → Grows s t actor a told →
    t.world.closed ≡ (closes a || s.world.closed)
closed_made planned s t actor a told made =
    let came = came_to s t actor a told made in
    let steps : step s.limits.bounds s.world actor a ≡ Some (stepped s.world (given a) came.0) = ap (option_map (stepped s.world (given a))) came.1 in
    ap (λ (w : World). w.closed) (world_stepped s t actor a told came.0 made came.1) ∙
    (planned s.limits.bounds s.world actor a (stepped s.world (given a) came.0) steps).closed

-- who is here after an act that leaves them
here_made : (s t : RunState) (actor : ℕ) (a : Act) (told : Receipted) → Grows s t actor a told →
    ((d : Decided) → comes_to s.limits.bounds s.world actor a ≡ Some d → Leaves d) →
    (q : ℕ) → is_here (slot t.world.processes q) ≡ is_here (slot s.world.processes q)
here_made s t actor a told made leaves q =
    let came = came_to s t actor a told made in
    ap (λ (w : World). is_here (slot w.processes q)) (world_stepped s t actor a told came.0 made came.1) ∙
    here_stepped s.world (given a) came.0 (leaves came.0 came.1).process q

-- ---- joins and attaches

join_free : (b : BookState) (s : RunState) → LeadsTo b s → join_refusal b ≡ first_refusal (opening_refusals s (next_of s) act.Join)
join_free b s leads = ap (λ (x : RunState). first_refusal (opening_refusals x (next_of x) act.Join)) (sym leads.run)

attach_free : (b : BookState) (s : RunState) (p : ℕ) → LeadsTo b s → attach_refusal b p ≡ first_refusal (opening_refusals s p act.Attach)
attach_free b s p leads = ap (λ (x : RunState). first_refusal (opening_refusals x p act.Attach)) (sym leads.run)

-- the processes after a join
joined : (w : World) (b : Bool) → is_full w ≡ b → (stepped w [] (decided_by (join w))).world.processes ≡ cond b w.processes
    (w.processes ++ Some (process_with free_table true) ∷ [])
joined w true e = rw e refl
joined w false e = rw e refl

-- and after an attach
attached : (w : World) (p : ℕ) (b : Bool) → awaits (slot w.processes p) ≡ b → (stepped w [] (decided_by (attach w p))).world.processes ≡ cond b
    (edited p with_connection w.processes) w.processes
attached w p true e = rw e refl
attached w p false e = rw e refl

-- a seat is put for a process that is here now
seated : (ps qs : List (Option Process)) (records more n : ℕ) (told : Receipted) (seats : Seats) → SeatsFit ps records seats → told.place ≡ records →
    more ≡ records + 1 → is_here (slot qs n) ≡ true →
    ((q : ℕ) → n ≢ q → is_here (slot qs q) ≡ is_here (slot ps q)) → SeatsFit qs more (with_seat n (first_seat n told) seats)
seated ps qs records more n told seats fits place count here others =
    let s = first_seat n told in
    let put = seat_put n s seats in
    let seen : told.place + 1 ≤ more = omega (arith, place, count) in
    let stands : StandsFor more n (slot qs n) (Some s) = (here, refl, seen) in
    seats_at ps qs records more seats (with_seat n s seats) n fits (subst (StandsFor more n (slot qs n)) (sym put.0) stands) put.1 others (omega (arith, count))

join_seats : (ps qs : List (Option Process)) (records more : ℕ) (told : Receipted) (seats : Seats) (full : Bool) → SeatsFit ps records seats →
    told.place ≡ records → more ≡ records + 1 →
    qs ≡ cond full ps (ps ++ Some (process_with free_table true) ∷ []) → SeatsFit qs more (seats_after (length ps) told seats full)
join_seats ps qs records more told seats true fits place count is =
    seats_stay ps qs records more seats fits (λ q. ap (λ (l : List (Option Process)). is_here (slot l q)) is) (omega (arith, count))
join_seats ps qs records more told seats false fits place count is =
    let new : Option Process = Some (process_with free_table true) in
    let here : is_here (slot qs (length ps)) ≡ true = ap (λ (l : List (Option Process)). is_here (slot l (length ps))) is ∙ ap is_here (slot_at_end ps new) in
    seated ps qs records more (length ps) told seats fits place count here
    (λ q apart. ap (λ (l : List (Option Process)). is_here (slot l q)) is ∙ ap is_here (pushed_other ps new q apart))

-- a process that awaits its connection is there
awaiting : (x : Option Process) → awaits x ≡ true → (y : Process) × (x ≡ Some y)
awaiting None e = cc
awaiting (Some y) e = (y, refl)

attach_seats : (ps qs : List (Option Process)) (records more p : ℕ) (told : Receipted) (seats : Seats) (b : Bool) → awaits (slot ps p) ≡ b →
    SeatsFit ps records seats → told.place ≡ records → more ≡ records + 1 →
    qs ≡ cond b (edited p with_connection ps) ps → SeatsFit qs more (seats_after p told seats (not b))
attach_seats ps qs records more p told seats false e fits place count is =
    seats_stay ps qs records more seats fits (λ q. ap (λ (l : List (Option Process)). is_here (slot l q)) is) (omega (arith, count))
attach_seats ps qs records more p told seats true e fits place count is =
    let there = awaiting (slot ps p) e in
    let here : is_here (slot qs p) ≡ true =
    ap (λ (l : List (Option Process)). is_here (slot l p)) is ∙ (ap is_here (slot_set_there ps p there.0 (option_map with_connection (slot ps p)) there.1) ∙
    ap (λ (x : Option Process). is_here (option_map with_connection x)) there.1) in
    seated ps qs records more p told seats fits place count here
    (λ q apart. ap (λ (l : List (Option Process)). is_here (slot l q)) is ∙ ap is_here (set_other ps p q (option_map with_connection (slot ps p)) apart))

pub join_to : StepPlansProcesses → (b : BookState) (seats : Seats) (s t : RunState) (ran : Result Receipted Refusal) → FitsRun b seats s → JoinGoes s t ran →
    RunsTo b seats t script.Join (answer_of (next_of s) script.Join ran)
join_to planned b seats s t (Ok told) fits goes =
    let leads = fits.leads in
    let n = next_of s in
    let made = goes.1 in
    let next : next_pid b ≡ n = ap next_of (sym leads.run) in
    let book = with_record b told.record_is in
    let after = seats_after n told seats (is_full s.world) in
    let same : seats_after (next_pid b) told seats (is_full (world_now b)) ≡ after =
    ap (λ (x : RunState). seats_after (next_of x) told seats (is_full x.world)) (sym leads.run) in
    let processes = ap (λ (w : World). w.processes) (world_stepped s t n act.Join told (decided_by (join s.world)) made (join_comes s)) ∙
    joined s.world (is_full s.world) refl in
    let seats_fit = join_seats s.world.processes t.world.processes s.counts.records t.counts.records told seats (is_full s.world) fits.seats_fit made.place
    (records_made s t n act.Join told made) processes in
    runs_to b seats t script.Join (Recorded told) book after
    (fits_more b s t seats after n act.Join told fits made (closed_made planned s t n act.Join told made) seats_fit)
    (record {
      free = join_free b s leads ∙ goes.0;
      appends = subst (λ (m : ℕ). Appends b book m act.Join told) (sym next)
          (appends_one b s t n act.Join told leads made);
      seats_are = sym same;
    })
join_to planned b seats s t (Err refusal) fits goes =
    let next : next_pid b ≡ next_of s = ap next_of (sym fits.leads.run) in
    runs_to b seats t script.Join (Refused (next_of s) script.Join refusal) b seats (still_fits b seats s t fits goes.1)
    (sym next, refl, (subst (λ (due : Option Refusal). IsDue due refusal) (sym (join_free b s fits.leads)) goes.0, unchanged b seats))

pub attach_to : StepPlansProcesses → (b : BookState) (seats : Seats) (s t : RunState) (p : ℕ) (ran : Result Receipted Refusal) → FitsRun b seats s →
    AttachGoes s t p ran → RunsTo b seats t (script.Attach p) (answer_of p (script.Attach p) ran)
attach_to planned b seats s t p (Ok told) fits goes =
    let leads = fits.leads in
    let made = goes.1 in
    let book = with_record b told.record_is in
    let waits = awaits (slot s.world.processes p) in
    let after = seats_after p told seats (not waits) in
    let same : seats_after p told seats (not (awaits (slot (world_now b).processes p))) ≡ after =
    ap (λ (x : RunState). seats_after p told seats (not (awaits (slot x.world.processes p)))) (sym leads.run) in
    let processes = ap (λ (w : World). w.processes) (world_stepped s t p act.Attach told (decided_by (attach s.world p)) made refl) ∙
    attached s.world p waits refl in
    let seats_fit = attach_seats s.world.processes t.world.processes s.counts.records t.counts.records p told seats waits refl fits.seats_fit made.place
    (records_made s t p act.Attach told made) processes in
    runs_to b seats t (script.Attach p) (Recorded told) book after
    (fits_more b s t seats after p act.Attach told fits made (closed_made planned s t p act.Attach told made) seats_fit)
    (record { free = attach_free b s p leads ∙ goes.0; appends = appends_one b s t p act.Attach told leads made; seats_are = sym same })
attach_to planned b seats s t p (Err refusal) fits goes =
    runs_to b seats t (script.Attach p) (Refused p (script.Attach p) refusal) b seats (still_fits b seats s t fits goes.1)
    (refl, refl, (subst (λ (due : Option Refusal). IsDue due refusal) (sym (attach_free b s p fits.leads)) goes.0, unchanged b seats))

-- ---- acts of a process that has a seat

-- of a seat that has seen no more than there is, the first refusal is another, as the run knows it
seat_same : (b : BookState) (s : RunState) (x : SeatState) (p : ℕ) (refusals : RunState → ℕ → List (Bool × Refusal)) → LeadsTo b s → x.pid ≡ p →
    x.seen ≤ s.counts.records → first_refusal (foreign b x ∷ refusals (run_of b) x.pid) ≡ first_refusal (refusals s p)
seat_same b s x p refusals leads pid seen =
    let few : x.seen ≤ length b.history = subst (λ (y : RunState). x.seen ≤ y.counts.records) leads.run seen in
    let known : nat_lt (length b.history) x.seen ≡ false = le-ltb (length b.history) x.seen few in
    rw known (ap (λ (n : ℕ). first_refusal (refusals (run_of b) n)) pid ∙ ap (λ (y : RunState). first_refusal (refusals y p)) (sym leads.run))

exit_same : (b : BookState) (s : RunState) (x : SeatState) (p : ℕ) → LeadsTo b s → x.pid ≡ p → x.seen ≤ s.counts.records →
    exit_refusal b x ≡ first_refusal (exit_refusals s p)
exit_same b s x p = seat_same b s x p exit_refusals

start_same : (b : BookState) (s : RunState) (x : SeatState) (p : ℕ) (c : Call) → LeadsTo b s → x.pid ≡ p → x.seen ≤ s.counts.records →
    start_refusal b x c ≡ first_refusal (call_refusals s p c)
start_same b s x p c = seat_same b s x p (λ y n. call_refusals y n c)

resume_same : (b : BookState) (s : RunState) (x : SeatState) (p : ℕ) → LeadsTo b s → x.pid ≡ p → x.seen ≤ s.counts.records →
    resume_refusal b x ≡ first_refusal (resume_refusals s p)
resume_same b s x p = seat_same b s x p resume_refusals

ready_same : (b : BookState) (s : RunState) (p : ℕ) → LeadsTo b s → is_ready_in b p ≡ is_run_ready s p
ready_same b s p leads = ap (λ (x : RunState). is_run_ready x p) (sym leads.run)

-- the seat has the receipt
abbrev received : BookState → SeatState → Receipted → SeatState
received b x told = record {
  pid = x.pid;
  seen = told.place + 1;
  receipts = x.receipts ++ told ∷ [];
  counted = counted_more (took (world_now b) told.record_is) (gave (world_now b) told.record_is) x.counted;
}

-- an act of a process that has a seat is recorded
record SeatActs (b : BookState) (seats : Seats) (t : RunState) (p : ℕ) (x : SeatState) (a : Act) (told : Receipted) : Type 0 where
  fits : FitsRun (with_record b told.record_is) (set seats p (Some (received b x told))) t
  records : Records b (with_record b told.record_is) x (received b x told) a told

seat_acts : (b : BookState) (seats : Seats) (s t : RunState) (p : ℕ) (x : SeatState) (a : Act) (told : Receipted) → FitsRun b seats s → slot seats p ≡ Some x →
    StandsFor s.counts.records p (slot s.world.processes p) (Some x) →
    Grows s t p a told → t.world.closed ≡ s.world.closed → ((d : Decided) → comes_to s.limits.bounds s.world p a ≡ Some d → Leaves d) →
    SeatActs b seats t p x a told
seat_acts b seats s t p x a told fits is stands made same leaves =
    let ps = s.world.processes in
    let qs = t.world.processes in
    let y = received b x told in
    let after : Seats = set seats p (Some y) in
    let count = records_made s t p a told made in
    let here : (q : ℕ) → is_here (slot qs q) ≡ is_here (slot ps q) = here_made s t p a told made leaves in
    let seen : told.place + 1 ≤ t.counts.records = omega (arith, made.place, count) in
    let stands_on : StandsFor t.counts.records p (slot qs p) (Some y) = (here p ∙ stands.0, stands.1, seen) in
    let at_it : slot after p ≡ Some y = slot_set_there seats p x (Some y) is in
    let seats_fit : SeatsFit qs t.counts.records after =
    seats_at ps qs s.counts.records t.counts.records seats after p fits.seats_fit (subst (StandsFor t.counts.records p (slot qs p)) (sym at_it) stands_on)
    (λ q apart. set_other seats p q (Some y) apart) (λ q apart. here q) (omega (arith, count)) in
    record {
      fits = fits_more b s t seats after p a told fits made same seats_fit;
      records = record {
        appends = subst (λ (n : ℕ). Appends b (with_record b told.record_is) n a told) (sym stands.1) (appends_one b s t p a told fits.leads made);
        receives = record { pid = refl; seen = refl; receipts = refl };
        counts = refl;
      };
    }

-- what a call that can be made comes to
leaves_came : (b : Bool) (x d : Decided) → cond b (Some x) None ≡ Some d → Leaves x → Leaves d
leaves_came true x d is h = let same : x ≡ d = cc in subst Leaves same h
leaves_came false x d is h = cc

-- where a refusal is due, none is not
not_none : (due : Option Refusal) (refusal : Refusal) → due ≡ Some refusal → due ≡ None → ⊥
not_none due refusal is none = cc

pub call_to : StepPlansProcesses → (b : BookState) (seats : Seats) (s t : RunState) (p : ℕ) (c : Call) (told : ScriptAnswer) → FitsRun b seats s →
    CallGoes s t p c told → RunsTo b seats t (script.Call p c) told
call_to planned b seats s t p c (Recorded told) fits goes = by_seat (slot seats p) refl (fits.seats_fit p)
  where
    by_seat : (x : Option SeatState) → slot seats p ≡ x → StandsFor s.counts.records p (slot s.world.processes p) x →
        RunsTo b seats t (script.Call p c) (Recorded told)
    by_seat None is none = absurd (not_none (first_refusal (call_refusals s p c)) NotHere (rw none refl) goes.0)
    by_seat (Some x) is stands =
        let a = act.Call c in
        let book = with_record b told.record_is in
        let y = received b x told in
        let acts = seat_acts b seats s t p x a told fits is stands goes.1 (closed_made planned s t p a told goes.1)
        (λ d came. leaves_came (can_call (slot s.world.processes p)) (decided s.limits.bounds s.world p c) d came (call_leaves s.limits.bounds s.world p c)) in
        runs_to b seats t (script.Call p c) (Recorded told) book (set seats p (Some y)) acts.fits
        (subst (CallRuns b book seats (set seats p (Some y)) p c (Ok told)) (sym is)
        (record { free = start_same b s x p c fits.leads stands.1 stands.2 ∙ goes.0; seat = y; records = acts.records; seats_are = refl }))
call_to planned b seats s t p c (Refused actor refused refusal) fits goes =
    runs_to b seats t (script.Call p c) (Refused actor refused refusal) b seats (still_fits b seats s t fits goes.3)
    (goes.0, goes.1, by_seat (slot seats p) refl (fits.seats_fit p))
  where
    by_seat : (x : Option SeatState) → slot seats p ≡ x → StandsFor s.counts.records p (slot s.world.processes p) x → CallRuns b b seats seats p c (Err refusal)
        (slot seats p)
    by_seat None is none =
        let due : first_refusal (call_refusals s p c) ≡ Some NotHere = rw none refl in
        subst (CallRuns b b seats seats p c (Err refusal)) (sym is) (subst (λ (d : Option Refusal). IsDue d refusal) due goes.2, unchanged b seats)
    by_seat (Some x) is stands =
        subst (CallRuns b b seats seats p c (Err refusal)) (sym is)
        (subst (λ (d : Option Refusal). IsDue d refusal) (sym (start_same b s x p c fits.leads stands.1 stands.2)) goes.2, unchanged b seats)
call_to planned b seats s t p c (Closed told) fits goes = absurd goes
call_to planned b seats s t p c (Still actor still) fits goes = absurd goes

pub resume_to : StepPlansProcesses → (b : BookState) (seats : Seats) (s t : RunState) (p : ℕ) (told : ScriptAnswer) → FitsRun b seats s →
    ResumeGoes s t p told → RunsTo b seats t (script.Resume p) told
resume_to planned b seats s t p (Recorded told) fits goes = by_seat (slot seats p) refl (fits.seats_fit p)
  where
    by_seat : (x : Option SeatState) → slot seats p ≡ x → StandsFor s.counts.records p (slot s.world.processes p) x →
        RunsTo b seats t (script.Resume p) (Recorded told)
    by_seat None is none = absurd (not_none (first_refusal (resume_refusals s p)) NotHere (rw none refl) goes.0)
    by_seat (Some x) is stands =
        let book = with_record b told.record_is in
        let y = received b x told in
        let acts = seat_acts b seats s t p x act.Resume told fits is stands goes.2 (closed_made planned s t p act.Resume told goes.2)
        (λ d came. resume_leaves s.limits.bounds s.world p d came) in
        runs_to b seats t (script.Resume p) (Recorded told) book (set seats p (Some y)) acts.fits
        (subst (ResumeRuns b book seats (set seats p (Some y)) p (Ok told)) (sym is)
        (record {
          free = resume_same b s x p fits.leads stands.1 stands.2 ∙ goes.0;
          ready = ap (is_ready_in b) stands.1 ∙ (ready_same b s p fits.leads ∙ goes.1);
          seat = y;
          records = acts.records;
          seats_are = refl;
        }))
resume_to planned b seats s t p (Still actor still) fits goes =
    runs_to b seats t (script.Resume p) (Still actor still) b seats (still_fits b seats s t fits goes.4)
    (goes.0, goes.1, by_seat (slot seats p) refl (fits.seats_fit p))
  where
    by_seat : (x : Option SeatState) → slot seats p ≡ x → StandsFor s.counts.records p (slot s.world.processes p) x → StaysStill b b seats seats (slot seats p)
    by_seat None is none = absurd (not_none (first_refusal (exit_refusals s p)) NotHere (rw none refl) goes.2)
    by_seat (Some x) is stands =
        subst (StaysStill b b seats seats) (sym is)
        (exit_same b s x p fits.leads stands.1 stands.2 ∙ goes.2, ap (is_ready_in b) stands.1 ∙ (ready_same b s p fits.leads ∙ goes.3), unchanged b seats)
resume_to planned b seats s t p (Refused actor refused refusal) fits goes =
    runs_to b seats t (script.Resume p) (Refused actor refused refusal) b seats (still_fits b seats s t fits goes.3)
    (goes.0, goes.1, by_seat (slot seats p) refl (fits.seats_fit p))
  where
    by_seat : (x : Option SeatState) → slot seats p ≡ x → StandsFor s.counts.records p (slot s.world.processes p) x → ResumeRuns b b seats seats p (Err refusal)
        (slot seats p)
    by_seat None is none =
        let due : first_refusal (resume_refusals s p) ≡ Some NotHere = rw none refl in
        subst (ResumeRuns b b seats seats p (Err refusal)) (sym is) (subst (λ (d : Option Refusal). IsDue d refusal) due goes.2.due, unchanged b seats)
    by_seat (Some x) is stands =
        subst (ResumeRuns b b seats seats p (Err refusal)) (sym is) (
          record {
            due = subst (λ (d : Option Refusal). IsDue d refusal) (sym (resume_same b s x p fits.leads stands.1 stands.2)) goes.2.due;
            ready = λ free. ap (is_ready_in b) stands.1 ∙
                (ready_same b s p fits.leads ∙ goes.2.ready (sym (exit_same b s x p fits.leads stands.1 stands.2) ∙ free));
          },
          unchanged b seats,
        )
resume_to planned b seats s t p (Closed told) fits goes = absurd goes

-- ---- exits

-- what an exit comes to
pub came_as : (b : Bool) (x d : Decided) → cond b (Some x) None ≡ Some d → d ≡ x
came_as true x d is = cc
came_as false x d is = cc

pub exit_comes : (s t : RunState) (p : ℕ) (told : Receipted) → Grows s t p act.Exit told → comes_to s.limits.bounds s.world p act.Exit ≡ Some (exit p)
exit_comes s t p told made =
    let came = came_to s t p act.Exit told made in
    came.1 ∙ ap Some (came_as _ (exit p) came.0 came.1)

pub exit_processes : (s t : RunState) (p : ℕ) (told : Receipted) → Grows s t p act.Exit told → t.world.processes ≡ set s.world.processes p None
exit_processes s t p told made = ap (λ (w : World). w.processes) (world_stepped s t p act.Exit told (exit p) made (exit_comes s t p told made))

pub exit_to : StepPlansProcesses → (b : BookState) (seats : Seats) (s t : RunState) (p : ℕ) (ran : Result Receipted Refusal) → FitsRun b seats s →
    ExitGoes s t p ran → RunsTo b seats t (script.Exit p) (answer_of p (script.Exit p) ran)
exit_to planned b seats s t p (Ok told) fits goes = by_seat (slot seats p) refl (fits.seats_fit p)
  where
    by_seat : (x : Option SeatState) → slot seats p ≡ x → StandsFor s.counts.records p (slot s.world.processes p) x →
        RunsTo b seats t (script.Exit p) (Recorded told)
    by_seat None is none = absurd (not_none (first_refusal (exit_refusals s p)) NotHere (rw none refl) goes.0)
    by_seat (Some x) is stands =
        let made = goes.1 in
        let book = with_record b told.record_is in
        let after : Seats = set seats p None in
        let ps = s.world.processes in
        let qs = t.world.processes in
        let processes = exit_processes s t p told made in
        let count = records_made s t p act.Exit told made in
        let gone : is_here (slot qs p) ≡ false = ap (λ (l : List (Option Process)). is_here (slot l p)) processes ∙ ap is_here (slot_emptied ps p) in
        let seats_fit : SeatsFit qs t.counts.records after =
        seats_at ps qs s.counts.records t.counts.records seats after p fits.seats_fit
        (subst (StandsFor t.counts.records p (slot qs p)) (sym (slot_emptied seats p)) gone)
        (λ q apart. set_other seats p q None apart) (λ q apart. ap (λ (l : List (Option Process)). is_here (slot l q)) processes ∙
        ap is_here (set_other ps p q None apart)) (omega (arith, count)) in
        runs_to b seats t (script.Exit p) (Recorded told) book after
        (fits_more b s t seats after p act.Exit told fits made (closed_made planned s t p act.Exit told made) seats_fit)
        (subst (ExitRuns b book seats after p (Ok told)) (sym is)
        (record {
          free = exit_same b s x p fits.leads stands.1 stands.2 ∙ goes.0;
          appends = subst (λ (n : ℕ). Appends b book n act.Exit told) (sym stands.1) (appends_one b s t p act.Exit told fits.leads made);
          seats_are = refl;
        }))
exit_to planned b seats s t p (Err refusal) fits goes =
    runs_to b seats t (script.Exit p) (Refused p (script.Exit p) refusal) b seats (still_fits b seats s t fits goes.1)
    (refl, refl, by_seat (slot seats p) refl (fits.seats_fit p))
  where
    by_seat : (x : Option SeatState) → slot seats p ≡ x → StandsFor s.counts.records p (slot s.world.processes p) x → ExitRuns b b seats seats p (Err refusal)
        (slot seats p)
    by_seat None is none =
        let due : first_refusal (exit_refusals s p) ≡ Some NotHere = rw none refl in
        let same : Some NotHere ≡ Some refusal = sym due ∙ goes.0 in
        let it : refusal ≡ NotHere = cc in
        subst (ExitRuns b b seats seats p (Err refusal)) (sym is) (it, unchanged b seats)
    by_seat (Some x) is stands = subst (ExitRuns b b seats seats p (Err refusal)) (sym is) (
      exit_same b s x p fits.leads stands.1 stands.2 ∙ goes.0,
      unchanged b seats,
    )

-- ---- the closing

-- what a book's house holds says nothing of where its records lead
leads_housed : (b : BookState) (s : RunState) (house : Option (List Receipted)) → LeadsTo b s → LeadsTo (record b { house = house }) s
leads_housed b s house leads = record { run = leads.run; is_legal = leads.is_legal }

pub records_all : (s : RunState) (rs : List Record) → (grown_by s rs).counts.records ≡ s.counts.records + length rs
records_all s [] = omega arith
records_all s (r ∷ rs) = omega (arith, records_all (grown s r) rs)

pub closing_to : (b : BookState) (seats : Seats) (s t : RunState) (told : Vec Receipted) → FitsRun b seats s → ClosesBy s t told.items →
    RunsTo b seats t script.CloseRun (Closed told)
closing_to b seats s t told fits closed =
    let leads = fits.leads in
    let rs = closing_records s.world in
    let now = closing_records (world_now b) in
    let h = b.history in
    let book : BookState = record (with_records b rs) { house = None } in
    let same : rs ≡ now = ap (λ (x : RunState). closing_records x.world) leads.run in
    let house_is : b.house ≡ Some [] = fits.house ∙ ap house_of closed.was_open in
    let count : t.counts.records ≡ s.counts.records + length rs = ap (λ (x : RunState). x.counts.records) closed.adds.new_is ∙ records_all s rs in
    let all : LeadsTo (with_records b rs) t = subst (LeadsTo (with_records b rs)) (sym closed.adds.new_is) (leads_all b s rs leads closed.adds.is_legal) in
    let receipts : Some told.items ≡ told_more (length h) now b.house =
    ap Some closed.adds.told ∙ (ap (λ (x : RunState). Some (receipts_from x.counts.records rs)) leads.run ∙
    (ap (λ (l : List Record). Some (receipts_from (length h) l)) same ∙ ap (told_more (length h) now) (sym house_is))) in
    let ends : Ends b book now (seat_of_house book told.items) =
    record {
      limits = refl;
      is_traced = refl;
      history = ap (λ (l : List Record). h ++ l) same;
      pid = refl;
      seen = refl;
      receipts = receipts;
      counts = refl;
      given_away = refl;
    } in
    runs_to b seats t script.CloseRun (Closed told) book seats
    (record {
      leads = leads_housed (with_records b rs) t None all;
      house = sym (ap house_of closed.closed);
      seats_fit = seats_stay s.world.processes t.world.processes s.counts.records t.counts.records seats fits.seats_fit closed.here (omega (arith, count));
    })
    (refl, (ap (λ (x : RunState). x.world.closed) (sym leads.run) ∙ closed.was_open, ends), refl)

pub closing_still : (b : BookState) (seats : Seats) (s : RunState) → FitsRun b seats s → s.world.closed ≡ true →
    RunsTo b seats s script.CloseRun (Still HOUSE script.CloseRun)
closing_still b seats s fits is =
    runs_to b seats s script.CloseRun (Still HOUSE script.CloseRun) b seats fits
    (refl, refl, ((ap (λ (x : RunState). x.world.closed) (sym fits.leads.run) ∙ is, refl), refl))

-- an exit leaves a run open or closed
pub exit_closed : StepPlansProcesses → (s t : RunState) (p : ℕ) (ran : Result Receipted Refusal) → ExitGoes s t p ran → t.world.closed ≡ s.world.closed
exit_closed planned s t p (Ok told) goes = closed_made planned s t p act.Exit told goes.1
exit_closed planned s t p (Err refusal) goes = ap (λ (x : RunState). x.world.closed) goes.1
