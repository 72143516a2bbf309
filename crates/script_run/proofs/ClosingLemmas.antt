-- The exits of a closing, one after another, and the closing itself.
use Rattle.std.proofs.Common.{◌≡◌, ◌∙◌, ℕ, ◌+◌, ◌<◌, Bool, true, false, List, [], ◌∷◌, ◌++◌, Option, None, Some, length, set, refl, ap, sym, subst, arith, append_assoc, length-set}
use Rattle.std.specs.Prelude.{not}
use Rattle.std.specs.Option.{option_map}
use Rattle.call_types.specs.declared.act.TheConstants.{HOUSE}
use Rattle.call_types.specs.declared.act.Act.{Act}
use Rattle.call_types.specs.declared.act.Act.TheVariants as act
use Rattle.call_types.specs.declared.act.Record.{Record}
use Rattle.call_types.specs.declared.limits.Limits.{Limits}
use Rattle.slots.specs.Slots.{live, slot}
use Rattle.process_table.specs.declared.process.Process.{Process}
use Rattle.process_table.specs.Processes.{awaits, is_here}
use Rattle.posix_model.specs.Exit.{exit, close_run}
use Rattle.posix_model.specs.History.{world_from}
use Rattle.posix_model.specs.Step.{comes_to, outcome_of, step, stepped}
use Rattle.posix_model.specs.Proved.Laws.{StepPlansProcesses}
use Rattle.posix_model.specs.declared.world.World.{World}
use Rattle.posix_model.proofs.SlotLaws.{test_set}
use Rattle.record_book.specs.Seat.{Receipted}
use Rattle.record_book.specs.Exits.{exit_record, closing_record, closing_records, orphans_exits, receipts_from}
use Rattle.record_book.proofs.ExitLemmas.{exits_ahead, ahead_other, ahead_orphan, receipts_more}
use Rattle.record_book.proofs.HistoryLemmas.{legal_from-push}
use Rattle.record_book.specs.RunState.{RunState, grown}
use Rattle.script_run.specs.Proved.Closing.{Adds, ClosesBy, OrphansEnd, OrphansSoFar, SameHere, grown_by}
use Rattle.script_run.specs.Proved.Going.{Grows}
use Rattle.script_run.proofs.FitsLemmas.{came_to, made_outcome, world_stepped}
use Rattle.script_run.proofs.GoingLemmas.{came_as, closed_made, exit_comes, exit_processes, records_all}

grown_push : (s : RunState) (rs : List Record) (r : Record) → grown_by s (rs ++ r ∷ []) ≡ grown (grown_by s rs) r
grown_push s [] r = refl
grown_push s (x ∷ rs) r = grown_push (grown s x) rs r

world_all : (s : RunState) (rs : List Record) → (grown_by s rs).world ≡ world_from s.limits.bounds s.world rs
world_all s [] = refl
world_all s (r ∷ rs) = world_all (grown s r) rs

limits_all : (s : RunState) (rs : List Record) → (grown_by s rs).limits ≡ s.limits
limits_all s [] = refl
limits_all s (r ∷ rs) = limits_all (grown s r) rs

-- one record more is made after others
adds_more : (old now new : RunState) (before after : List Receipted) (done : List Record) (actor : ℕ) (a : Act) (told : Receipted) →
    Adds old now before after done → Grows now new actor a told → Adds old new before (after ++ told ∷ []) (done ++ told.record_is ∷ [])
adds_more old now new before after done actor a told adds made =
    let r = told.record_is in
    let bounds = old.limits.bounds in
    let start = old.counts.records in
    let mid = grown_by old done in
    let outcome : outcome_of bounds (world_from bounds old.world done) r.actor r.act ≡ Some r.outcome =
    subst (λ (w : World). outcome_of bounds w r.actor r.act ≡ Some r.outcome) (world_all old done)
    (subst (λ (l : Limits). outcome_of l.bounds mid.world r.actor r.act ≡ Some r.outcome) (limits_all old done)
    (subst (λ (x : RunState). outcome_of x.limits.bounds x.world r.actor r.act ≡ Some r.outcome) adds.new_is (made_outcome now new actor a told made))) in
    let place : told.place ≡ start + length done = made.place ∙ (ap (λ (x : RunState). x.counts.records) adds.new_is ∙ records_all old done) in
    let one : told ∷ [] ≡ receipts_from (start + length done) (r ∷ []) = ap (λ (n : ℕ). record { place = n; record_is = r } ∷ []) place in
    record {
      is_legal = legal_from-push bounds old.world done r adds.is_legal outcome;
      new_is = made.new_is ∙ (ap (λ (x : RunState). grown x r) adds.new_is ∙ sym (grown_push old done r));
      told =
          ap (λ (l : List Receipted). l ++ told ∷ []) adds.told ∙ (append_assoc before (receipts_from start done) (told ∷ [])
          ∙ ap (λ (l : List Receipted). before ++ l) (ap (λ (l : List Receipted). receipts_from start done ++ l) one ∙
          sym (receipts_more start done (r ∷ []))));
    }

-- a process that has its connection is passed over
pub orphan_passed : (old now : RunState) (before after : List Receipted) (n : ℕ) → OrphansSoFar old now before after (exits_ahead n now.world.processes) →
    n < length now.world.processes →
    awaits (slot now.world.processes n) ≡ false → OrphansSoFar old now before after (exits_ahead (n + 1) now.world.processes)
orphan_passed old now before after n so_far below other = subst (OrphansSoFar old now before after) (ahead_other now.world.processes n below other) so_far

not_true : (b : Bool) → not b ≡ true → false ≡ b
not_true true e = cc
not_true false e = refl

orphan_away : (x : Option Process) → awaits x ≡ true → is_here None ≡ is_here x
orphan_away None e = cc
orphan_away (Some p) e = not_true p.attached e

-- one that has none ends
pub orphan_ended : StepPlansProcesses → (old now new : RunState) (before after : List Receipted) (n : ℕ) (told : Receipted) →
    OrphansSoFar old now before after (exits_ahead n now.world.processes) →
    n < length now.world.processes → awaits (slot now.world.processes n) ≡ true → Grows now new n act.Exit told → told.record_is ≡ exit_record n →
    OrphansSoFar old new before (after ++ told ∷ []) (exits_ahead (n + 1) new.world.processes)
orphan_ended planned old now new before after n told so_far below waits made is =
    let ps = now.world.processes in
    let qs = new.world.processes in
    let processes : qs ≡ set ps n None = exit_processes now new n told made in
    let left : exits_ahead n ps ≡ told.record_is ∷ exits_ahead (n + 1) qs =
    ahead_orphan ps n below waits ∙ (ap (λ (r : Record). r ∷ exits_ahead (n + 1) (set ps n None)) (sym is) ∙
    ap (λ (l : List (Option Process)). told.record_is ∷ exits_ahead (n + 1) l) (sym processes)) in
    let here : SameHere now.world new.world = λ q. ap (λ (l : List (Option Process)). is_here (slot l q)) processes ∙
    test_set is_here ps n None q (orphan_away (slot ps n) waits) in
    record {
      done = so_far.done ++ told.record_is ∷ [];
      adds = adds_more old now new before after so_far.done n act.Exit told so_far.adds made;
      all = append_assoc so_far.done (told.record_is ∷ []) (exits_ahead (n + 1) qs) ∙ (ap (λ (l : List Record). so_far.done ++ l) (sym left) ∙ so_far.all);
      closed = closed_made planned now new n act.Exit told made ∙ so_far.closed;
      here = λ q. here q ∙ so_far.here q;
      numbers = ap length processes ∙ (length-set ps n None ∙ so_far.numbers);
    }

-- the closing leaves the processes
closing_processes : (s t : RunState) (told : Receipted) → Grows s t HOUSE act.CloseRun told → t.world.processes ≡ s.world.processes
closing_processes s t told made =
    let came = came_to s t HOUSE act.CloseRun told made in
    let comes : comes_to s.limits.bounds s.world HOUSE act.CloseRun ≡ Some close_run = came.1 ∙ ap Some (came_as _ close_run came.0 came.1) in
    ap (λ (w : World). w.processes) (world_stepped s t HOUSE act.CloseRun told close_run made comes)

-- it follows them
pub closes_by : StepPlansProcesses → (old now new : RunState) (exits : List Receipted) (told : Receipted) → old.world.closed ≡ false →
    OrphansEnd old now [] exits → Grows now new HOUSE act.CloseRun told →
    told.record_is ≡ closing_record → ClosesBy old new (exits ++ told ∷ [])
closes_by planned old now new exits told was_open ends made is =
    let done = orphans_exits old.world in
    record {
      was_open = was_open;
      adds = subst (Adds old new [] (exits ++ told ∷ [])) (ap (λ (r : Record). done ++ r ∷ []) is)
          (adds_more old now new [] exits done HOUSE act.CloseRun told ends.adds made);
      closed = closed_made planned now new HOUSE act.CloseRun told made;
      here = λ q. ap (λ (l : List (Option Process)). is_here (slot l q)) (closing_processes now new told made) ∙ ends.here q;
    }

pub closes_limits : (s t : RunState) (told : List Receipted) → ClosesBy s t told → t.limits ≡ s.limits
closes_limits s t told closed = ap (λ (x : RunState). x.limits) closed.adds.new_is ∙ limits_all s (closing_records s.world)

-- an exit leaves one live process less
pub live_ended : StepPlansProcesses → (s t : RunState) (p : ℕ) (told : Receipted) → Grows s t p act.Exit told →
    live t.world.processes + 1 ≡ live s.world.processes
live_ended planned s t p told made =
    let comes = exit_comes s t p told made in
    let v = stepped s.world [] (exit p) in
    let steps : step s.limits.bounds s.world p act.Exit ≡ Some v = ap (option_map (stepped s.world [])) comes in
    let count = planned s.limits.bounds s.world p act.Exit v steps in
    let same : live t.world.processes ≡ live v.world.processes = ap (λ (w : World). live w.processes) (world_stepped s t p act.Exit told (exit p) made comes) in
    omega (arith, count.living, same)

pub number_ended : (s t : RunState) (p : ℕ) (told : Receipted) → Grows s t p act.Exit told → length t.world.processes ≡ length s.world.processes
number_ended s t p told made = ap length (exit_processes s t p told made) ∙ length-set s.world.processes p None
