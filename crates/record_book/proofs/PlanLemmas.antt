-- What a run needs to know of an act before it records it, and that a run with one more record is a run.
use Rattle.std.proofs.Common.{◌≡◌, ◌∙◌, ℕ, ◌+◌, ◌≤◌, ◌<◌, ◌||◌, Bool, true, false, cond, ◌&&◌, List, [], ◌∷◌, None, Some, length, refl, sym, ap, subst, arith, eqb, leb}
use Rattle.std.specs.Prelude.{not}
use Rattle.std.specs.Option.{option_map}
use Rattle.std.proofs.lemmas.Bool.{eq-eqb, leb-false, leb-true}
use Rattle.call_types.specs.declared.limits.TheConstants.{GIVEN_BYTES_MAX, OFFSET_MAX}
use Rattle.call_types.specs.declared.act.Act.{Act}
use Rattle.call_types.specs.declared.act.Act.TheVariants as act
use Rattle.call_types.specs.declared.act.Record.{Record}
use Rattle.call_types.specs.declared.call.Call.{Call}
use Rattle.call_types.specs.declared.call.Call.TheVariants as call
use Rattle.call_types.specs.declared.limits.Limits.{Limits}
use Rattle.call_types.specs.declared.refusal.Refusal.{Refusal}
use Rattle.slots.specs.Slots.{slot, live}
use Rattle.process_table.specs.Processes.{is_here}
use Rattle.posix_model.specs.History.{after_act}
use Rattle.posix_model.specs.Join.{is_full, join}
use Rattle.posix_model.specs.Pages.{decided_by}
use Rattle.posix_model.specs.Reserve.{exits_left}
use Rattle.posix_model.specs.Step.{is_parked, can_call, decided, given, comes_to, stepped, step}
use Rattle.posix_model.specs.Turns.{took, gave}
use Rattle.posix_model.specs.Proved.Laws.{Counts, StepKeepsWhole, StepPlansProcesses}
use Rattle.posix_model.specs.Proved.Sound.{ActsAreSound, adds}
use Rattle.posix_model.specs.declared.change.Decided.{Decided}
use Rattle.posix_model.specs.declared.world.World.{World}
use Rattle.byte_ledger.specs.declared.tallies.Sums.{Sums}
use Rattle.record_book.specs.RunState.{RunState, counted_with, grown, next_of}
use Rattle.record_book.specs.Book.{BookState, run_of}
use Rattle.record_book.specs.Refusals.{call_refusals, first_refusal, foreign, is_run_full, start_refusal}
use Rattle.record_book.specs.Seat.{SeatState}
use Rattle.record_book.specs.Proved.Inside.{IsRun}
use Rattle.record_book.specs.Proved.Planned.{IsPlanned}

-- what is left of exits after an act that ends no process and does not close the run
exits_of : (w v : World) (more : ℕ) → Counts w v more 0 false → exits_left v ≡ cond w.closed (live w.processes + more) (live w.processes + more + 1)
exits_of w v more c = let living : live v.processes ≡ live w.processes + more = omega (arith, c.living) in rw (c.closed, living) refl

-- the world after an act that comes to something
pub after_step : (s : RunState) (actor : ℕ) (a : Act) (d : Decided) → comes_to s.limits.bounds s.world actor a ≡ Some d →
    after_act s.limits.bounds s.world actor a ≡ (stepped s.world (given a) d).world
after_step s actor a d is = rw is refl

-- after a call there are as many exits left as before it and as many more as it adds processes
pub call_exits : StepPlansProcesses → (s : RunState) (p : ℕ) (c : Call) → can_call (slot s.world.processes p) ≡ true →
    exits_left (after_act s.limits.bounds s.world p (act.Call c)) ≡
    cond s.world.closed (live s.world.processes + adds s.world (act.Call c)) (live s.world.processes + adds s.world (act.Call c) + 1)
call_exits planned s p c may =
    let w = s.world in
    let d = decided s.limits.bounds w p c in
    let comes : comes_to s.limits.bounds w p (act.Call c) ≡ Some d = rw may refl in
    let v = (stepped w (given (act.Call c)) d).world in
    let P : World → Type 0 = λ u. exits_left u ≡ cond w.closed (live w.processes + adds w (act.Call c)) (live w.processes + adds w (act.Call c) + 1) in
    subst P (sym (after_step s p (act.Call c) d comes))
    (exits_of w v (adds w (act.Call c)) (planned s.limits.bounds w p (act.Call c) (stepped w (given (act.Call c)) d)
    (ap (option_map (stepped w (given (act.Call c)))) comes)))

-- a join under the next number is a step
pub join_comes : (s : RunState) → comes_to s.limits.bounds s.world (next_of s) act.Join ≡ Some (decided_by (join s.world))
join_comes s = let n = length s.world.processes in let same : eqb n n ≡ true = eq-eqb n n refl in rw same refl

-- what an act comes to can be recorded, if its record fits
pub plans : ActsAreSound → StepPlansProcesses → StepKeepsWhole → (s : RunState) (actor : ℕ) (a : Act) (d : Decided) → IsRun s →
    s.limits.bounds.file_size ≤ OFFSET_MAX →
    comes_to s.limits.bounds s.world actor a ≡ Some d → is_run_full s actor a ≡ false → IsPlanned s actor a d
plans sound planned keeps s actor a d run small is roomy =
    let w = s.world in
    let bounds = s.limits.bounds in
    let v = stepped w (given a) d in
    let stands = sound bounds w actor a d is in
    let steps : step bounds w actor a ≡ Some v = ap (option_map (stepped w (given a))) is in
    record {
      comes_to_is = is;
      fits = stands.fits run.whole;
      proper = stands.proper small;
      puts = stands.puts;
      whole = run.whole;
      whole_after = keeps bounds w actor a v run.whole steps;
      counts = planned bounds w actor a v steps;
      told = stands.processes;
      few = stands.few;
      roomy = roomy;
    }

-- each act adds one process at most
few_added : (w : World) (a : Act) → adds w a ≤ 1
few_added w act.Join = elim (is_full w) as (λ b. cond b 0 1 ≤ 1) [ true ↦ omega arith | false ↦ omega arith ]
few_added w (act.Call call.Fork) = elim (is_full w) as (λ b. cond b 0 1 ≤ 1) [ true ↦ omega arith | false ↦ omega arith ]
few_added w (act.Call other) = omega arith
few_added w other = omega arith

-- a run that is not full has room for one process more
not_full : (closed : Bool) (n : ℕ) → (closed || leb 64 n) ≡ false → n < 64
not_full true n e = cc
not_full false n e = leb-false 64 n e

room_for_one : (w : World) (b : Bool) → is_full w ≡ b → live w.processes ≤ 64 → live w.processes + cond b 0 1 ≤ 64
room_for_one w true e few = omega (arith, few)
room_for_one w false e few = omega (arith, not_full w.closed (live w.processes) e)

-- no act makes more live processes than there may be
few_after : (w : World) (a : Act) → live w.processes ≤ 64 → live w.processes + adds w a ≤ 64
few_after w act.Join few = room_for_one w (is_full w) refl few
few_after w (act.Call call.Fork) few = room_for_one w (is_full w) refl few
few_after w (act.Call other) few = omega (arith, few)
few_after w other few = omega (arith, few)

not_false : (b : Bool) → not b ≡ false → b ≡ true
not_false true e = refl
not_false false e = cc

same_state : (s : RunState) (l : Limits) (w : World) (c : Sums) → s.limits ≡ l → s.world ≡ w → s.counts ≡ c → s ≡ record { limits = l; world = w; counts = c }
same_state s l w c e f g = rw (← e, ← f, ← g) refl

-- a record that took and gave nothing is counted as one
pub counted_quiet : (w : World) (r : Record) (sums : Sums) → took w r ≡ 0 → gave w r ≡ 0 →
    record { records = sums.records + 1; bytes_in = sums.bytes_in; bytes_out = sums.bytes_out } ≡ counted_with w r sums
counted_quiet w r sums takes gives =
    let same_in : sums.bytes_in + took w r ≡ sums.bytes_in = omega (arith, takes) in
    let same_out : sums.bytes_out + gave w r ≡ sums.bytes_out = omega (arith, gives) in
    rw (same_in, same_out) refl

-- a run with one more record of a planned act
pub record IsMore (s t : RunState) (r : Record) (d : Decided) : Type 0 where
  pub planned : IsPlanned s r.actor r.act d
  pub limits : t.limits ≡ s.limits
  pub world : t.world ≡ (stepped s.world (given r.act) d).world
  pub counts : t.counts ≡ counted_with s.world r s.counts

pub run_more : (s t : RunState) (r : Record) (d : Decided) → IsMore s t r d → t ≡ grown s r
run_more s t r d more =
    same_state t s.limits _ (counted_with s.world r s.counts) more.limits (more.world ∙ sym (after_step s r.actor r.act d more.planned.comes_to_is)) more.counts

pub run_grows : (s t : RunState) (r : Record) (d : Decided) → IsRun s → IsMore s t r d → t.counts.bytes_in ≤ s.counts.bytes_in + GIVEN_BYTES_MAX →
    t.counts.bytes_out ≤ s.counts.bytes_out + GIVEN_BYTES_MAX → IsRun t
run_grows s t r d run more few_in few_out =
    let w = s.world in
    let planned = more.planned in
    let v = (stepped w (given r.act) d).world in
    let after : after_act s.limits.bounds w r.actor r.act ≡ v = after_step s r.actor r.act d planned.comes_to_is in
    let fits : (s.counts.records + 1) + exits_left v ≤ s.limits.records =
    let P : World → Type 0 = λ u. (s.counts.records + 1) + exits_left u ≤ s.limits.records in subst P after (leb-true _ _ (not_false _ planned.roomy)) in
    let few : live v.processes ≤ 64 = omega (arith, planned.counts.living, few_after w r.act run.few_live) in
    let all : length v.processes ≤ s.counts.records + 1 = omega (arith, planned.counts.all, few_added w r.act, run.few_processes) in
    let records : t.counts.records ≡ s.counts.records + 1 = ap (λ (x : Sums). x.records) more.counts in
    record {
      whole = rw more.world planned.whole_after;
      reserve = rw (more.limits, more.world, records) fits;
      few_processes = rw (more.world, records) all;
      few_live = rw more.world few;
      few_in = omega (arith, few_in, run.few_in, records);
      few_out = omega (arith, few_out, run.few_out, records);
    }

-- a call that is not refused is one of a process that may make it, and its record fits
pub record IsFree (s : RunState) (p : ℕ) (c : Call) : Type 0 where
  pub comes : comes_to s.limits.bounds s.world p (act.Call c) ≡ Some (decided s.limits.bounds s.world p c)
  pub roomy : is_run_full s p (act.Call c) ≡ false

may_call : (here parked : Bool) → not here ≡ false → parked ≡ false → (here && not parked) ≡ true
may_call true true h k = cc
may_call true false h k = refl
may_call false parked h k = cc

none_due : (a b c : Bool) (x y z : Refusal) → first_refusal ((a, x) ∷ (b, y) ∷ (c, z) ∷ []) ≡ None → (a ≡ false) × (b ≡ false) × (c ≡ false)
none_due true b c x y z h = cc
none_due false true c x y z h = cc
none_due false false true x y z h = cc
none_due false false false x y z h = (refl, refl, refl)

pub call_is_free : (s : RunState) (p : ℕ) (c : Call) → first_refusal (call_refusals s p c) ≡ None → IsFree s p c
call_is_free s p c free =
    let there = slot s.world.processes p in
    let none = none_due (not (is_here there)) (is_parked there) (is_run_full s p (act.Call c)) _ _ _ free in
    let may : can_call there ≡ true = may_call (is_here there) (is_parked there) none.0 none.1 in
    record { comes = rw may refl; roomy = none.2 }

-- where none of several refusals is due, none of those after the first is
none_later : (first : Bool) (refusal : Refusal) (more : List (Bool × Refusal)) → first_refusal ((first, refusal) ∷ more) ≡ None → first_refusal more ≡ None
none_later true refusal more none = cc
none_later false refusal more none = none

pub start_is_free : (b : BookState) (s : SeatState) (c : Call) → start_refusal b s c ≡ None → IsFree (run_of b) s.pid c
start_is_free b s c none =
    let seen = foreign b s in
    call_is_free (run_of b) s.pid c (none_later seen.0 seen.1 (call_refusals (run_of b) s.pid c) none)
