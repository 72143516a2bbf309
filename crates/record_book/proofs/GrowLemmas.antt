-- A journal with one more record is a journal.
use Rattle.std.proofs.Common.{◌≡◌, ◌∙◌, ℕ, ◌+◌, ◌||◌, Bool, cond, None, Some, set, sym, [], ◌∷◌, ◌++◌, length, false, refl, ap, subst, arith, length-append}
use Rattle.call_types.specs.declared.act.TheConstants.{HOUSE}
use Rattle.call_types.specs.declared.act.Act.TheVariants as act
use Rattle.call_types.specs.declared.act.Record.{Record}
use Rattle.slots.specs.Slots.{live}
use Rattle.posix_model.specs.Exit.{exit, close_run}
use Rattle.posix_model.specs.Step.{given, outcome_of, stepped}
use Rattle.posix_model.specs.Proved.Sound.{adds}
use Rattle.posix_model.specs.Proved.Laws.{Counts}
use Rattle.posix_model.specs.declared.change.Decided.{Decided}
use Rattle.posix_model.specs.declared.world.World.{World}
use Rattle.trace_ring.specs.Proved.Trace.{Pushes}
use Rattle.record_book.specs.RunState.{RunState, grown, run_at}
use Rattle.record_book.specs.Exits.{exit_record, closing_record}
use Rattle.record_book.specs.JournalSeen.{records_in}
use Rattle.record_book.specs.Proved.House.{closing_of, HasRoom, SameHouse}
use Rattle.record_book.specs.Proved.Inside.{prepared_closing, IsJournal}
use Rattle.record_book.specs.Proved.Planned.{IsPlanned}
use Rattle.record_book.specs.Proved.Prepared.{exits_from}
use Rattle.record_book.specs.declared.journal.Journal.TheInside.{Inside}
use Rattle.record_book.proofs.ExitLemmas.{exits_emptied}
use Rattle.record_book.proofs.HistoryLemmas.{legal_from-push, run_push}
use Rattle.record_book.proofs.PlanLemmas.{after_step}

-- a journal with one more record of a planned act
pub record IsGrown (b b' : Inside) (r : Record) (d : Decided) : Type 0 where
  pub planned : IsPlanned b.progress r.actor r.act d
  pub outcome : r.outcome ≡ d.outcome
  pub records : Pushes b.history b'.history r
  pub progress : b'.progress ≡ grown b.progress r
  pub exits : b'.exits.0 ≡ exits_from 0 (stepped b.progress.world (given r.act) d).world.processes
  pub closing : closing_of b'.house ≡ prepared_closing (stepped b.progress.world (given r.act) d).world
  pub house : HasRoom (live (stepped b.progress.world (given r.act) d).world.processes) b'.house

-- an act that does not close the run leaves it as it was
pub closed_same : (w v : World) (ends more : ℕ) (closing : Bool) → Counts w v more ends closing → closing ≡ false → v.closed ≡ w.closed
closed_same w v ends more closing c none = c.closed ∙ ap (λ b. b || w.closed) none

-- a journal in which nothing but room was made
pub record IsSame (b b' : Inside) : Type 0 where
  pub progress : b'.progress ≡ b.progress
  pub history : b'.history ≡ b.history
  pub exits : b'.exits.0 ≡ b.exits.0
  pub house : SameHouse b.house b'.house

pub journal_stays : (b b' : Inside) → IsJournal b → IsSame b b' → IsJournal b'
journal_stays b b' book same = record {
  is_legal = rw (same.history, same.progress) book.is_legal;
  run = rw (same.history, same.progress) book.run;
  room = rw (same.history, same.progress) book.room;
  exits = rw (same.exits, same.progress) book.exits;
  closing = rw (same.house.closing, same.progress) book.closing;
  house = rw same.progress (same.house.room (live b.progress.world.processes) book.house);
}

pub journal_grows : (b b' : Inside) (r : Record) (d : Decided) → IsJournal b → IsGrown b b' r d → IsJournal b'
journal_grows b b' r d book more =
    let s = b.progress in
    let h = records_in b in
    let same : b'.progress.limits ≡ s.limits = ap (λ (t : RunState). t.limits) more.progress in
    let world : b'.progress.world ≡ (stepped s.world (given r.act) d).world =
    ap (λ (t : RunState). t.world) more.progress ∙ after_step s r.actor r.act d more.planned.comes_to_is in
    let outcome : outcome_of s.limits.bounds s.world r.actor r.act ≡ Some r.outcome = rw (more.planned.comes_to_is, more.outcome) refl in
    let leads : b'.progress ≡ run_at s.limits (h ++ r ∷ []) = more.progress ∙ (ap (λ (t : RunState). grown t r) book.run ∙ sym (run_push s.limits h r)) in
    record {
      is_legal = rw (more.records.sent, same)
          (legal_from-push s.limits.bounds _ h r book.is_legal
          (subst (λ (t : RunState). outcome_of t.limits.bounds t.world r.actor r.act ≡ Some r.outcome) book.run outcome));
      run = leads ∙ rw (more.records.sent, same) refl;
      room =
          let count : length (records_in b') ≡ length h + 1 = rw more.records.sent (length-append h (r ∷ [])) in
          rw same (omega (arith, count, more.records.free, book.room));
      exits = rw world more.exits;
      closing = rw world more.closing;
      house = rw world more.house;
    }

-- a journal with the exit of a process
pub record IsEnded (b b' : Inside) (p : ℕ) : Type 0 where
  pub records : Pushes b.history b'.history (exit_record p)
  pub progress : b'.progress ≡ grown b.progress (exit_record p)
  pub exits : b'.exits.0 ≡ set b.exits.0 p None
  pub closing : closing_of b'.house ≡ closing_of b.house
  pub house : (k : ℕ) → k + 1 ≡ live b.progress.world.processes → HasRoom k b'.house

pub journal_ends : (b b' : Inside) (p : ℕ) → IsJournal b → IsPlanned b.progress p act.Exit (exit p) → IsEnded b b' p → IsJournal b'
journal_ends b b' p book planned e =
    let w = b.progress.world in
    let next = (stepped w [] (exit p)).world in
    journal_grows b b' (exit_record p) (exit p) book (record {
      planned = planned;
      outcome = refl;
      records = e.records;
      progress = e.progress;
      exits = e.exits ∙ ap (λ es. set es p None) book.exits ∙ sym (exits_emptied 0 w.processes p);
      closing =
          e.closing ∙ book.closing ∙
          ap (λ b. cond b None (Some closing_record)) (sym (closed_same w next 1 (adds w act.Exit) false planned.counts refl));
      house = e.house (live next.processes) (omega (arith, planned.counts.living));
    })

-- a journal with the closing of its run
pub record IsShut (b b' : Inside) : Type 0 where
  pub records : Pushes b.history b'.history closing_record
  pub progress : b'.progress ≡ grown b.progress closing_record
  pub exits : b'.exits.0 ≡ b.exits.0
  pub house : b'.house ≡ None

pub journal_shuts : (b b' : Inside) → IsJournal b → IsPlanned b.progress HOUSE act.CloseRun close_run → IsShut b b' → IsJournal b'
journal_shuts b b' book planned e =
    journal_grows b b' closing_record close_run book (record {
      planned = planned;
      outcome = refl;
      records = e.records;
      progress = e.progress;
      exits = e.exits ∙ book.exits;
      closing = rw e.house refl;
      house = rw e.house tt;
    })
