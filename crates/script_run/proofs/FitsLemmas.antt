-- Books that fit a run, with more records.
use Rattle.std.proofs.Common.{◌≡◌, ◌∙◌, ℕ, ◌+◌, ◌≤◌, List, [], ◌∷◌, ◌++◌, Option, None, Some, refl, ap, sym, subst, append_assoc, append-nil}
use Rattle.std.specs.Option.{option_map}
use Rattle.call_types.specs.declared.act.Act.{Act}
use Rattle.call_types.specs.declared.act.Record.{Record}
use Rattle.call_types.specs.declared.outcome.Outcome.{Outcome}
use Rattle.posix_model.specs.History.{empty_world, after_act, legal_from}
use Rattle.posix_model.specs.Reserve.{exits_left}
use Rattle.posix_model.specs.Step.{comes_to, given, outcome_of, stepped}
use Rattle.posix_model.specs.Proved.PipeLaws.{BytesOfPipe, SmallWritesUnbroken}
use Rattle.posix_model.specs.declared.change.Decided.{Decided}
use Rattle.posix_model.specs.declared.world.World.{World}
use Rattle.record_book.specs.Seat.{Receipted}
use Rattle.record_book.specs.Book.{BookState, world_now, Appends}
use Rattle.record_book.specs.RunState.{RunState, grown}
use Rattle.record_book.proofs.HistoryLemmas.{legal_from-push, run_push}
use Rattle.script_run.specs.Fits.{LeadsTo, FitsRun, SeatsFit, IsCounted, house_of}
use Rattle.script_run.specs.Runs.{Seats}
use Rattle.script_run.specs.Proved.Closing.{grown_by}
use Rattle.script_run.specs.Proved.Going.{Grows}

-- a book with one record more
abbrev pub with_record : BookState → Record → BookState
with_record b r = record b { history = b.history ++ r ∷ [] }

-- the outcome of an act, as the book gives it
outcome_in : (b : BookState) (s : RunState) (actor : ℕ) (a : Act) (o : Outcome) → LeadsTo b s → outcome_of s.limits.bounds s.world actor a ≡ Some o →
    outcome_of b.limits.bounds (world_now b) actor a ≡ Some o
outcome_in b s actor a o leads is = subst (λ (x : RunState). outcome_of x.limits.bounds x.world actor a ≡ Some o) leads.run is

pub leads_more : (b : BookState) (s : RunState) (r : Record) → LeadsTo b s → outcome_of s.limits.bounds s.world r.actor r.act ≡ Some r.outcome →
    LeadsTo (with_record b r) (grown s r)
leads_more b s r leads is = record {
  run = ap (λ (x : RunState). grown x r) leads.run ∙ sym (run_push b.limits b.history r);
  is_legal = legal_from-push b.limits.bounds empty_world b.history r leads.is_legal (outcome_in b s r.actor r.act r.outcome leads is);
}

-- the record that an act makes has its outcome
pub made_outcome : (s t : RunState) (actor : ℕ) (a : Act) (told : Receipted) → Grows s t actor a told →
    outcome_of s.limits.bounds s.world told.record_is.actor told.record_is.act ≡ Some told.record_is.outcome
made_outcome s t actor a told made =
    let r = told.record_is in
    ap (λ (n : ℕ). outcome_of s.limits.bounds s.world n r.act) made.actor_is ∙ (ap (λ (x : Act). outcome_of s.limits.bounds s.world actor x) made.act_is ∙
    made.outcome)

-- it is appended to the book
pub appends_one : (b : BookState) (s t : RunState) (actor : ℕ) (a : Act) (told : Receipted) → LeadsTo b s → Grows s t actor a told →
    Appends b (with_record b told.record_is) actor a told
appends_one b s t actor a told leads made = record {
  outcome = outcome_in b s actor a told.record_is.outcome leads made.outcome;
  actor_is = made.actor_is;
  act_is = made.act_is;
  place = made.place ∙ ap (λ (x : RunState). x.counts.records) leads.run;
  history = refl;
  limits = refl;
  house = refl;
  is_traced = refl;
}

-- the world after it, and the records
pub world_made : (s t : RunState) (actor : ℕ) (a : Act) (told : Receipted) → Grows s t actor a told → t.world ≡ after_act s.limits.bounds s.world actor a
world_made s t actor a told made =
    let r = told.record_is in
    ap (λ (x : RunState). x.world) made.new_is ∙ (ap (λ (n : ℕ). after_act s.limits.bounds s.world n r.act) made.actor_is ∙
    ap (λ (x : Act). after_act s.limits.bounds s.world actor x) made.act_is)

pub world_stepped : (s t : RunState) (actor : ℕ) (a : Act) (told : Receipted) (d : Decided) → Grows s t actor a told → comes_to s.limits.bounds s.world actor a
    ≡ Some d → t.world ≡ (stepped s.world (given a) d).world
world_stepped s t actor a told d made is = world_made s t actor a told made ∙ rw is refl

pub records_made : (s t : RunState) (actor : ℕ) (a : Act) (told : Receipted) → Grows s t actor a told → t.counts.records ≡ s.counts.records + 1
records_made s t actor a told made = ap (λ (x : RunState). x.counts.records) made.new_is

-- an act of which a record was made came to something
came : (w : World) (bytes : List ℕ) (x : Option Decided) (o : Outcome) → option_map (λ s. s.outcome) (option_map (stepped w bytes) x) ≡ Some o →
    (d : Decided) × (x ≡ Some d)
came w bytes None o is = cc
came w bytes (Some d) o is = (d, refl)

pub came_to : (s t : RunState) (actor : ℕ) (a : Act) (told : Receipted) → Grows s t actor a told →
    (d : Decided) × (comes_to s.limits.bounds s.world actor a ≡ Some d)
came_to s t actor a told made = came s.world (given a) (comes_to s.limits.bounds s.world actor a) told.record_is.outcome made.outcome

-- the book with it, and seats that fit, fit the run
pub fits_more : (b : BookState) (s t : RunState) (seats after : Seats) (actor : ℕ) (a : Act) (told : Receipted) → FitsRun b seats s → Grows s t actor a told →
    t.world.closed ≡ s.world.closed →
    SeatsFit t.world.processes t.counts.records after → FitsRun (with_record b told.record_is) after t
fits_more b s t seats after actor a told fits made same seats_fit = record {
  leads = subst (LeadsTo (with_record b told.record_is)) (sym made.new_is) (leads_more b s told.record_is fits.leads (made_outcome s t actor a told made));
  house = fits.house ∙ ap house_of (sym same);
  seats_fit = seats_fit;
}

-- a book with more records
abbrev pub with_records : BookState → List Record → BookState
with_records b rs = record b { history = b.history ++ rs }

pub leads_all : (b : BookState) (s : RunState) (rs : List Record) → LeadsTo b s → legal_from s.limits.bounds s.world rs →
    LeadsTo (with_records b rs) (grown_by s rs)
leads_all b s [] leads sound = subst (λ (h : List Record). LeadsTo (record b { history = h }) s) (sym (append-nil b.history)) leads
leads_all b s (r ∷ rs) leads sound =
    subst (λ (h : List Record). LeadsTo (record b { history = h }) (grown_by (grown s r) rs)) (append_assoc b.history (r ∷ []) rs)
    (leads_all (with_record b r) (grown s r) rs (leads_more b s r leads sound.0) sound.1)

-- what a run counts is counted of each book that fits it
pub counts_all : BytesOfPipe → SmallWritesUnbroken → (s : RunState) → s.counts.records + exits_left s.world ≤ s.limits.records → IsCounted s s.counts
counts_all bytes small s reserve = λ b seats fits.
    let leads = fits.leads in
    let run = leads.run in
    record {
      records = ap (λ (x : RunState). x.counts.records) run;
      bytes_in = ap (λ (x : RunState). x.counts.bytes_in) run;
      bytes_out = ap (λ (x : RunState). x.counts.bytes_out) run;
      is_legal = leads.is_legal;
      pipes = bytes b.limits.bounds b.history leads.is_legal;
      small_writes = small b.limits.bounds b.history leads.is_legal;
      reserve = subst (λ (x : RunState). x.counts.records + exits_left x.world ≤ x.limits.records) run reserve;
    }
