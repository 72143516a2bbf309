-- What was written of a run is legal.
use Rattle.std.proofs.Common.{◌≡◌, ℕ, ◌+◌, ◌-◌, ◌<◌, ◌≤◌, suc, Bool, List, [], ◌∷◌, ◌++◌, map, Option, None, Some, IfSome, length, refl, sym, ap, subst, ◌∙◌, arith, inl, inr}
use Rattle.std.specs.List.{AllByRecursion, AllZip, slice_get}
use Rattle.std.specs.Option.{option_map}
use Rattle.std.proofs.lemmas.Bool.{cases_lt}
use Rattle.std.proofs.lemmas.Option.{slice_get_past}
use Rattle.call_types.specs.declared.act.Act.{Act}
use Rattle.call_types.specs.declared.act.Act.TheVariants as acts
use Rattle.call_types.specs.declared.act.Record.{Record}
use Rattle.call_types.specs.declared.call.Call.TheVariants as calls
use Rattle.call_types.specs.declared.limits.Limits.{Limits}
use Rattle.call_types.specs.declared.limits.TheConstants.{RECORD_LENGTH_MAX}
use Rattle.frame_codec.specs.Frames.{IsFrame, frame}
use Rattle.frame_codec.specs.Records.{ActFits, FlagsFit, IsInRange, SpellsRecord, record_bytes}
use Rattle.frame_codec.specs.Trace.{header_2, told_of, whole_in}
use Rattle.posix_model.specs.declared.world.World.{World}
use Rattle.posix_model.specs.Reserve.{IsLegalRun}
use Rattle.trace_writer.specs.Traces.{BeginsUnspelled}
use Rattle.record_book.specs.Book.{world_now}
use Rattle.record_book.specs.Exits.{closing_record, closing_records, exit_record, orphans_from, receipts_from}
use Rattle.record_book.specs.Seat.{Receipted, SeatState}
use Rattle.session_core.specs.Proved.Laws.{ActsFit, SeatFits, ActsOfSeatsFit}
use Rattle.audit_core.specs.Proved.Laws.{LegalHaveFrames, WrittenIsLegal, AllInRange}
use Rattle.audit_core.specs.Trace.{HaveFrames}
use Rattle.audit_core.specs.Verdict.{IsVerdict}
use Rattle.audit_core.specs.declared.verdict.Verdict.TheVariants.{Legal}
use Rattle.run_core.specs.Receipts.{Held, GoodAt, GoodFrom, names, named, wanted, held_by}
use Rattle.run_core.specs.Run.{Connection, ReportedSession, ServesConnection, RunTold, IsRun, held_in, with_seat}
use Rattle.run_core.specs.Judged.{FlagsDecide}
use Rattle.run_core.specs.Proved.Laws.{FlagsDecideAll, RunsAreJudged, RunsAreSpelled}

-- ---- the records of receipts

-- holders of receipts whose acts have their fields in range
abbrev AllFit : List Held → Type 0
AllFit held = AllByRecursion (λ holder. ActsFit holder.receipts) held

-- the act of the record of a place has its fields in range
record FitsAt (h : List Record) (p : ℕ) : Type 0 where
  told : Record
  stands : slice_get h p ≡ Some told
  fits : ActFits told.act

later_names : (p : ℕ) (r : Receipted) (rs : List Receipted) → (r.place ≡ p → ⊥) → 1 ≤ names p (r ∷ rs) → 1 ≤ names p rs
later_names p r rs other some = grind (arith, other, some)

-- a receipt that names a place
receipt_fits : (h : List Record) (pid p : ℕ) (before : Option ℕ) (rs : List Receipted) → ActsFit rs → GoodFrom h pid p before rs → 1 ≤ names p rs → FitsAt h p
receipt_fits h pid p before [] fits good some = absurd (omega (arith, some))
receipt_fits h pid p before (r ∷ rs) fits good some =
    let later : (r.place ≡ p → ⊥) → FitsAt h p = λ other. receipt_fits h pid p (Some r.place) rs fits.1 good.1 (later_names p r rs other some) in
    elim (cases_lt r.place p) [
      | inl below ↦ later (λ same. omega (arith, below, same))
      | inr past ↦ elim (cases_lt p r.place) [
        | inl above ↦ later (λ same. omega (arith, above, same))
        | inr least ↦
            let same : r.place ≡ p = omega (arith, past, least) in
            record { told = r.record_is; stands = subst (λ (n : ℕ). slice_get h n ≡ Some r.record_is) same (good.0 same).stands; fits = fits.0 }
      ]
    ]

-- a receipt of some holder that names a place
held_fits : (h : List Record) (p : ℕ) (held : List Held) → AllFit held → GoodAt h p held → 1 ≤ named p held → FitsAt h p
held_fits h p [] fits good some = absurd (omega (arith, some))
held_fits h p (s ∷ held) fits good some = elim (cases_lt 0 (names p s.receipts)) [
  | inl here ↦ receipt_fits h s.pid p None s.receipts fits.0 good.0 (omega (arith, here))
  | inr none ↦ held_fits h p held fits.1 good.1 (omega (arith, none, some))
]

-- ---- the holders

all_joined : (xs ys : List Held) → AllFit xs → AllFit ys → AllFit (xs ++ ys)
all_joined [] ys h k = k
all_joined (x ∷ xs) ys h k = (h.0, all_joined xs ys h.1 k)

of_seat : (seat : Option SeatState) → SeatFits seat → ActsFit (held_by (option_map held_in seat)).receipts
of_seat None h = tt
of_seat (Some seat) h = h

session_fits : ActsOfSeatsFit → (limits : Option Limits) (history : List Record) (always : Bool) (c : Connection) (s : ReportedSession) →
    ServesConnection limits history always c s → ActsFit (held_by s.process).receipts
session_fits acts_fit limits history always c s h =
    subst (λ (process : Option Held). ActsFit (held_by process).receipts) (sym h.process_is)
    (of_seat c.seat (acts_fit always c.from c.base (with_seat c.seat s) h.serves.serves.serves))

sessions_fit : ActsOfSeatsFit → (limits : Option Limits) (history : List Record) (always : Bool) (cs : List Connection) (ss : List ReportedSession) →
    AllZip (ServesConnection limits history always) cs ss → AllFit (map (λ s. held_by s.process) ss)
sessions_fit acts_fit limits history always [] [] h = tt
sessions_fit acts_fit limits history always [] (s ∷ ss) h = absurd h
sessions_fit acts_fit limits history always (c ∷ cs) [] h = absurd h
sessions_fit acts_fit limits history always (c ∷ cs) (s ∷ ss) h =
    (session_fits acts_fit limits history always c s h.0, sessions_fit acts_fit limits history always cs ss h.1)

-- exits and the closing have no fields
exits_fit : (place : ℕ) (processes : List ℕ) → ActsFit (receipts_from place (map exit_record processes ++ closing_record ∷ []))
exits_fit place [] = (tt, tt)
exits_fit place (process ∷ processes) = (tt, exits_fit (place + 1) processes)

house_fits : (place : ℕ) (w : World) (receipts : List Receipted) → receipts ≡ receipts_from place (closing_records w) → ActsFit receipts
house_fits place w receipts is = subst ActsFit (sym is) (exits_fit place (orphans_from 0 w.processes))

-- ---- the records of a run

flags_fit : (act : Act) → ActFits act → FlagsFit act
flags_fit (acts.Call (calls.Open name flags)) fits = fits.0
flags_fit (acts.Call (calls.Setfl fd flags)) fits = fits.1.0
flags_fit other fits = tt

one_wanted : (p len : ℕ) → p < len → wanted len p ≡ 1
one_wanted p len below = grind (arith, below)

-- each record of a run stands in a receipt
each_fits : ActsOfSeatsFit → (told : RunTold) (h : IsRun told) → (p : ℕ) → p < length h.book.history → FitsAt h.book.history p
each_fits acts_fit told h p below =
    let agrees = h.run.all p in
    let sessions = sessions_fit acts_fit (Some told.limits_are) h.book.history told.always h.connections told.ends h.each in
    let house = house_fits (length h.before.history) (world_now h.before) h.house.receipts h.closing.receipts_are in
    let held = map (λ (s : ReportedSession). held_by s.process) told.ends in
    let once = agrees.sound.covered ∙ one_wanted p (length h.book.history) below in
    held_fits h.book.history p (held ++ held_in h.house ∷ []) (all_joined held (held_in h.house ∷ []) sessions (house, tt)) agrees.sound.good
    (omega (arith, once))

-- records of which each is in range
all_in_range : (h : List Record) → ((p : ℕ) → IfSome (slice_get h p) IsInRange) → AllInRange h
all_in_range [] each = tt
all_in_range (r ∷ h) each = (each 0, all_in_range h (λ p. each (suc p)))

one_in_range : (h : List Record) (p : ℕ) → FitsAt h p → IfSome (slice_get h p) FlagsDecide → IfSome (slice_get h p) IsInRange
one_in_range h p at decide =
    let decided = subst (λ (o : Option Record). IfSome o FlagsDecide) at.stands decide in
    subst (λ (o : Option Record). IfSome o IsInRange) (sym at.stands) (decided (flags_fit at.told.act at.fits))

history_in_range : ActsOfSeatsFit → (told : RunTold) (h : IsRun told) → FlagsDecideAll told.received → AllInRange h.book.history
history_in_range acts_fit told h decide =
    let here = subst FlagsDecideAll h.run.received_are decide in
    all_in_range h.book.history (λ p. elim (cases_lt p (length h.book.history)) [
      | inl below ↦ one_in_range h.book.history p (each_fits acts_fit told h p below) (here p)
      | inr past ↦ subst (λ (o : Option Record). IfSome o IsInRange) (sym (slice_get_past h.book.history p past)) tt
    ])

-- ---- the verdict

pub runs_judged : ActsOfSeatsFit → WrittenIsLegal → RunsAreJudged
runs_judged acts_fit written_legal told h decide is_told =
    let records = h.book.history in
    let limits = told_of told.limits_are in
    let t = h.trace in
    let legal = subst (λ (l : Limits). IsLegalRun l.bounds (Some l.records) records) h.run.limits_are h.run.is_legal in
    let v = written_legal limits records t.front t.rest is_told legal (history_in_range acts_fit told h decide) (sym t.is) in
    let whole : whole_in records (length t.front - length (header_2 limits)) ≡ told.trace.whole =
    ap (λ (n : ℕ). whole_in records (n - length (header_2 limits))) (sym t.bytes_is) ∙ sym t.whole_is in
    record {
      written = t.front;
      rest = v.0;
      appends = t.appends;
      bytes_is = t.bytes_is;
      verdict = subst (λ (n : ℕ). IsVerdict t.front (Legal n v.0)) whole v.1;
    }

-- ---- what can be spelled

-- the last of records that have frames have frames
last_have : (first last : List Record) → HaveFrames (first ++ last) → HaveFrames last
last_have [] last have = have
last_have (r ∷ first) last have = last_have first last have.1

-- the first of records that have frames has one
none_unspelled : (h : List Record) → HaveFrames h → BeginsUnspelled h → ⊥
none_unspelled [] have unspelled = unspelled
none_unspelled (r ∷ h) have unspelled =
    let one : IsFrame SpellsRecord RECORD_LENGTH_MAX r (frame (record_bytes r)) = record {
      payload = record_bytes r;
      few = have.0.1;
      spelled = (have.0.0, refl);
      is = refl;
    } in
    unspelled (frame (record_bytes r)) one

pub runs_spelled : ActsOfSeatsFit → LegalHaveFrames → RunsAreSpelled
runs_spelled acts_fit have told h decide is =
    let records = h.book.history in
    let framed = have h.book.limits.bounds records h.run.is_legal.is_legal (history_in_range acts_fit told h decide) in
    let s = h.trace.spelled in
    none_unspelled s.later (last_have s.framed s.later (subst HaveFrames s.is framed)) (s.unspelled is)
