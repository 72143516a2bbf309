-- A session from its first byte to its end.
use Rattle.std.proofs.Common.{◌≡◌, ℕ, ◌≤◌, Bool, inl, inr, List, [], ◌∷◌, ◌++◌, Option, None, Some, length, arith, refl, sym, ◌∙◌, ap, subst}
use Rattle.std.proofs.lemmas.List.{append-nil, append_assoc}
use Rattle.std.proofs.KnownBytes.{Appends-nil, Consumes-nil}
use Rattle.rtrb.specs.Ring.{sent, producer_capacity}
use Rattle.call_types.specs.declared.refusal.Refusal.{Refusal}
use Rattle.call_types.specs.declared.request.Request.{Request}
use Rattle.frame_codec.specs.declared.decoder.Progress.TheVariants as progress
use Rattle.record_book.specs.Seat.{SeatState}
use Rattle.system_lock.specs.declared.kernel.Why.{Why}
use Rattle.logged_streams.specs.declared.stream_log.TheConstants.{INTERRUPTIONS_MAX}
use Rattle.logged_streams.specs.Streams.{LoggedReaderState, LoggedWriterState, fresh_log}
use Rattle.request_pump.specs.Input.{AreRequests, Begins}
use Rattle.request_pump.specs.Pump.{PumpState, Pumps, PushedBy, PushingEnd, back_at, IsMet as PumpMet}
use Rattle.request_pump.specs.Pushes.{PushState}
use Rattle.request_pump.proofs.InputLemmas.{begins_read}
use Rattle.request_pump.specs.declared.pump.TheConstants.{READS_MAX}
use Rattle.request_pump.specs.declared.pumped.PumpEnd.{PumpEnd}
use Rattle.request_pump.specs.declared.pumped.PumpEnd.TheVariants as pump_end
use Rattle.session_core.specs.declared.end.End.{End}
use Rattle.session_core.specs.declared.end.End.TheVariants as end
use Rattle.session_core.specs.declared.serve.TheConstants.{REQUESTS_AHEAD}
use Rattle.session_core.specs.declared.stage.LeaveCause.TheVariants as why
use Rattle.session_core.specs.declared.stage.Over.TheVariants as over
use Rattle.session_core.specs.declared.told.Told.{Told}
use Rattle.session_core.specs.Stages.{Stage, Over}
use Rattle.session_core.specs.OutputState.{OutputState}
use Rattle.session_core.specs.Proved.Output.{Holds}
use Rattle.session_core.specs.Proved.Turns.{IsGivenUp, IsTalking, OverBy}
use Rattle.session_core.specs.Proved.Ends.{IsCutOff, IsMet, IsOver, IsOverHere}
use Rattle.session_core.specs.Proved.Closing.{ClosesAs, with_last}
use Rattle.session_core.specs.Proved.Desk.{EndsAs, LeavesUnwritten, OverOf}
use Rattle.session_core.specs.Proved.Together.{IsPutTogether, unserved_by, why_of}
use Rattle.session_core.specs.Said.{CutSaid, EndSaid}
use Rattle.session_core.specs.Refusals.{BeginsSaid, RefusalSaid, ServesUnder}
use Rattle.session_core.specs.Served.{ComesTo, HasRead, KeepsReader, Serves, SessionState, failures_after, reads_of}
use Rattle.session_core.proofs.CallLemmas.{converses, has_receipts}
use Rattle.session_core.proofs.ClosingLemmas.{converses_more, first_none}
use Rattle.session_core.proofs.CutLemmas.{cut_said}
use Rattle.session_core.proofs.RefusalLemmas.{empty_said, kept_said, wider, with_last_said}
use Rattle.system_lock.specs.Kernel.{Says}

-- ---- a session that has read nothing

first_nothing : (answers : List Told) → answers ≡ [] → (input : List ℕ) → Begins input []
first_nothing answers none input = record { text = []; rest = input; is = refl; frames = refl }

-- memory ran out before
has_unserved : (always : Bool) (from base : Option (List ℕ)) → Serves always from base (unserved_by (Some from) base end.NoMemory)
has_unserved always from base = record {
  input = [];
  consumes = Consumes-nil from;
  kept = tt;
  few_reads = omega arith;
  few_interrupted = (omega arith, omega arith);
  let_through = λ given. refl;
  comes = record {
    talks = first_none (Begins []) [] [] (first_nothing [] refl []) refl;
    written = Appends-nil base;
    seated = refl;
    ends = inl tt;
  };
}

-- no thread could be started
has_unstarted : (always : Bool) (from base : Option (List ℕ)) → Serves always from base (unserved_by None base end.NoThread)
has_unstarted always from base = record {
  input = [];
  consumes = refl;
  kept = refl;
  few_reads = omega arith;
  few_interrupted = (omega arith, omega arith);
  let_through = λ given. refl;
  comes = record {
    talks = first_none (Begins []) [] [] (first_nothing [] refl []) refl;
    written = Appends-nil base;
    seated = refl;
    ends = inr (refl, refl, refl);
  };
}

-- it has told no refusal
none_said : (Said : List Request → List Told → Refusal → Type 0) (input : List ℕ) → BeginsSaid Said input []
none_said Said input = record { requests = []; begins = first_nothing [] refl input; said = empty_said (Said []) [] refl }

pub unserved : (says : Says) (always : Bool) (from base : Option (List ℕ))
    → ServesUnder says always from base (unserved_by (Some from) base end.NoMemory)
unserved says always from base =
    let serves = has_unserved always from base in
    record { serves = serves; refusals = none_said (RefusalSaid says) serves.input }

pub unstarted : (says : Says) (always : Bool) (from base : Option (List ℕ))
    → ServesUnder says always from base (unserved_by None base end.NoThread)
unstarted says always from base =
    let serves = has_unstarted always from base in
    record { serves = serves; refusals = none_said (RefusalSaid says) serves.input }

-- nothing was written to its writer
pub unwritten_by : (s : SessionState) (remaining : Option (Option (List ℕ))) (held : Option (List ℕ)) (writer : LoggedWriterState) (found : End) →
    writer ≡ record { contents = held; log = fresh_log }
    → (writer.log ≡ fresh_log → s ≡ unserved_by remaining writer.contents found) → s ≡ unserved_by remaining held found
unwritten_by s remaining held writer found e h = h (ap (λ (w : LoggedWriterState). w.log) e) ∙
    ap (λ (w : LoggedWriterState). unserved_by remaining w.contents found) e

-- neither is closed
pub unserved_open : (ended : SeatState → SeatState → Why → Type 0) (answers : List Told) → CutSaid ended None answers end.NoMemory
unserved_open ended answers of requests cut = absurd of

pub unstarted_open : (ended : SeatState → SeatState → Why → Type 0) (answers : List Told) → CutSaid ended None answers end.NoThread
unstarted_open ended answers of requests cut = absurd of

-- ---- what was pushed, and what was read

-- what was read begins with the requests that were sent, and perhaps more
record IsBegun (input : List ℕ) (all : List Request) : Type 0 where
  pub extra : List Request
  pub begins : Begins input (all ++ extra)

begun_with : (input : List ℕ) (all requests : List Request) → all ≡ [] ++ requests → Begins input requests → IsBegun input all
begun_with input all requests e h = record { extra = []; begins = subst (Begins input) (sym e ∙ sym (append-nil all)) h }

begun : (found : PumpEnd) (capacity : ℕ) (input : List ℕ) (all : List Request) → PushedBy capacity input [] all found → IsBegun input all
begun pump_end.Closed capacity input all h = begun_with input all h.requests h.is (begins_read input h.requests progress.More h.read)
begun pump_end.ReadFault capacity input all h = begun_with input all h.requests h.is (begins_read input h.requests progress.More h.read)
begun pump_end.Malformed capacity input all h = begun_with input all h.requests h.is (begins_read input h.requests h.told h.read)
begun pump_end.NoMemory capacity input all h = begun_with input all h.requests h.is h.begins
begun pump_end.Ahead capacity input all h = record {
  extra = h.back ∷ h.later;
  begins = subst (λ (l : List Request). Begins input (l ++ h.back ∷ h.later))
      (sym h.is) h.begins;
}

-- ---- over at a request

met_at_one : (base : Option (List ℕ)) (handled : List Request) (next : Request) (o : OutputState) (source : LoggedReaderState) (pushes : PushState)
    (found : Over) → OverBy base handled next o found → IsMet source pushes found
met_at_one base handled next o source pushes (over.Leaves at why.Closed) h = absurd h
met_at_one base handled next o source pushes (over.Leaves at why.ReadFault) h = absurd h
met_at_one base handled next o source pushes (over.Leaves at why.Malformed) h = tt
met_at_one base handled next o source pushes (over.Leaves at why.RunFull) h = tt
met_at_one base handled next o source pushes (over.Leaves at why.NoMemory) h = tt
met_at_one base handled next o source pushes (over.Leaves at why.Ahead) h = absurd h
met_at_one base handled next o source pushes (over.Unwritten at) h = tt
met_at_one base handled next o source pushes (over.GivenUp seat cause) h = absurd h
met_at_one base handled next o source pushes other h = tt

early_at : (base : Option (List ℕ)) (Given : List Request → Type 0) (taken handled later : List Request) (next : Request) (o : OutputState) (found : Over) →
    taken ≡ handled ++ next ∷ [] → Given (taken ++ later) → OverBy base handled next o found
    → IsOverHere base Given o found
early_at base Given taken handled later next o found e given h =
    let joined : taken ++ later ≡ handled ++ next ∷ later = ap (λ (l : List Request). l ++ later) e ∙ append_assoc handled (next ∷ []) later in
    inl (record { handled = handled; next = next; later = later; given = subst Given joined given; is = h })

early_unwritten : (base : Option (List ℕ)) (Given : List Request → Type 0) (taken later : List Request) (o : OutputState) (found : Over) →
    Given (taken ++ later) → LeavesUnwritten base taken o found → IsOverHere base Given o found
early_unwritten base Given taken later o (over.Unwritten at) given h = inr (record {
  requests = taken ++ later;
  given = given;
  broke = h.0;
  receipts = h.1;
  converses = converses_more taken later o.answers h.2;
})
early_unwritten base Given taken later o other given h = absurd h

-- it is over with the last of these, and more may be given
pub over_here : (base : Option (List ℕ)) (Given : List Request → Type 0) (taken later : List Request) (o : OutputState) (found : Over) →
    Given (taken ++ later) → OverOf base taken o found → IsOverHere base Given o found
over_here base Given taken later o found given (inl h) = early_at base Given taken h.handled later h.next o found h.taken_are given h.is
over_here base Given taken later o found given (inr h) = early_unwritten base Given taken later o found given h

met_unwritten : (base : Option (List ℕ)) (taken : List Request) (o : OutputState) (source : LoggedReaderState) (pushes : PushState) (found : Over) →
    LeavesUnwritten base taken o found → IsMet source pushes found
met_unwritten base taken o source pushes (over.Unwritten at) h = tt
met_unwritten base taken o source pushes other h = absurd h

met_early : (base : Option (List ℕ)) (taken : List Request) (o : OutputState) (source : LoggedReaderState) (pushes : PushState) (found : Over) →
    OverOf base taken o found → IsMet source pushes found
met_early base taken o source pushes found (inl h) = met_at_one base h.handled h.next o source pushes found h.is
met_early base taken o source pushes found (inr h) = met_unwritten base taken o source pushes found h

-- ---- all requests were answered

after_all : (found : PumpEnd) (capacity : ℕ) (base : Option (List ℕ)) (input : List ℕ) (all : List Request) (o : OutputState) (source : LoggedReaderState)
    (pushes : PushState) (at : Stage) → REQUESTS_AHEAD ≤ capacity → PushedBy capacity input [] all found
    → PumpMet source found → pushes.in_a_row ≡ back_at found → Holds base o → IsTalking all o.answers at →
    IsOver base input source o (over.Leaves at (why_of found)) × IsMet source pushes (over.Leaves at (why_of found))
after_all pump_end.Closed capacity base input all o source pushes at room h met back holds talking = (
  inr (
    record { requests = all; read = subst (λ (l : List Request). AreRequests input l progress.More) (sym h.is) h.read; holds = holds; talking = talking },
    met.1,
  ),
  met.0,
)
after_all pump_end.ReadFault capacity base input all o source pushes at room h met back holds talking = (
  inr (
    record { requests = all; read = subst (λ (l : List Request). AreRequests input l progress.More) (sym h.is) h.read; holds = holds; talking = talking },
    tt,
  ),
  met,
)
after_all pump_end.Malformed capacity base input all o source pushes at room h met back holds talking = (
  inr (
    record {
      requests = all;
      told = h.told;
      fault = h.fault;
      read = subst (λ (l : List Request). AreRequests input l h.told) (sym h.is) h.read;
      holds = holds;
      talking = talking;
    },
    met,
  ),
  tt,
)
after_all pump_end.NoMemory capacity base input all o source pushes at room h met back holds talking = (
  inr (
    record {
      requests = all;
      begins = subst (Begins input) (sym h.is) h.begins;
      holds = holds;
      receipts = has_receipts all o.answers at talking;
      converses = converses all o.answers at talking;
    },
    met,
  ),
  tt,
)
after_all pump_end.Ahead capacity base input all o source pushes at room h met back holds talking = (
  inr (
    record {
      requests = all;
      back = h.back;
      later = h.later;
      begins = subst (λ (l : List Request). Begins input (l ++ h.back ∷ h.later)) (sym h.is) h.begins;
      full = omega (arith, room, h.full);
      holds = holds;
      talking = talking;
    },
    met,
  ),
  back,
)

-- ---- a call was given up

cut_off_at : (found : PumpEnd) (capacity : ℕ) (base : Option (List ℕ)) (input : List ℕ) (all taken later : List Request) (o : OutputState) (seat : SeatState) →
    PushedBy capacity input [] all found → all ≡ taken ++ later → IsGivenUp base taken o seat
    → IsCutOff base input o seat
cut_off_at found capacity base input all taken later o seat h split is =
    let b = begun found capacity input all h in
    let joined : all ++ b.extra ≡ taken ++ (later ++ b.extra) = ap (λ (l : List Request). l ++ b.extra) split ∙ append_assoc taken later b.extra in
    record { requests = taken; later = later ++ b.extra; begins = subst (Begins input) joined b.begins; is = is }

after_cut : (found : PumpEnd) (capacity : ℕ) (base : Option (List ℕ)) (input : List ℕ) (all taken later : List Request) (o : OutputState)
    (source : LoggedReaderState) (pushes : PushState) (seat : SeatState) → REQUESTS_AHEAD ≤ capacity → PushedBy capacity input [] all found
    → PumpMet source found → pushes.in_a_row ≡ back_at found → all ≡ taken ++ later → IsGivenUp base taken o seat →
    IsOver base input source o (over.GivenUp seat (why_of found)) × IsMet source pushes (over.GivenUp seat (why_of found))
after_cut pump_end.Closed capacity base input all taken later o source pushes seat room h met back split is =
    (inr ((cut_off_at pump_end.Closed capacity base input all taken later o seat h split is, record { requests = h.requests; read = h.read }), met.1), met.0)
after_cut pump_end.ReadFault capacity base input all taken later o source pushes seat room h met back split is =
    (inr ((cut_off_at pump_end.ReadFault capacity base input all taken later o seat h split is, record { requests = h.requests; read = h.read }), tt), met)
after_cut pump_end.Malformed capacity base input all taken later o source pushes seat room h met back split is = (
  inr (
    (
      cut_off_at pump_end.Malformed capacity base input all taken later o seat h split is,
      record {
        requests = h.requests;
        told = h.told;
        fault = h.fault;
        read = h.read;
      },
    ),
    met,
  ),
  tt,
)
after_cut pump_end.NoMemory capacity base input all taken later o source pushes seat room h met back split is =
    (inr (cut_off_at pump_end.NoMemory capacity base input all taken later o seat h split is, met), tt)
after_cut pump_end.Ahead capacity base input all taken later o source pushes seat room h met back split is =
    let rest = h.back ∷ h.later in
    let joined : all ++ rest ≡ taken ++ (later ++ rest) = ap (λ (l : List Request). l ++ rest) split ∙ append_assoc taken later rest in (
      inr (
        record {
          requests = taken;
          behind = later;
          back = h.back;
          later = h.later;
          begins = subst (Begins input) joined (subst (λ (l : List Request). Begins input (l ++ rest)) (sym h.is) h.begins);
          full = subst (λ (l : List Request). REQUESTS_AHEAD ≤ length l) split (omega (arith, room, h.full));
          is = is;
        },
        met,
      ),
      back,
    )

-- ---- how a session is over

is_over : (capacity : ℕ) (base : Option (List ℕ)) (input : List ℕ) (p : PumpState) (o : OutputState) (found : Over) → REQUESTS_AHEAD ≤ capacity →
    PushedBy capacity input [] (sent p.producer) p.end_is → PumpMet p.reader p.end_is → p.pushes.in_a_row ≡ back_at p.end_is
    → EndsAs base (sent p.producer) (why_of p.end_is) o found → IsOver base input p.reader o found × IsMet p.reader p.pushes found
is_over capacity base input p o found room pushed met back (inl early) =
    let b = begun p.end_is capacity input (sent p.producer) pushed in
    let joined : sent p.producer ++ b.extra ≡ early.taken ++ (early.later ++ b.extra) = ap (λ (l : List Request). l ++ b.extra) early.sent_are ∙
    append_assoc early.taken early.later b.extra in (
      inl (over_here base (Begins input) early.taken (early.later ++ b.extra) o found (subst (Begins input) joined b.begins) early.is),
      met_early base early.taken o p.reader p.pushes found early.is,
    )
is_over capacity base input p o found room pushed met back (inr (inr lost)) =
    subst (λ (f : Over). IsOver base input p.reader o f × IsMet p.reader p.pushes f) (sym lost.found_is)
    (after_cut p.end_is capacity base input (sent p.producer) lost.taken lost.later o p.reader p.pushes lost.seat room pushed met back lost.sent_are lost.is)
is_over capacity base input p o found room pushed met back (inr (inl all)) =
    subst (λ (f : Over). IsOver base input p.reader o f × IsMet p.reader p.pushes f) (sym all.is)
    (after_all p.end_is capacity base input (sent p.producer) o p.reader p.pushes all.at room pushed met back all.holds all.talking)

-- a pump whose ring was empty and has so much room
pub record IsFreshRing (ring : PushingEnd) : Type 0 where
  pub empty : sent ring ≡ []
  pub room : REQUESTS_AHEAD ≤ producer_capacity ring

pub fresh_ring : (ring : PushingEnd) → sent ring ≡ [] → producer_capacity ring ≡ REQUESTS_AHEAD → IsFreshRing ring
fresh_ring ring empty room = record { empty = empty; room = subst (λ (n : ℕ). REQUESTS_AHEAD ≤ n) (sym room) (omega arith) }

pub pumps_of : (from also : Option (List ℕ)) (ring first : PushingEnd) (p : PumpState) → first ≡ ring → also ≡ from → Pumps also first p → Pumps from ring p
pumps_of from also ring first p e f h = subst (λ (x : Option (List ℕ)). Pumps x ring p) f (subst (λ (r : PushingEnd). Pumps also r p) e h)

pushed_from : (from : Option (List ℕ)) (ring : PushingEnd) (p : PumpState) → IsFreshRing ring → (h : Pumps from ring p) →
    PushedBy (producer_capacity ring) h.input [] (sent p.producer) p.end_is
pushed_from from ring p fresh h = subst (λ (l : List Request). PushedBy (producer_capacity ring) h.input l (sent p.producer) p.end_is) fresh.empty h.pushed

-- a session whose thread was started ends otherwise than one without a thread
has_thread : (source : LoggedReaderState) (found : Over) (old : OutputState) (answers : List Told) (given : End) → ClosesAs found old answers given →
    KeepsReader (Some source) given
has_thread source found old answers end.NoThread h = absurd h
has_thread source found old answers other h = tt

no_failure : (found : Over) (old : OutputState) (answers : List Told) (given : End) (failures : ℕ) → ClosesAs found old answers given →
    failures_after given failures ≡ failures
no_failure found old answers end.NoThread failures h = absurd h
no_failure found old answers other failures h = refl

pub started : (says : Says) (always : Bool) (base : Option (List ℕ)) (p : PumpState) (s : SessionState) (failures : ℕ)
    → IsPutTogether says always base p s → failures_after s.end_is failures ≡ failures
started says always base p s failures together =
    let ending = together.ending in
    subst (λ (x : SessionState). failures_after x.end_is failures ≡ failures) together.is
    (no_failure ending.found ending.old (with_last together.o.answers together.left.last) together.left.end failures ending.left_by.closes)

-- what it comes to
has_served : (says : Says) (always : Bool) (from base : Option (List ℕ)) (ring : PushingEnd) (p : PumpState) (s : SessionState)
    → IsFreshRing ring → Pumps from ring p → IsPutTogether says always base p s → Serves always from base s
has_served says always from base ring p s fresh h together =
    let ending = together.ending in
    let at = is_over (producer_capacity ring) base h.input p ending.old ending.found fresh.room (pushed_from from ring p fresh h) h.met h.given_back
    ending.ends in
    let comes : ComesTo h.input base s = subst (ComesTo h.input base) together.is (ending.left_by.leaves.read base h.input p.reader p.pushes at.0 at.1) in
    record {
      input = h.input;
      consumes = subst (λ (x : SessionState). HasRead from x.reader h.input) together.is h.consumes;
      kept =
          subst (λ (x : SessionState). KeepsReader x.reader x.end_is) together.is
          (has_thread p.reader ending.found ending.old (with_last together.o.answers together.left.last) together.left.end ending.left_by.closes);
      few_reads = subst (λ (x : SessionState). (reads_of x.reader).calls ≤ READS_MAX) together.is h.few_reads;
      few_interrupted = (subst (λ (x : SessionState). (reads_of x.reader).interruptions ≤ INTERRUPTIONS_MAX) together.is h.few_interrupted, together.few);
      let_through = together.let_through;
      comes = comes;
    }

pub end_said : (says : Says) (always : Bool) (base : Option (List ℕ)) (p : PumpState) (s : SessionState) → IsPutTogether says always base p s
    → EndSaid says s.seat s.end_is
end_said says always base p s together = subst (λ (x : SessionState). EndSaid says x.seat x.end_is) together.is together.ending.left_by.end_said

pub given_up : (says : Says) (always : Bool) (from base : Option (List ℕ)) (ring : PushingEnd) (p : PumpState) (s : SessionState)
    → IsFreshRing ring → Pumps from ring p → IsPutTogether says always base p s → CutSaid says.ended s.seat s.answers s.end_is
given_up says always from base ring p s fresh h together =
    let ending = together.ending in
    let by = ending.left_by in
    let at = is_over (producer_capacity ring) base h.input p ending.old ending.found fresh.room (pushed_from from ring p fresh h) h.met h.given_back
    ending.ends in
    subst (λ (x : SessionState). CutSaid says.ended x.seat x.answers x.end_is) together.is
    (cut_said says base h.input p.reader ending.old together.o ending.found together.left (with_last together.o.answers together.left.last) at.0 by.over_said
    by.keeps by.closes refl)

refusals_said : (says : Says) (always : Bool) (from base : Option (List ℕ)) (ring : PushingEnd) (p : PumpState) (s : SessionState)
    → IsFreshRing ring → (h : Pumps from ring p) → IsPutTogether says always base p s → BeginsSaid (RefusalSaid says) h.input s.answers
refusals_said says always from base ring p s fresh h together =
    let by = together.ending.left_by in
    let b = begun p.end_is (producer_capacity ring) h.input (sent p.producer) (pushed_from from ring p fresh h) in
    let all = sent p.producer ++ b.extra in
    let said = wider says (sent p.producer) b.extra together.ending.old.answers together.ending.said in
    subst (λ (x : SessionState). BeginsSaid (RefusalSaid says) h.input x.answers) together.is (record {
      requests = all;
      begins = b.begins;
      said =
          with_last_said (RefusalSaid says all) together.o.answers together.left.last
          (kept_said (RefusalSaid says all) together.ending.old.answers together.o.answers by.answers said);
    })

pub served : (says : Says) (always : Bool) (from base : Option (List ℕ)) (ring : PushingEnd) (p : PumpState) (s : SessionState)
    → IsFreshRing ring → Pumps from ring p → IsPutTogether says always base p s → ServesUnder says always from base s
unfolding has_served
served says always from base ring p s fresh h together = record {
  serves = has_served says always from base ring p s fresh h together;
  refusals = refusals_said says always from base ring p s fresh h together;
}
