-- A call that waits: its turns, its reply, and how it is given up.
use Rattle.std.proofs.Common.{◌≡◌, ℕ, Bool, true, false, inl, inr, List, [], ◌∷◌, ◌++◌, Option, None, Some, refl, sym, ◌∙◌, ap, subst}
use Rattle.std.proofs.lemmas.List.{append-nil, append_assoc, map-append}
use Rattle.std.proofs.lemmas.List.Concat.{flat_map-append}
use Rattle.call_types.specs.declared.act.Act.TheVariants as act
use Rattle.call_types.specs.declared.call.Call.{Call}
use Rattle.call_types.specs.declared.outcome.Outcome.{Outcome}
use Rattle.call_types.specs.declared.outcome.Outcome.TheVariants as outcome
use Rattle.call_types.specs.declared.refusal.Refusal.{Refusal}
use Rattle.call_types.specs.declared.refusal.Refusal.TheVariants as refusal
use Rattle.call_types.specs.declared.request.Request.{Request}
use Rattle.call_types.specs.declared.request.Request.TheVariants as request
use Rattle.posix_model.specs.Step.{EndsOrGoesOn}
use Rattle.record_book.specs.Seat.{Receipted, SeatState}
use Rattle.system_lock.specs.Kernel.{Adds, HasItsExit, IsWanting}
use Rattle.session_core.specs.declared.told.Told.{Told}
use Rattle.session_core.specs.declared.told.Told.TheVariants as told
use Rattle.session_core.specs.declared.stage.Stage.TheVariants as stage
use Rattle.session_core.specs.declared.stage.LeaveCause.{LeaveCause}
use Rattle.session_core.specs.declared.stage.Over.TheVariants as over
use Rattle.session_core.specs.declared.stage.Standing.TheVariants as standing
use Rattle.session_core.specs.Answers.{receipt_of, receipts_of}
use Rattle.session_core.specs.OutputState.{OutputState}
use Rattle.session_core.specs.Proved.Output.{Holds, Puts, SendsAll, FailsToSend}
use Rattle.session_core.specs.Served.{HasExited, IsGranted}
use Rattle.session_core.specs.Talk.{Group, told_of_all, told_last, IsReply, IsPart, IsPartTold, AreParts, IsCallGroup, AreCalls, IsWaiting, Talked, Waits, IsWantingLast, IsCut, Converses}
use Rattle.session_core.specs.Proved.Turns.{goes_on, WhyRefused, PutsGivenUp, EndedBy, OverBy, TurnBy, IsWaitingAt}

-- ---- receipts

pub receipts_more : (old new : List Told) (one : Told) → new ≡ old ++ one ∷ [] → receipts_of new ≡ receipts_of old ++ receipt_of one
receipts_more old new one e = ap receipts_of e ∙ flat_map-append receipt_of old (one ∷ []) ∙ ap (λ (l : List Receipted). receipts_of old ++ l)
    (append-nil (receipt_of one))

pub receipts_recorded : (old new : List Told) (receipt : Receipted) (before after : List Receipted) → new ≡ old ++ told.Recorded receipt ∷ [] →
    before ≡ receipts_of old → after ≡ before ++ receipt ∷ [] → after ≡ receipts_of new
receipts_recorded old new receipt before after e b a = a ∙ ap (λ (l : List Receipted). l ++ receipt ∷ []) b ∙
    sym (receipts_more old new (told.Recorded receipt) e)

pub receipts_refused : (old new : List Told) (refusal : Refusal) → new ≡ old ++ told.Refused refusal ∷ [] → receipts_of new ≡ receipts_of old
receipts_refused old new refusal e = receipts_more old new (told.Refused refusal) e ∙ append-nil (receipts_of old)

-- the first receipt stays the first
more_granted : (before more : List Receipted) → IsGranted before → IsGranted (before ++ more)
more_granted [] more h = absurd h
more_granted (first ∷ rest) more h = h

pub granted_more : (before after : List Receipted) (receipt : Receipted) → after ≡ before ++ receipt ∷ [] → IsGranted before → IsGranted after
granted_more before after receipt e h = subst IsGranted (sym e) (more_granted before (receipt ∷ []) h)

-- ---- one call more

calls_more : (calls : List Group) (g : Group) → AreCalls calls → IsCallGroup g → AreCalls (calls ++ g ∷ [])
calls_more [] g h one = (one, tt)
calls_more (c ∷ calls) g h one = (h.0, calls_more calls g h.1 one)

pub talk_more : (handled : List Request) (before new : List Told) (g : Group) → Talked handled before → IsCallGroup g → new ≡ before ++ g.told_of →
    Talked (handled ++ g.request_is ∷ []) new
talk_more handled before new g h one e = record {
  opening = h.opening;
  opened = h.opened;
  calls = h.calls ++ g ∷ [];
  requests_are = ap (λ (l : List Request). l ++ g.request_is ∷ []) h.requests_are ∙ ap (λ (l : List Request). h.opening ∷ l)
      (sym (map-append (λ (x : Group). x.request_is) h.calls (g ∷ [])));
  answers_are =
      let more : told_of_all (h.calls ++ g ∷ []) ≡ told_of_all h.calls ++ g.told_of =
      flat_map-append (λ (x : Group). x.told_of) h.calls (g ∷ []) ∙ ap (λ (l : List Told). told_of_all h.calls ++ l) (append-nil g.told_of) in
      e ∙ ap (λ (l : List Told). l ++ g.told_of) h.answers_are ∙ append_assoc h.opened (told_of_all h.calls) g.told_of ∙
      ap (λ (l : List Told). h.opened ++ l) (sym more);
  opens = h.opens;
  are_calls = calls_more h.calls g h.are_calls one;
}

-- ---- a call that waits

cut_with : (handled : List Request) (old new : List Told) (call : Call) (given_up : Option Refusal) → Waits handled old call → new ≡ old ++ told_last given_up →
    IsWantingLast given_up → IsCut (handled ++ request.Call call ∷ []) new given_up
cut_with handled old new call given_up w e wants = record {
  before = handled;
  call = call;
  told_so_far = old;
  requests_are = refl;
  answers_are = e;
  waits = w;
  wants = wants;
}

pub cut_now : (handled : List Request) (answers : List Told) (call : Call) → Waits handled answers call → IsCut (handled ++ request.Call call ∷ []) answers None
cut_now handled answers call w = cut_with handled answers answers call None w (sym (append-nil answers)) tt

pub cut_refused : (handled : List Request) (old new : List Told) (call : Call) (refusal : Refusal) → IsWanting refusal → Waits handled old call →
    new ≡ old ++ told.Refused refusal ∷ [] → IsCut (handled ++ request.Call call ∷ []) new (Some refusal)
cut_refused handled old new call refusal wants w e = cut_with handled old new call (Some refusal) w e wants

pub cut_converses : (handled : List Request) (answers : List Told) (given_up : Option Refusal) → IsCut handled answers given_up → Converses handled answers
cut_converses handled answers given_up h = record { handled = handled; later = []; requests_are = sym (append-nil handled); is = inr (inl (given_up, h)) }

pub talked_converses : (handled : List Request) (answers : List Told) → Talked handled answers → Converses handled answers
talked_converses handled answers h = record { handled = handled; later = []; requests_are = sym (append-nil handled); is = inl (inr h) }

parts_more : (parts : List Told) (one : Told) → AreParts parts → IsPartTold one → AreParts (parts ++ one ∷ [])
parts_more [] one h p = (p, tt)
parts_more (x ∷ parts) one h p = (h.0, parts_more parts one h.1 p)

waiting_more : (call : Call) (told_of : List Told) (one : Told) → IsWaiting call told_of → IsPartTold one → IsWaiting call (told_of ++ one ∷ [])
waiting_more call told_of one h p = record {
  receipt = h.receipt;
  parts = h.parts ++ one ∷ [];
  is = ap (λ (l : List Told). l ++ one ∷ []) h.is;
  act_is = h.act_is;
  waits = h.waits;
  go_on = parts_more h.parts one h.go_on p;
}

pub waits_more : (handled : List Request) (old new : List Told) (call : Call) (one : Told) → Waits handled old call → IsPartTold one → new ≡ old ++ one ∷ [] →
    Waits handled new call
waits_more handled old new call one w p e = record {
  told_before = w.told_before;
  told_of = w.told_of ++ one ∷ [];
  answers_are = e ∙ ap (λ (l : List Told). l ++ one ∷ []) w.answers_are ∙ append_assoc w.told_before w.told_of (one ∷ []);
  talked = w.talked;
  waits = waiting_more call w.told_of one w.waits p;
}

pub waits_no_more : (handled : List Request) (old new : List Told) (call : Call) (receipt : Receipted) → Waits handled old call →
    receipt.record_is.act ≡ act.Resume → IsReply receipt.record_is.outcome → new ≡ old ++ told.Recorded receipt ∷ []
    → Talked (handled ++ request.Call call ∷ []) new
waits_no_more handled old new call receipt w act_is ends e =
    talk_more handled w.told_before new (record { request_is = request.Call call; told_of = w.told_of ++ told.Recorded receipt ∷ [] }) w.talked
    (call, refl, inr (inr (record { waiting = w.told_of; receipt = receipt; is = refl; waits = w.waits; act_is = act_is; ends = ends })))
    (e ∙ ap (λ (l : List Told). l ++ told.Recorded receipt ∷ []) w.answers_are ∙ append_assoc w.told_before w.told_of (told.Recorded receipt ∷ []))

-- ---- it is given up

exits_with : (seat spent : SeatState) (old new : List Told) → HasItsExit seat spent → IsGranted seat.receipts → seat.receipts ≡ receipts_of old →
    receipts_of new ≡ receipts_of old → HasExited spent new
exits_with seat spent old new h granted e same = record {
  exit = h.0;
  receipts = h.1.receives.receipts ∙ ap (λ (l : List Receipted). l ++ h.0 ∷ []) (e ∙ sym same);
  granted = subst IsGranted (e ∙ sym same) granted;
  act_is = h.1.act_is;
}

pub wanting : (refusal : Refusal) (found : LeaveCause) → WhyRefused refusal found → IsWanting refusal
wanting refusal.NoMemory found h = tt
wanting refusal.RunFull found h = tt
wanting refusal.Waiting found h = absurd h
wanting refusal.NotHere found h = absurd h
wanting (refusal.Foreign seen len) found h = absurd h

ended_with : (base : Option (List ℕ)) (requests : List Request) (o : OutputState) (spent : SeatState) (refusal : Refusal) (found : LeaveCause) →
    WhyRefused refusal found → Holds base o → HasExited spent o.answers → IsCut requests o.answers (Some refusal)
    → EndedBy base requests o spent found
ended_with base requests o spent refusal.NoMemory found e holds exited cut = subst (EndedBy base requests o spent) (sym e)
    (holds, exited, (Some refusal.NoMemory, cut))
ended_with base requests o spent refusal.RunFull found e holds exited cut = subst (EndedBy base requests o spent) (sym e) (holds, exited, cut)
ended_with base requests o spent refusal.Waiting found e holds exited cut = absurd e
ended_with base requests o spent refusal.NotHere found e holds exited cut = absurd e
ended_with base requests o spent (refusal.Foreign seen len) found e holds exited cut = absurd e

pub ended_by : (base : Option (List ℕ)) (handled : List Request) (call : Call) (seat spent : SeatState) (old new : OutputState) (refusal : Refusal)
    (found : LeaveCause) → PutsGivenUp old new refusal found → IsWaitingAt base handled call seat old → HasItsExit seat spent
    → EndedBy base (handled ++ request.Call call ∷ []) new spent found
ended_by base handled call seat spent old new refusal found (inl h) w exits =
    ended_with base (handled ++ request.Call call ∷ []) new spent refusal found h.0 (h.1.holds base w.holds)
    (exits_with seat spent old.answers new.answers exits w.granted w.receipts (receipts_refused old.answers new.answers refusal h.1.answers))
    (cut_refused handled old.answers new.answers call refusal (wanting refusal found h.0) w.waits h.1.answers)
ended_by base handled call seat spent old new refusal found (inr h) w exits =
    let same : new.answers ≡ old.answers = ap (λ (o : OutputState). o.answers) h.1 in
    subst (EndedBy base (handled ++ request.Call call ∷ []) new spent) (sym h.0) (
      subst (Holds base) (sym h.1) w.holds,
      exits_with seat spent old.answers new.answers exits w.granted w.receipts (ap receipts_of same),
      (None, subst (λ (l : List Told). IsCut (handled ++ request.Call call ∷ []) l None) (sym same) (cut_now handled old.answers call w.waits)),
    )

-- ---- one turn

-- it waits on, once all is written
pub still_waits : (base : Option (List ℕ)) (handled : List Request) (call : Call) (seat : SeatState) (old new : OutputState) → SendsAll old new →
    IsWaitingAt base handled call seat old → IsWaitingAt base handled call seat new
still_waits base handled call seat old new h w = record {
  holds = h.flushes.holds base w.holds;
  waits = subst (λ (l : List Told). Waits handled l call) (sym h.flushes.answers) w.waits;
  receipts = w.receipts ∙ ap receipts_of (sym h.flushes.answers);
  granted = w.granted;
}

pub unsent : (base : Option (List ℕ)) (handled : List Request) (call : Call) (seat : SeatState) (old new : OutputState) → FailsToSend old new →
    IsWaitingAt base handled call seat old → OverBy base handled (request.Call call) new (over.Unwritten (stage.Ready seat))
unsent base handled call seat old new h w = (
  h.breaks base w.holds,
  (w.receipts ∙ ap receipts_of (sym h.answers), w.granted),
  cut_converses (handled ++ request.Call call ∷ []) new.answers None
      (cut_now handled new.answers call (subst (λ (l : List Told). Waits handled l call) (sym h.answers) w.waits)),
)

is_part : (o : Outcome) → EndsOrGoesOn o → goes_on o ≡ true → IsPart o
is_part (outcome.Reply reply) h e = absurd cc
is_part (outcome.Parked moved) h e = absurd h
is_part (outcome.Part moved) h e = tt

is_reply : (o : Outcome) → EndsOrGoesOn o → goes_on o ≡ false → IsReply o
is_reply (outcome.Reply reply) h e = tt
is_reply (outcome.Parked moved) h e = absurd h
is_reply (outcome.Part moved) h e = absurd cc

pub resumed_part : (base : Option (List ℕ)) (handled : List Request) (call : Call) (seat after : SeatState) (receipt : Receipted) (old new : OutputState) →
    Adds seat after act.Resume receipt → EndsOrGoesOn receipt.record_is.outcome
    → goes_on receipt.record_is.outcome ≡ true → Puts old new (told.Recorded receipt) → IsWaitingAt base handled call seat old →
    IsWaitingAt base handled call after new
resumed_part base handled call seat after receipt old new adds kind more put w = record {
  holds = put.holds base w.holds;
  waits = waits_more handled old.answers new.answers call (told.Recorded receipt) w.waits (adds.act_is, is_part receipt.record_is.outcome kind more)
      put.answers;
  receipts = receipts_recorded old.answers new.answers receipt seat.receipts after.receipts put.answers w.receipts adds.receives.receipts;
  granted = granted_more seat.receipts after.receipts receipt adds.receives.receipts w.granted;
}

pub resumed_whole : (base : Option (List ℕ)) (handled : List Request) (call : Call) (seat after : SeatState) (receipt : Receipted) (old new : OutputState) →
    Adds seat after act.Resume receipt → EndsOrGoesOn receipt.record_is.outcome
    → goes_on receipt.record_is.outcome ≡ false → Puts old new (told.Recorded receipt) → IsWaitingAt base handled call seat old →
    TurnBy base handled (request.Call call) new (standing.Ready (stage.Ready after))
resumed_whole base handled call seat after receipt old new adds kind ends put w = (
  put.holds base w.holds,
  (
    waits_no_more handled old.answers new.answers call receipt w.waits adds.act_is (is_reply receipt.record_is.outcome kind ends) put.answers,
    receipts_recorded old.answers new.answers receipt seat.receipts after.receipts put.answers w.receipts adds.receives.receipts,
    granted_more seat.receipts after.receipts receipt adds.receives.receipts w.granted,
  ),
)

with_resumed : (goes : Bool) (handled : List Request) (old : List Told) (call : Call) (receipt : Receipted) → goes_on receipt.record_is.outcome ≡ goes →
    EndsOrGoesOn receipt.record_is.outcome → receipt.record_is.act ≡ act.Resume → Waits handled old call
    → Converses (handled ++ request.Call call ∷ []) (old ++ told.Recorded receipt ∷ [])
with_resumed true handled old call receipt e kind act_is w =
    let new = old ++ told.Recorded receipt ∷ [] in
    cut_converses (handled ++ request.Call call ∷ []) new None
    (cut_now handled new call (waits_more handled old new call (told.Recorded receipt) w (act_is, is_part receipt.record_is.outcome kind e) refl))
with_resumed false handled old call receipt e kind act_is w =
    let new = old ++ told.Recorded receipt ∷ [] in
    talked_converses (handled ++ request.Call call ∷ []) new
    (waits_no_more handled old new call receipt w act_is (is_reply receipt.record_is.outcome kind e) refl)

pub resumed_untold : (base : Option (List ℕ)) (handled : List Request) (call : Call) (seat after : SeatState) (receipt : Receipted) (old new : OutputState) →
    Adds seat after act.Resume receipt → EndsOrGoesOn receipt.record_is.outcome → new ≡ old
    → IsWaitingAt base handled call seat old → TurnBy base handled (request.Call call) new (standing.Over (over.Untold after receipt))
resumed_untold base handled call seat after receipt old new adds kind e w =
    subst (λ (o : OutputState). TurnBy base handled (request.Call call) o (standing.Over (over.Untold after receipt))) (sym e) (record {
      holds = w.holds;
      receipts_are = adds.receives.receipts ∙ ap (λ (l : List Receipted). l ++ receipt ∷ []) w.receipts;
      granted = granted_more seat.receipts after.receipts receipt adds.receives.receipts w.granted;
      without = cut_converses (handled ++ request.Call call ∷ []) old.answers None (cut_now handled old.answers call w.waits);
      with_it = with_resumed (goes_on receipt.record_is.outcome) handled old.answers call receipt refl kind adds.act_is w.waits;
    })
