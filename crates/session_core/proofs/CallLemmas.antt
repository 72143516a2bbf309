-- A call that is taken up.
use Rattle.std.proofs.Common.{◌≡◌, ℕ, Bool, true, false, inl, inr, List, [], ◌∷◌, ◌++◌, Option, None, refl, sym, ◌∙◌, ap, subst}
use Rattle.std.proofs.lemmas.List.{append-nil}
use Rattle.call_types.specs.declared.act.Act.TheVariants as act
use Rattle.call_types.specs.declared.call.Call.{Call}
use Rattle.call_types.specs.declared.outcome.Outcome.{Outcome}
use Rattle.call_types.specs.declared.outcome.Outcome.TheVariants as outcome
use Rattle.call_types.specs.declared.refusal.Refusal.{Refusal}
use Rattle.call_types.specs.declared.request.Request.{Request}
use Rattle.call_types.specs.declared.request.Request.TheVariants as request
use Rattle.posix_model.specs.Step.{EndsOrWaits}
use Rattle.record_book.specs.Seat.{Receipted, SeatState}
use Rattle.system_lock.specs.Kernel.{Adds}
use Rattle.session_core.specs.declared.told.Told.{Told}
use Rattle.session_core.specs.declared.told.Told.TheVariants as told
use Rattle.session_core.specs.Stages.{Stage, Turn}
use Rattle.session_core.specs.declared.stage.Stage.TheVariants as stage
use Rattle.session_core.specs.declared.stage.Over.TheVariants as over
use Rattle.session_core.specs.declared.stage.Standing.TheVariants as standing
use Rattle.session_core.specs.Answers.{receipts_of}
use Rattle.session_core.specs.OutputState.{OutputState}
use Rattle.session_core.specs.Proved.Output.{Holds, Puts, Flushes, FailsToSend}
use Rattle.session_core.specs.Talk.{IsReply, IsParked, Talked, Converses}
use Rattle.session_core.specs.Served.{IsGranted}
use Rattle.session_core.specs.Proved.Turns.{goes_on, IsTalking, HasReceipts, IsWaitingAt, OverBy, TakesUp}
use Rattle.session_core.proofs.WaitLemmas.{granted_more, talk_more, receipts_recorded, receipts_refused, cut_now, cut_converses, talked_converses}

pub refused : (seat after : SeatState) (call : Call) (refusal : Refusal) (old new : OutputState) → after ≡ seat → Puts old new (told.Refused refusal) →
    TakesUp (stage.Ready seat) (request.Call call) old new (standing.Ready (stage.Ready after))
refused seat after call refusal old new same put base handled holds talking = (
  put.holds base holds,
  (
    talk_more handled old.answers new.answers (record { request_is = request.Call call; told_of = told.Refused refusal ∷ [] }) talking.0
        (call, refl, inl (record { refusal = refusal; is = refl })) put.answers,
    ap (λ (s : SeatState). s.receipts) same ∙ talking.1 ∙ sym (receipts_refused old.answers new.answers refusal put.answers),
    subst (λ (s : SeatState). IsGranted s.receipts) (sym same) talking.2,
  ),
)

is_parked : (o : Outcome) → EndsOrWaits o → goes_on o ≡ true → IsParked o
is_parked (outcome.Reply reply) h e = absurd cc
is_parked (outcome.Parked moved) h e = tt
is_parked (outcome.Part moved) h e = absurd h

is_reply : (o : Outcome) → EndsOrWaits o → goes_on o ≡ false → IsReply o
is_reply (outcome.Reply reply) h e = tt
is_reply (outcome.Parked moved) h e = absurd cc
is_reply (outcome.Part moved) h e = absurd h

pub replied : (seat after : SeatState) (call : Call) (receipt : Receipted) (old new : OutputState) → Adds seat after (act.Call call) receipt →
    EndsOrWaits receipt.record_is.outcome → goes_on receipt.record_is.outcome ≡ false
    → Puts old new (told.Recorded receipt) → TakesUp (stage.Ready seat) (request.Call call) old new (standing.Ready (stage.Ready after))
replied seat after call receipt old new adds kind ends put base handled holds talking = (
  put.holds base holds,
  (
    talk_more handled old.answers new.answers (record { request_is = request.Call call; told_of = told.Recorded receipt ∷ [] }) talking.0
        (call, refl, inr (inl (record { receipt = receipt; is = refl; act_is = adds.act_is; ends = is_reply receipt.record_is.outcome kind ends })))
        put.answers,
    receipts_recorded old.answers new.answers receipt seat.receipts after.receipts put.answers talking.1 adds.receives.receipts,
    granted_more seat.receipts after.receipts receipt adds.receives.receipts talking.2,
  ),
)

pub parked : (base : Option (List ℕ)) (handled : List Request) (seat after : SeatState) (call : Call) (receipt : Receipted) (old new : OutputState) →
    Adds seat after (act.Call call) receipt → EndsOrWaits receipt.record_is.outcome
    → goes_on receipt.record_is.outcome ≡ true → Puts old new (told.Recorded receipt) → Holds base old → IsTalking handled old.answers (stage.Ready seat) →
    IsWaitingAt base handled call after new
parked base handled seat after call receipt old new adds kind more put holds talking = record {
  holds = put.holds base holds;
  waits = record {
    told_before = old.answers;
    told_of = told.Recorded receipt ∷ [];
    answers_are = put.answers;
    talked = talking.0;
    waits = record { receipt = receipt; parts = []; is = refl; act_is = adds.act_is; waits = is_parked receipt.record_is.outcome kind more; go_on = tt };
  };
  receipts = receipts_recorded old.answers new.answers receipt seat.receipts after.receipts put.answers talking.1 adds.receives.receipts;
  granted = granted_more seat.receipts after.receipts receipt adds.receives.receipts talking.2;
}

-- what a session has told so far is a conversation, and so it is with requests that are not taken up yet
pub has_receipts : (requests : List Request) (answers : List Told) (at : Stage) → IsTalking requests answers at → HasReceipts at answers
has_receipts requests answers (stage.Opening admission) h = ap receipts_of h.1
has_receipts requests answers (stage.Ready seat) h = (h.1, h.2)

pub talk_converses : (requests later : List Request) (answers : List Told) (at : Stage) → IsTalking requests answers at → Converses (requests ++ later) answers
talk_converses requests later answers (stage.Opening admission) h = record { handled = requests; later = later; requests_are = refl; is = inl (inl h) }
talk_converses requests later answers (stage.Ready seat) h = record { handled = requests; later = later; requests_are = refl; is = inl (inr h.0) }

pub converses : (requests : List Request) (answers : List Told) (at : Stage) → IsTalking requests answers at → Converses requests answers
converses requests answers at h = subst (λ (l : List Request). Converses l answers) (append-nil requests) (talk_converses requests [] answers at h)

-- memory ran out for the answer of a call that is recorded
with_called : (goes : Bool) (handled : List Request) (old : List Told) (call : Call) (receipt : Receipted) → goes_on receipt.record_is.outcome ≡ goes →
    EndsOrWaits receipt.record_is.outcome → receipt.record_is.act ≡ act.Call call → Talked handled old
    → Converses (handled ++ request.Call call ∷ []) (old ++ told.Recorded receipt ∷ [])
with_called true handled old call receipt e kind act_is h =
    let new = old ++ told.Recorded receipt ∷ [] in
    cut_converses (handled ++ request.Call call ∷ []) new None (cut_now handled new call (record {
      told_before = old;
      told_of = told.Recorded receipt ∷ [];
      answers_are = refl;
      talked = h;
      waits = record { receipt = receipt; parts = []; is = refl; act_is = act_is; waits = is_parked receipt.record_is.outcome kind e; go_on = tt };
    }))
with_called false handled old call receipt e kind act_is h =
    let new = old ++ told.Recorded receipt ∷ [] in
    talked_converses (handled ++ request.Call call ∷ []) new
    (talk_more handled old new (record { request_is = request.Call call; told_of = told.Recorded receipt ∷ [] }) h
    (call, refl, inr (inl (record { receipt = receipt; is = refl; act_is = act_is; ends = is_reply receipt.record_is.outcome kind e }))) refl)

pub untold : (seat after : SeatState) (call : Call) (receipt : Receipted) (old new : OutputState) → Adds seat after (act.Call call) receipt →
    EndsOrWaits receipt.record_is.outcome → new ≡ old
    → TakesUp (stage.Ready seat) (request.Call call) old new (standing.Over (over.Untold after receipt))
untold seat after call receipt old new adds kind e base handled holds talking =
    subst (λ (o : OutputState). OverBy base handled (request.Call call) o (over.Untold after receipt)) (sym e) (record {
      holds = holds;
      receipts_are = adds.receives.receipts ∙ ap (λ (l : List Receipted). l ++ receipt ∷ []) talking.1;
      granted = granted_more seat.receipts after.receipts receipt adds.receives.receipts talking.2;
      without = record { handled = handled; later = request.Call call ∷ []; requests_are = refl; is = inl (inr talking.0) };
      with_it = with_called (goes_on receipt.record_is.outcome) handled old.answers call receipt refl kind adds.act_is talking.0;
    })

-- the writer fails before a request is taken up
pub unflushed : (at : Stage) (next : Request) (old new : OutputState) → FailsToSend old new → TakesUp at next old new (standing.Over (over.Unwritten at))
unflushed at next old new h base handled holds talking = (
  h.breaks base holds,
  subst (HasReceipts at) (sym h.answers) (has_receipts handled old.answers at talking),
  subst (Converses (handled ++ next ∷ [])) (sym h.answers) (talk_converses handled (next ∷ []) old.answers at talking),
)

-- the same stage and the same request
pub same_place : (at other : Stage) (next same : Request) (old new : OutputState) (found : Turn) → at ≡ other → next ≡ same → TakesUp other same old new found →
    TakesUp at next old new found
same_place at other next same old new found e k h = subst (λ (s : Stage). TakesUp s next old new found) (sym e)
    (subst (λ (r : Request). TakesUp other r old new found) (sym k) h)

pub after_flush : (at : Stage) (next : Request) (old mid new : OutputState) (found : Turn) → Flushes old mid → TakesUp at next mid new found →
    TakesUp at next old new found
after_flush at next old mid new found h k base handled holds talking =
    k base handled (h.holds base holds) (subst (λ (l : List Told). IsTalking handled l at) (sym h.answers) talking)
