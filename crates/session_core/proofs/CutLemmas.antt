-- A session leaves off in a call that waits only where its kernel gave that call up.
use Rattle.std.proofs.Common.{◌≡◌, ℕ, inl, inr, List, [], ◌∷◌, ◌++◌, Option, None, Result, Ok, Err, sym, ◌∙◌, ap, subst}
use Rattle.std.specs.Result.{result_ok}
use Rattle.std.proofs.lemmas.List.{append-nil, append_assoc}
use Rattle.std.proofs.Math.Seq.{append_snoc}
use Rattle.call_types.specs.declared.act.Act.{Act}
use Rattle.call_types.specs.declared.act.Act.TheVariants as act
use Rattle.call_types.specs.declared.call.Call.{Call}
use Rattle.call_types.specs.declared.outcome.Outcome.{Outcome}
use Rattle.call_types.specs.declared.outcome.Outcome.TheVariants as outcome
use Rattle.call_types.specs.declared.request.Request.{Request}
use Rattle.call_types.specs.declared.request.Request.TheVariants as request
use Rattle.record_book.specs.Seat.{Receipted, SeatState}
use Rattle.system_lock.specs.declared.kernel.Why.{Why}
use Rattle.system_lock.specs.declared.kernel.Why.TheVariants as ended_why
use Rattle.session_core.specs.declared.end.End.{End}
use Rattle.session_core.specs.declared.end.End.TheVariants as end
use Rattle.session_core.specs.declared.told.Told.{Told}
use Rattle.session_core.specs.declared.told.Told.TheVariants as told
use Rattle.session_core.specs.Stages.{Stage, Over, LeftSession}
use Rattle.session_core.specs.declared.stage.Stage.TheVariants as stage
use Rattle.session_core.specs.declared.stage.LeaveCause.{LeaveCause}
use Rattle.session_core.specs.declared.stage.LeaveCause.TheVariants as why
use Rattle.session_core.specs.declared.stage.Over.TheVariants as over
use Rattle.logged_streams.specs.Streams.{LoggedReaderState}
use Rattle.session_core.specs.OutputState.{OutputState}
use Rattle.session_core.specs.Talk.{Group, AnswersCall, AreCalls, AreParts, IsCut, IsParked, IsPart, IsReply, IsRecordOf, Talked, told_of_all}
use Rattle.session_core.specs.Proved.Turns.{IsTalking, LeavesBy}
use Rattle.session_core.specs.Proved.Ends.{IsOver, LeavesOff}
use Rattle.session_core.specs.Proved.Closing.{ClosesAs, ClosesBy, HangsUp, IsOfReads, KeepsSeat, LeavesWith, MayClose, SendsLast, end_of, with_last}
use Rattle.session_core.specs.Said.{CutSaid, IsEndOfReads, SeatSaid}
use Rattle.session_core.specs.Proved.Saying.{CauseEndedSaid, OverSaid}
use Rattle.system_lock.specs.Kernel.{Says}

-- ---- answers that end in a call that waits

abbrev Waits : Outcome → Type 0
Waits (outcome.Reply reply) = ⊥
Waits (outcome.Parked moved) = Unit {0}
Waits (outcome.Part moved) = Unit {0}

abbrev OfCall : Act → Type 0
OfCall act.Join = ⊥
OfCall act.Attach = ⊥
OfCall other = Unit {0}

-- the answer of a call that goes on waiting
abbrev WaitsOn : Told → Type 0
WaitsOn (told.Recorded receipt) = OfCall receipt.record_is.act × Waits receipt.record_is.outcome
WaitsOn (told.Refused refusal) = ⊥

-- the last answer is such a one
abbrev EndsWaiting : List Told → Type 0
EndsWaiting [] = ⊥
EndsWaiting (one ∷ []) = WaitsOn one
EndsWaiting (one ∷ (next ∷ more)) = EndsWaiting (next ∷ more)

with_end : (before : List Told) (one : Told) → WaitsOn one → EndsWaiting (before ++ one ∷ [])
with_end [] one h = h
with_end (a ∷ []) one h = h
with_end (a ∷ (b ∷ more)) one h = with_end (b ∷ more) one h

of_end : (before : List Told) (one : Told) → EndsWaiting (before ++ one ∷ []) → WaitsOn one
of_end [] one h = h
of_end (a ∷ []) one h = h
of_end (a ∷ (b ∷ more)) one h = of_end (b ∷ more) one h

-- ---- a call that is cut

waits_parked : (o : Outcome) → IsParked o → Waits o
waits_parked (outcome.Reply reply) h = absurd h
waits_parked (outcome.Parked moved) h = tt
waits_parked (outcome.Part moved) h = absurd h

waits_part : (o : Outcome) → IsPart o → Waits o
waits_part (outcome.Reply reply) h = absurd h
waits_part (outcome.Parked moved) h = absurd h
waits_part (outcome.Part moved) h = tt

parts_wait : (before : List Told) (one : Told) (parts : List Told) → WaitsOn one → AreParts parts → EndsWaiting (before ++ one ∷ parts)
parts_wait before one [] h are = with_end before one h
parts_wait before one (told.Recorded receipt ∷ more) h are =
    let waits : WaitsOn (told.Recorded receipt) = (subst OfCall (sym are.0.0) tt, waits_part receipt.record_is.outcome are.0.1) in
    subst EndsWaiting (append_snoc before one (told.Recorded receipt ∷ more)) (parts_wait (before ++ one ∷ []) (told.Recorded receipt) more waits are.1)
parts_wait before one (told.Refused refusal ∷ more) h are = absurd are.0

cut_waits : (requests : List Request) (answers : List Told) → IsCut requests answers None → EndsWaiting answers
cut_waits requests answers cut =
    let w = cut.waits in
    let first : WaitsOn (told.Recorded w.waits.receipt) =
    (subst OfCall (sym w.waits.act_is) tt, waits_parked w.waits.receipt.record_is.outcome w.waits.waits) in
    let all : answers ≡ w.told_before ++ told.Recorded w.waits.receipt ∷ w.waits.parts =
    cut.answers_are ∙ append-nil cut.told_so_far ∙ w.answers_are ∙ ap (λ (l : List Told). w.told_before ++ l) w.waits.is in
    subst EndsWaiting (sym all) (parts_wait w.told_before (told.Recorded w.waits.receipt) w.waits.parts first w.waits.go_on)

-- ---- a call that is answered to its end

waits_no_more : (o : Outcome) → IsReply o → Waits o → ⊥
waits_no_more (outcome.Reply reply) h w = w
waits_no_more (outcome.Parked moved) h w = h
waits_no_more (outcome.Part moved) h w = h

-- answers, the last of which is of no call that waits
record EndsDone (answers : List Told) : Type 0 where
  pub before : List Told
  pub one : Told
  pub is : answers ≡ before ++ one ∷ []
  pub done : WaitsOn one → ⊥

answered_done : (call : Call) (answers : List Told) → AnswersCall call answers → EndsDone answers
answered_done call answers (inl h) = record { before = []; one = told.Refused h.refusal; is = h.is; done = λ w. w }
answered_done call answers (inr (inl h)) = record {
  before = [];
  one = told.Recorded h.receipt;
  is = h.is;
  done =
      λ w. waits_no_more h.receipt.record_is.outcome h.ends w.1;
}
answered_done call answers (inr (inr h)) = record {
  before = h.waiting;
  one = told.Recorded h.receipt;
  is = h.is;
  done =
      λ w. waits_no_more h.receipt.record_is.outcome h.ends w.1;
}

more_done : (answers more : List Told) → EndsDone more → EndsDone (answers ++ more)
more_done answers more h = record {
  before = answers ++ h.before;
  one = h.one;
  is = ap (λ (l : List Told). answers ++ l) h.is ∙ sym (append_assoc answers h.before (h.one ∷ []));
  done = h.done;
}

calls_done : (answers : List Told) (calls : List Group) → EndsDone answers → AreCalls calls → EndsDone (answers ++ told_of_all calls)
calls_done answers [] h are = subst EndsDone (sym (append-nil answers)) h
calls_done answers (one ∷ more) h are =
    subst EndsDone (append_assoc answers one.told_of (told_of_all more))
    (calls_done (answers ++ one.told_of) more (more_done answers one.told_of (answered_done are.0.0 one.told_of are.0.2)) are.1)

opening_done : (opening : Request) (receipt : Receipted) → IsRecordOf opening receipt → WaitsOn (told.Recorded receipt) → ⊥
opening_done request.Join receipt h w = subst OfCall h w.0
opening_done (request.Attach process) receipt h w = subst OfCall h.0 w.0
opening_done (request.Call call) receipt h w = h

talked_done : (handled : List Request) (answers : List Told) → Talked handled answers → EndsDone answers
talked_done handled answers t =
    let opened : EndsDone t.opened = record {
      before = [];
      one = told.Recorded t.opens.receipt;
      is = t.opens.is;
      done =
          opening_done t.opening t.opens.receipt t.opens.record_of;
    } in
    subst EndsDone (sym t.answers_are) (calls_done t.opened t.calls opened t.are_calls)

not_cut : (handled requests : List Request) (answers : List Told) → Talked handled answers → IsCut requests answers None → ⊥
not_cut handled requests answers t cut =
    let d = talked_done handled answers t in
    d.done (of_end d.before d.one (subst EndsWaiting d.is (cut_waits requests answers cut)))

not_cut_at : (handled requests : List Request) (answers : List Told) (at : Stage) → IsTalking handled answers at → IsCut requests answers None → ⊥
not_cut_at handled requests answers (stage.Opening admission) t cut = subst EndsWaiting t.1 (cut_waits requests answers cut)
not_cut_at handled requests answers (stage.Ready seat) t cut = not_cut handled requests answers t.0 cut

-- ---- how a session that is closed was over

cause_closes : (found : Over) (old : OutputState) (answers : List Told) (cause : LeaveCause) → (IsOfReads cause → MayClose found) → answers ≡ old.answers →
    ClosesAs found old answers (end_of cause)
cause_closes found old answers why.Closed may same = (may tt, same)
cause_closes found old answers why.ReadFault may same = (may tt, same)
cause_closes found old answers why.Malformed may same = (may tt, same)
cause_closes found old answers why.RunFull may same = tt
cause_closes found old answers why.NoMemory may same = tt
cause_closes found old answers why.Ahead may same = (may tt, same)

sent_closes : (found : Over) (old new : OutputState) (cause : LeaveCause) (wanted : End) → (IsOfReads cause → MayClose found) → SendsLast old new cause wanted →
    ClosesAs found old new.answers wanted
sent_closes found old new cause wanted may (inl h) = rw h.1 (cause_closes found old new.answers cause may h.0.flushes.answers)
sent_closes found old new cause wanted may (inr h) = rw h.1 tt

hung_closes : (found : Over) (old : OutputState) (answers : List Told) (wanted given : End) (seat spent : SeatState) → HangsUp seat wanted spent given →
    ClosesAs found old answers wanted → ClosesAs found old answers given
hung_closes found old answers wanted given seat spent (inl h) closes = rw h.1 closes
hung_closes found old answers wanted given seat spent (inr h) closes = rw h.1 tt

left_closes : (found : Over) (old : OutputState) (answers : List Told) (wanted given : End) (at : Stage) (seat : Result SeatState (Unit {0})) →
    LeavesWith at wanted seat given → ClosesAs found old answers wanted → ClosesAs found old answers given
left_closes found old answers wanted given (stage.Opening admission) seat h closes = rw h.1 closes
left_closes found old answers wanted given (stage.Ready s) (Err admission) h closes = absurd h
left_closes found old answers wanted given (stage.Ready s) (Ok spent) h closes = hung_closes found old answers wanted given s spent h closes

-- it is left by its stage
leave_closes : (found : Over) (old new : OutputState) (at : Stage) (wanted : End) (left : LeftSession) → LeavesWith at wanted left.seat left.end →
    left.last ≡ None → ClosesAs found old new.answers wanted → ClosesBy found old new left
leave_closes found old new at wanted left h none closes =
    subst (λ (last : Option Receipted). ClosesAs found old (with_last new.answers last) left.end) (sym none)
    (left_closes found old new.answers wanted left.end at left.seat h closes)

pub leaves_closes : (found : Over) (old new : OutputState) (at : Stage) (cause : LeaveCause) (wanted : End) (left : LeftSession) →
    found ≡ over.Leaves at cause → SendsLast old new cause wanted
    → LeavesWith at wanted left.seat left.end → left.last ≡ None → ClosesBy found old new left
leaves_closes found old new at cause wanted left same sends h none =
    leave_closes found old new at wanted left h none (sent_closes found old new cause wanted (λ closed. subst MayClose (sym same) closed) sends)

pub unwritten_closes : (found : Over) (o : OutputState) (at : Stage) (sent : ℕ) (left : LeftSession) → LeavesWith at (end.WriteFault sent) left.seat left.end →
    left.last ≡ None → ClosesBy found o o left
unwritten_closes found o at sent left h none = leave_closes found o o at (end.WriteFault sent) left h none tt

-- it is left with a seat
pub seat_closes : (found : Over) (old new : OutputState) (cause : LeaveCause) (seat : SeatState) (wanted : End) (left : LeftSession) →
    (IsOfReads cause → MayClose found) → SendsLast old new cause wanted
    → left ≡ record { seat = Ok seat; end = wanted; last = None } → ClosesBy found old new left
seat_closes found old new cause seat wanted left may sends same = subst (ClosesBy found old new) (sym same) (sent_closes found old new cause wanted may sends)

-- it is left by an end that is not that of a session that is closed
pub hung_up_closes : (found : Over) (old new : OutputState) (seat spent : SeatState) (wanted given : End) (last : Option Receipted) (left : LeftSession) →
    ((answers : List Told) → ClosesAs found old answers wanted) → HangsUp seat wanted spent given
    → left ≡ record { seat = Ok spent; end = given; last = last } → ClosesBy found old new left
hung_up_closes found old new seat spent wanted given last left none h same =
    subst (ClosesBy found old new) (sym same) (hung_closes found old (with_last new.answers last) wanted given seat spent h (none (with_last new.answers last)))

-- ---- a session that is over

-- a session that leaves off at a request has no call that is cut
leaves_uncut : (base : Option (List ℕ)) (handled : List Request) (next : Request) (o : OutputState) (at : Stage) (cause : LeaveCause)
    (requests : List Request) → IsOfReads cause → LeavesBy base handled next o at cause → IsCut requests o.answers None → ⊥
leaves_uncut base handled next o at why.Closed requests of h cut = h
leaves_uncut base handled next o at why.ReadFault requests of h cut = h
leaves_uncut base handled next o at why.Malformed requests of h cut = not_cut_at handled requests o.answers at h.1 cut
leaves_uncut base handled next o at why.RunFull requests of h cut = of
leaves_uncut base handled next o at why.NoMemory requests of h cut = of
leaves_uncut base handled next o at why.Ahead requests of h cut = h

-- nor has one that leaves off between two requests
off_uncut : (base : Option (List ℕ)) (input : List ℕ) (o : OutputState) (at : Stage) (cause : LeaveCause) (requests : List Request) → IsOfReads cause →
    LeavesOff base input o (over.Leaves at cause) → IsCut requests o.answers None → ⊥
off_uncut base input o at why.Closed requests of h cut = not_cut_at h.requests requests o.answers at h.talking cut
off_uncut base input o at why.ReadFault requests of h cut = not_cut_at h.requests requests o.answers at h.talking cut
off_uncut base input o at why.Malformed requests of h cut = not_cut_at h.requests requests o.answers at h.talking cut
off_uncut base input o at why.RunFull requests of h cut = of
off_uncut base input o at why.NoMemory requests of h cut = of
off_uncut base input o at why.Ahead requests of h cut = not_cut_at h.requests requests o.answers at h.talking cut

-- nor has one whose process ended in the call that it waited in
ended_unread : (ended : SeatState → SeatState → Why → Type 0) (seat : SeatState) (cause : LeaveCause) → IsOfReads cause → CauseEndedSaid ended seat cause → ⊥
ended_unread ended seat why.Closed of said = said
ended_unread ended seat why.ReadFault of said = said
ended_unread ended seat why.Malformed of said = said
ended_unread ended seat why.RunFull of said = of
ended_unread ended seat why.NoMemory of said = of
ended_unread ended seat why.Ahead of said = said

given_up : (says : Says) (base : Option (List ℕ)) (input : List ℕ) (source : LoggedReaderState) (o : OutputState) (found : Over) (left : LeftSession)
    (requests : List Request)
    → MayClose found → IsOver base input source o found → OverSaid says found → KeepsSeat found left → IsCut requests o.answers None →
    SeatSaid says.ended (result_ok left.seat) ended_why.Lost
given_up says base input source o (over.Leaves at cause) left requests may (inl (inl h)) said keeps cut =
    absurd (leaves_uncut base h.handled h.next o at cause requests may h.is cut)
given_up says base input source o (over.Leaves at cause) left requests may (inl (inr h)) said keeps cut = absurd h
given_up says base input source o (over.Leaves at cause) left requests may (inr off) said keeps cut =
    absurd (off_uncut base input o at cause requests may off.0 cut)
given_up says base input source o (over.Unwritten at) left requests may is said keeps cut = absurd may
given_up says base input source o (over.OpeningUntold seat) left requests may is said keeps cut = absurd may
given_up says base input source o (over.RefusalUntold seat) left requests may is said keeps cut = absurd may
given_up says base input source o (over.Untold seat receipt) left requests may is said keeps cut = absurd may
given_up says base input source o (over.Refused seat) left requests may (inl (inr h)) said keeps cut = absurd h
given_up says base input source o (over.Refused seat) left requests may (inl (inl h)) said keeps cut =
    absurd (not_cut (h.handled ++ h.next ∷ []) requests o.answers h.is.2 cut)
given_up says base input source o (over.Refused seat) left requests may (inr off) said keeps cut = absurd off.0
given_up says base input source o (over.GivenUp seat cause) left requests may is said keeps cut =
    subst (λ (s : Option SeatState). SeatSaid says.ended s ended_why.Lost) (sym (ap result_ok keeps)) said.0
given_up says base input source o (over.Ended seat cause) left requests may is said keeps cut = absurd (ended_unread says.ended seat cause may said)
given_up says base input source o (over.Foreign seat) left requests may is said keeps cut = absurd may

closed_at : (found : Over) (o : OutputState) (answers : List Told) (given : End) → IsEndOfReads given → ClosesAs found o answers given →
    MayClose found × (answers ≡ o.answers)
closed_at found o answers end.Closed of h = h
closed_at found o answers end.ReadFault of h = h
closed_at found o answers (end.WriteFault sent) of h = absurd of
closed_at found o answers end.Malformed of h = h
closed_at found o answers end.Ahead of h = h
closed_at found o answers end.RunFull of h = absurd of
closed_at found o answers end.NoMemory of h = absurd of
closed_at found o answers end.Foreign of h = absurd of
closed_at found o answers end.NoThread of h = absurd of

pub cut_said : (says : Says) (base : Option (List ℕ)) (input : List ℕ) (source : LoggedReaderState) (old new : OutputState) (found : Over) (left : LeftSession)
    (answers : List Told)
    → IsOver base input source old found → OverSaid says found → KeepsSeat found left → ClosesBy found old new left →
    answers ≡ with_last new.answers left.last → CutSaid says.ended (result_ok left.seat) answers left.end
cut_said says base input source old new found left answers is said keeps closes told of requests cut =
    let at = closed_at found old (with_last new.answers left.last) left.end of closes in
    given_up says base input source old found left requests at.0 is said keeps (subst (λ (l : List Told). IsCut requests l None) (told ∙ at.1) cut)
