-- What a session ends for is what its kernel said.
use Rattle.std.proofs.Common.{◌≡◌, Option, Some, Result, Ok, Err, inl, inr, refl, sym, subst}
use Rattle.call_types.specs.declared.refusal.Refusal.{Refusal}
use Rattle.call_types.specs.declared.refusal.Refusal.TheVariants as refusal
use Rattle.call_types.specs.declared.request.Request.{Request}
use Rattle.record_book.specs.Seat.{SeatState}
use Rattle.system_lock.specs.declared.kernel.Why.{Why}
use Rattle.system_lock.specs.declared.kernel.Why.TheVariants as ended_why
use Rattle.session_core.specs.declared.end.End.{End}
use Rattle.session_core.specs.declared.end.End.TheVariants as end
use Rattle.session_core.specs.Proved.Closing.{HangsUpSeat, KeepsSeat, LeavesWith, SendsLast, end_of}
use Rattle.session_core.specs.declared.stage.Stage.TheVariants as stage
use Rattle.session_core.specs.Stages.{LeftSession, Over, Stage, Turn}
use Rattle.session_core.specs.declared.stage.Over.TheVariants as over
use Rattle.session_core.specs.declared.stage.Standing.TheVariants as standing
use Rattle.session_core.specs.declared.stage.LeaveCause.{LeaveCause}
use Rattle.session_core.specs.declared.stage.LeaveCause.TheVariants as why
use Rattle.session_core.specs.OutputState.{OutputState}
use Rattle.session_core.specs.Proved.Turns.{PutsGivenUp, TellsWhy, WhyRefused}
use Rattle.session_core.specs.Said.{EndSaid, SaidEnded}
use Rattle.session_core.specs.Proved.Saying.{CauseSaid, CauseEndedSaid, IsReadingEnd, OverSaid, TurnSaid}
use Rattle.system_lock.specs.Kernel.{Says}

-- a refusal that brings this end
why_refused : (unopened : Request → Refusal → Type 0) (request : Request) (told : Refusal) (found : LeaveCause) → WhyRefused told found →
    unopened request told → CauseSaid unopened found
why_refused unopened request refusal.NoMemory found is said = rw is tt
why_refused unopened request refusal.RunFull found is said = rw is (request, said)
why_refused unopened request (refusal.Foreign seen len) found is said = absurd is
why_refused unopened request refusal.NotHere found is said = absurd is
why_refused unopened request refusal.Waiting found is said = absurd is

pub unopened_said : (unopened : Request → Refusal → Type 0) (request : Request) (told : Refusal) (old new : OutputState) (found : LeaveCause) →
    PutsGivenUp old new told found → unopened request told → CauseSaid unopened found
unopened_said unopened request told old new found (inl put) said = why_refused unopened request told found put.0 said
unopened_said unopened request told old new found (inr none) said = rw none.0 tt

-- the end that is told of a process that ended in the call that it waited in
full_said : (ended : SeatState → SeatState → Why → Type 0) (spent : SeatState) (old new : OutputState) (found : LeaveCause) →
    PutsGivenUp old new refusal.RunFull found → SaidEnded ended spent ended_why.RunFull → CauseEndedSaid ended spent found
full_said ended spent old new found (inl put) said = rw put.0 said
full_said ended spent old new found (inr none) said = rw none.0 (inr said)

wanting_said : (ended : SeatState → SeatState → Why → Type 0) (spent : SeatState) (old new : OutputState) (found : LeaveCause) →
    PutsGivenUp old new refusal.NoMemory found → SaidEnded ended spent ended_why.NoMemory → CauseEndedSaid ended spent found
wanting_said ended spent old new found (inl put) said = rw put.0 (inl said)
wanting_said ended spent old new found (inr none) said = rw none.0 (inl said)

same_spent : (ended : SeatState → SeatState → Why → Type 0) (seat spent : SeatState) (reason : Why) → seat ≡ spent → SaidEnded ended spent reason →
    SaidEnded ended seat reason
same_spent ended seat spent reason e said = subst (λ (s : SeatState). SaidEnded ended s reason) (sym e) said

pub given_up_said : (says : Says) (spent : SeatState) (reason : Why) (old new : OutputState) (found : Turn) → TellsWhy spent reason old new found →
    SaidEnded says.ended spent reason → TurnSaid says found
given_up_said says spent ended_why.NoMemory old new (standing.Over (over.Ended seat why)) tells said = wanting_said says.ended seat old new why tells.0
    (same_spent says.ended seat spent ended_why.NoMemory tells.1 said)
given_up_said says spent ended_why.RunFull old new (standing.Over (over.Ended seat why)) tells said = full_said says.ended seat old new why tells.0
    (same_spent says.ended seat spent ended_why.RunFull tells.1 said)
given_up_said says spent ended_why.Lost old new (standing.GivenUp seat) tells said = same_spent says.ended seat spent ended_why.Lost tells.1 said
given_up_said says spent ended_why.Foreign old new (standing.Over (over.Foreign seat)) tells said =
    same_spent says.ended seat spent ended_why.Foreign tells.1 said
given_up_said says spent reason old new found tells said = absurd tells

-- the end that is told once the last answers are written
why_end : (says : Says) (seat : Option SeatState) (why : LeaveCause) → CauseSaid says.not_opened why → EndSaid says seat (end_of why)
why_end says seat why.Closed said = tt
why_end says seat why.ReadFault said = tt
why_end says seat why.Malformed said = tt
why_end says seat why.RunFull said = inl said
why_end says seat why.NoMemory said = tt
why_end says seat why.Ahead said = tt

ended_end : (says : Says) (spent : SeatState) (why : LeaveCause) → CauseEndedSaid says.ended spent why → EndSaid says (Some spent) (end_of why)
ended_end says spent why.Closed said = tt
ended_end says spent why.ReadFault said = tt
ended_end says spent why.Malformed said = tt
ended_end says spent why.RunFull said = inr said
ended_end says spent why.NoMemory said = tt
ended_end says spent why.Ahead said = tt

sent_end : (says : Says) (seat : Option SeatState) (old new : OutputState) (why : LeaveCause) (found : End) → SendsLast old new why found
    → EndSaid says seat (end_of why) → EndSaid says seat found
sent_end says seat old new why found (inl sent) said = rw sent.1 said
sent_end says seat old new why found (inr failed) said = rw failed.1 tt

pub leaves_said : (says : Says) (seat : Option SeatState) (old new : OutputState) (is : Over) (stage : Stage) (why : LeaveCause) (found : End) →
    is ≡ over.Leaves stage why → SendsLast old new why found
    → OverSaid says is → EndSaid says seat found
leaves_said says seat old new is stage why found same sends said = sent_end says seat old new why found sends
    (why_end says seat why (subst (OverSaid says) same said))

pub ended_said : (says : Says) (old new : OutputState) (is : Over) (seat : SeatState) (why : LeaveCause) (found : End) → is ≡ over.Ended seat why →
    SendsLast old new why found → OverSaid says is
    → EndSaid says (Some seat) found
ended_said says old new is seat why found same sends said = sent_end says (Some seat) old new why found sends
    (ended_end says seat why (subst (OverSaid says) same said))

reading_end : (says : Says) (seat : Option SeatState) (why : LeaveCause) → IsReadingEnd why → EndSaid says seat (end_of why)
reading_end says seat why.Closed said = tt
reading_end says seat why.ReadFault said = tt
reading_end says seat why.Malformed said = tt
reading_end says seat why.RunFull said = absurd said
reading_end says seat why.NoMemory said = tt
reading_end says seat why.Ahead said = tt

pub over_given_up_said : (says : Says) (old new : OutputState) (is : Over) (seat : SeatState) (why : LeaveCause) (found : End) → is ≡ over.GivenUp seat why →
    SendsLast old new why found → OverSaid says is
    → EndSaid says (Some seat) found
over_given_up_said says old new is seat why found same sends said =
    sent_end says (Some seat) old new why found sends (reading_end says (Some seat) why (subst (OverSaid says) same said).1)

pub closed_said : (says : Says) (seat : Option SeatState) (old new : OutputState) (found : End) → SendsLast old new why.Closed found → EndSaid says seat found
closed_said says seat old new found sends = sent_end says seat old new why.Closed found sends tt

pub foreign_said : (says : Says) (is : Over) (seat : SeatState) → is ≡ over.Foreign seat → OverSaid says is → EndSaid says (Some seat) end.Foreign
foreign_said says is seat same said = subst (OverSaid says) same said

-- a session that leaves off keeps its seat
hung : (seat : SeatState) (wanted : End) (told : Result SeatState (Unit {0})) (left : LeftSession) → left.seat ≡ told →
    LeavesWith (stage.Ready seat) wanted told left.end → HangsUpSeat seat left
hung seat wanted (Err admission) left is h = absurd h
hung seat wanted (Ok spent) left is h = (wanted, spent, is, h)

keeps_at : (at : Stage) (why : LeaveCause) (wanted : End) (left : LeftSession) → LeavesWith at wanted left.seat left.end → KeepsSeat (over.Leaves at why) left
keeps_at (stage.Opening admission) why wanted left h = h.0
keeps_at (stage.Ready seat) why wanted left h = hung seat wanted left.seat left refl h

pub keeps_left : (is : Over) (at : Stage) (why : LeaveCause) (wanted : End) (left : LeftSession) → is ≡ over.Leaves at why →
    LeavesWith at wanted left.seat left.end → KeepsSeat is left
keeps_left is at why wanted left same h = subst (λ (o : Over). KeepsSeat o left) (sym same) (keeps_at at why wanted left h)
