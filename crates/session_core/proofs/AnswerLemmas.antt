-- Requests that are answered in one thread.
use Rattle.std.proofs.Common.{◌≡◌, ℕ, Bool, true, List, [], Option, Result, Ok, Err, refl, subst}
use Rattle.std.proofs.lemmas.List.{append-nil}
use Rattle.std.specs.Result.{result_ok}
use Rattle.rtrb.specs.Ring.{received}
use Rattle.call_types.specs.declared.request.Request.{Request}
use Rattle.record_book.specs.Seat.{SeatState}
use Rattle.session_core.specs.declared.answer.AnsweredSeat.TheVariants as seat
use Rattle.session_core.specs.declared.end.End.TheVariants as end
use Rattle.session_core.specs.declared.stage.Stage.TheVariants as stage
use Rattle.session_core.specs.declared.stage.Standing.TheVariants as standing
use Rattle.session_core.specs.Answering.{AnswersRing, ComesToEnd, IsShutAtItsEnd, spent_of, TakingEnd}
use Rattle.session_core.specs.Proved.Leaving.{answered_of, end_at, seat_of}
use Rattle.session_core.specs.Proved.Closing.{with_last}
use Rattle.session_core.specs.Proved.Desk.{HasLeft, IsAtRest, IsShut, Stands}
use Rattle.session_core.specs.OutputState.{OutputState}
use Rattle.session_core.specs.Refusals.{RefusalSaid}
use Rattle.session_core.specs.Said.{EndSaid}
use Rattle.session_core.specs.Served.{AreTaken, ComesBy, EndsAt}
use Rattle.session_core.specs.Stages.{LeftSession, Standing}
use Rattle.session_core.proofs.ClosingLemmas.{all_written}
use Rattle.session_core.proofs.RefusalLemmas.{kept_said, with_last_said}
use Rattle.session_core.proofs.ServeLemmas.{over_here}
use Rattle.system_lock.specs.Kernel.{Says}

same_seat : (r : Result SeatState (Unit {0})) → result_ok r ≡ spent_of (seat_of r)
same_seat (Ok spent) = refl
same_seat (Err admission) = refl

-- a session that is left has ended at one of the requests that were taken
left_comes : (says : Says) (was_shut : IsShut) (base : Option (List ℕ)) (taken : List Request) (o : OutputState) (ring : TakingEnd) (left : LeftSession)
    → HasLeft says was_shut base taken o left → ComesToEnd base taken (answered_of o ring (standing.Over left)) left.end
left_comes says was_shut base taken o ring left h =
    subst (λ (s : Option SeatState). ComesBy (AreTaken taken) (EndsAt (AreTaken taken)) base o.sink s (with_last o.answers left.last) left.end)
    (same_seat left.seat)
    (h.left_by.leaves.here base taken (over_here base (AreTaken taken) taken [] h.old h.found (append-nil taken) h.over.is))

-- what was answered of a session that stands there
pub answers_ring : (says : Says) (was_shut : IsShut) (always : Bool) (base : Option (List ℕ)) (o : OutputState) (ring : TakingEnd) (at : Standing)
    → Stands says was_shut base (received ring) o at → IsAtRest o at → (always ≡ true → o.sink.log.refusals ≡ 0) →
    AnswersRing says always base (answered_of o ring at)
answers_ring says was_shut always base o ring (standing.Ready (stage.Opening admission)) h rest let_through =
    record { answered = (h.talking, all_written base o h.holds rest); said = h.said; let_through = let_through }
answers_ring says was_shut always base o ring (standing.Ready (stage.Ready live)) h rest let_through =
    record { answered = (h.talking, all_written base o h.holds rest); said = h.said; let_through = let_through }
answers_ring says was_shut always base o ring (standing.Waits live) h rest let_through = absurd rest
answers_ring says was_shut always base o ring (standing.GivenUp spent) h rest let_through =
    record { answered = ((h.is.exited, h.is.cut, h.end_said), all_written base o h.is.holds h.is.sent); said = h.said; let_through = let_through }
answers_ring says was_shut always base o ring (standing.Over left) h rest let_through = record {
  answered = (
    left_comes says was_shut base (received ring) o ring left h,
    subst (λ (s : Option SeatState). EndSaid says s left.end) (same_seat left.seat) h.left_by.end_said,
  );
  said =
      with_last_said (RefusalSaid says (received ring)) o.answers left.last
      (kept_said (RefusalSaid says (received ring)) h.old.answers o.answers h.left_by.answers h.over.said);
  let_through = let_through;
}

-- ---- the connection

pub shut_at_its_end : (says : Says) (was_shut : IsShut) (base : Option (List ℕ)) (taken : List Request) (o : OutputState) (at : Standing)
    → Stands says was_shut base taken o at → IsShutAtItsEnd was_shut o.sink (end_at at)
shut_at_its_end says was_shut base taken o (standing.Over left) h = h.shut
shut_at_its_end says was_shut base taken o (standing.Ready at) h = tt
shut_at_its_end says was_shut base taken o (standing.Waits live) h = tt
shut_at_its_end says was_shut base taken o (standing.GivenUp spent) h = tt
