-- What a session comes to that is over.
use Rattle.std.proofs.Common.{◌≡◌, ℕ, inl, inr, List, [], ◌∷◌, ◌++◌, Option, None, Some, Result, Ok, Err, refl, sym, ◌∙◌, ap, subst}
use Rattle.std.specs.Result.{result_ok}
use Rattle.std.proofs.lemmas.List.{append-nil, append_assoc}
use Rattle.std.proofs.lemmas.List.Concat.{flat_map-append}
use Rattle.std.specs.Io.KnownBytes.{Appends}
use Rattle.call_types.specs.declared.refusal.Refusal.{Refusal}
use Rattle.call_types.specs.declared.refusal.Refusal.TheVariants as refusal
use Rattle.call_types.specs.declared.request.Request.{Request}
use Rattle.call_types.specs.declared.request.Request.TheVariants as request
use Rattle.frame_codec.specs.declared.decoder.Progress.{Progress}
use Rattle.frame_codec.specs.declared.decoder.Progress.TheVariants as progress
use Rattle.record_book.specs.Seat.{Receipted, SeatState}
use Rattle.system_lock.specs.Kernel.{HasItsExit, IsNoError}
use Rattle.session_core.specs.declared.end.End.{End}
use Rattle.session_core.specs.declared.end.End.TheVariants as end
use Rattle.session_core.specs.declared.told.Told.{Told}
use Rattle.session_core.specs.declared.told.Told.TheVariants as told
use Rattle.session_core.specs.Stages.{Stage, Over, LeftSession}
use Rattle.session_core.specs.declared.stage.Stage.TheVariants as stage
use Rattle.session_core.specs.declared.stage.LeaveCause.{LeaveCause}
use Rattle.session_core.specs.declared.stage.LeaveCause.TheVariants as why
use Rattle.session_core.specs.declared.stage.Over.TheVariants as over
use Rattle.session_core.specs.Answers.{answers_text, told_bytes, receipts_of, IsFrontWritten}
use Rattle.session_core.specs.OutputState.{OutputState}
use Rattle.session_core.specs.Proved.Output.{Holds, Broke, SendsAll, FailsToSend}
use Rattle.logged_streams.specs.Streams.{LoggedReaderState, LoggedWriterState}
use Rattle.session_core.specs.Talk.{IsCut, IsUnopened, AreAnswered, Converses}
use Rattle.session_core.specs.Served.{AreTaken, IsMisplaced, AnswersFirst, AnswersAll, AnswersToCut, HasExited, IsGranted, HasUntold, IsRefusedOpening, IsSeatOf, IsSeated, IsWritten, EndsAt, EndsAfter, EndsFor, ComesBy, ComesTo}
use Rattle.session_core.specs.Proved.Turns.{IsTalking, IsOutOfPlace, HasReceipts, LeavesBy, EndedBy, IsUntoldOpening}
use Rattle.request_pump.specs.Input.{Begins, AreRequests}
use Rattle.request_pump.specs.Pushes.{PushState}
use Rattle.request_pump.proofs.InputLemmas.{begins_read}
use Rattle.session_core.specs.Proved.Ends.{LeavesOff, IsAnswered, IsCutAhead, IsCutOff, IsMet, IsOver, IsOverHere, IsUnfailed}
use Rattle.session_core.specs.Proved.Closing.{end_of, SendsLast, HangsUp, LeavesWith, session_of, with_last, LeavesAll}
use Rattle.session_core.proofs.WaitLemmas.{cut_converses, talked_converses, receipts_more}
use Rattle.session_core.proofs.CallLemmas.{converses, has_receipts, talk_converses}

-- ---- what was written

pub all_written : (base : Option (List ℕ)) (o : OutputState) → Holds base o → o.unsent ≡ [] → Appends base o.sink.contents (answers_text o.answers)
all_written base o h all = subst (Appends base o.sink.contents) (sym (append-nil h.text) ∙ ap (λ (l : List ℕ). h.text ++ l) (sym all) ∙ h.is) h.appends

holds_front : (base : Option (List ℕ)) (o : OutputState) → Holds base o → IsFrontWritten base o.sink.contents o.answers o.sent
holds_front base o h = record { text = h.text; rest = o.unsent; appends = h.appends; is = h.is; sent_is = h.sent_is }

-- a front of some answers is one of these and one more
front_of_more : (old new : Option (List ℕ)) (answers : List Told) (one : Told) (sent : ℕ) → IsFrontWritten old new answers sent →
    IsFrontWritten old new (answers ++ one ∷ []) sent
front_of_more old new answers one sent h = record {
  text = h.text;
  rest = h.rest ++ told_bytes one;
  appends = h.appends;
  is =
      let more : answers_text (answers ++ one ∷ []) ≡ answers_text answers ++ told_bytes one =
      flat_map-append told_bytes answers (one ∷ []) ∙ ap (λ (l : List ℕ). answers_text answers ++ l) (append-nil (told_bytes one)) in
      sym (append_assoc h.text h.rest (told_bytes one)) ∙ ap (λ (l : List ℕ). l ++ told_bytes one) h.is ∙ sym more;
  sent_is = h.sent_is;
}

-- ---- a session that stands where it is, and is still to write its last answers

-- what is said of the requests that it is given, and of why it ends
abbrev Giving : Type 1
Giving = List Request → Type 0

abbrev Reasons : Type 1
Reasons = LoggedWriterState → Option SeatState → List Told → End → Type 0

-- it may end for each reason that a request gives
abbrev Admits : Giving → Reasons → Type 0
Admits Given Ends = (writer : LoggedWriterState) (seat : Option SeatState) (answers : List Told) (found : End) → EndsAt Given writer seat answers found →
    Ends writer seat answers found

of_requests : (taken : List Request) → Admits (AreTaken taken) (EndsAt (AreTaken taken))
of_requests taken writer seat answers found h = h

of_bytes : (input : List ℕ) (reader : Option LoggedReaderState) (pushes : PushState) → Admits (Begins input) (EndsFor input reader pushes)
of_bytes input reader pushes writer seat answers found h = inl h

-- the session that is left
abbrev Comes : Giving → Reasons → Option (List ℕ) → OutputState → Result SeatState (Unit {0}) → End → Option Receipted → Type 0
Comes Given Ends base o seat found last = ComesBy Given Ends base o.sink (result_ok seat) (with_last o.answers last) found

-- all that it answered is known, and why it ends
pub record Rests (Given : Giving) (Ends : Reasons) (base : Option (List ℕ)) (o : OutputState) (seat : Result SeatState (Unit {0}))
    (cause : LeaveCause) : Type 0 where
  pub holds : Holds base o
  pub talks : AnswersFirst Given o.answers
  pub ends : (writer : LoggedWriterState) → Ends writer (result_ok seat) o.answers (end_of cause)

-- an end that a session has of itself
abbrev IsOrdinary : End → Type 0
IsOrdinary end.Foreign = ⊥
IsOrdinary end.NoThread = ⊥
IsOrdinary other = Unit {0}

-- its last answers are written, or its writer has failed
pub record Stands (Given : Giving) (Ends : Reasons) (base : Option (List ℕ)) (o : OutputState) (seat : Result SeatState (Unit {0}))
    (wanted : End) : Type 0 where
  pub talks : AnswersFirst Given o.answers
  pub written : IsWritten base o.sink.contents o.answers wanted
  pub front : IsFrontWritten base o.sink.contents o.answers o.sent
  pub ends : Ends o.sink (result_ok seat) o.answers wanted

written_as : (old new : Option (List ℕ)) (answers : List Told) (cause : LeaveCause) → Appends old new (answers_text answers) →
    IsWritten old new answers (end_of cause)
written_as old new answers why.Closed h = h
written_as old new answers why.ReadFault h = h
written_as old new answers why.Malformed h = h
written_as old new answers why.RunFull h = h
written_as old new answers why.NoMemory h = h
written_as old new answers why.Ahead h = h

ordinary_as : (cause : LeaveCause) → IsOrdinary (end_of cause)
ordinary_as why.Closed = tt
ordinary_as why.ReadFault = tt
ordinary_as why.Malformed = tt
ordinary_as why.RunFull = tt
ordinary_as why.NoMemory = tt
ordinary_as why.Ahead = tt

ordinary_sent : (old new : OutputState) (cause : LeaveCause) (wanted : End) → SendsLast old new cause wanted → IsOrdinary wanted
ordinary_sent old new cause wanted (inl h) = subst IsOrdinary (sym h.1) (ordinary_as cause)
ordinary_sent old new cause wanted (inr h) = subst IsOrdinary (sym h.1) tt

pub answers_sent : (old new : OutputState) (cause : LeaveCause) (wanted : End) → SendsLast old new cause wanted → new.answers ≡ old.answers
answers_sent old new cause wanted (inl h) = h.0.flushes.answers
answers_sent old new cause wanted (inr h) = h.0.answers

sends : (Given : Giving) (Ends : Reasons) → Admits Given Ends → (base : Option (List ℕ)) (old new : OutputState) (seat : Result SeatState (Unit {0}))
    (cause : LeaveCause) (wanted : End) → Rests Given Ends base old seat cause → SendsLast old new cause wanted
    → Stands Given Ends base new seat wanted
sends Given Ends admits base old new seat cause wanted r (inl h) =
    let holds = h.0.flushes.holds base r.holds in
    subst (Stands Given Ends base new seat) (sym h.1) (record {
      talks = subst (AnswersFirst Given) (sym h.0.flushes.answers) r.talks;
      written = written_as base new.sink.contents new.answers cause (all_written base new holds h.0.all);
      front = holds_front base new holds;
      ends = subst (λ (l : List Told). Ends new.sink (result_ok seat) l (end_of cause)) (sym h.0.flushes.answers) (r.ends new.sink);
    })
sends Given Ends admits base old new seat cause wanted r (inr h) =
    let broke = h.0.breaks base r.holds in
    subst (Stands Given Ends base new seat) (sym h.1) (record {
      talks = subst (AnswersFirst Given) (sym h.0.answers) r.talks;
      written = broke.front;
      front = broke.front;
      ends = admits new.sink (result_ok seat) new.answers (end.WriteFault new.sent) broke.broken;
    })

-- ---- its process is hung up

seat_exited : (Given : Giving) (wanted : End) (seat : SeatState) (answers : List Told) → IsOrdinary wanted → HasExited seat answers →
    IsSeatOf Given seat answers wanted
seat_exited Given end.Closed seat answers o h = inl h
seat_exited Given end.ReadFault seat answers o h = h
seat_exited Given (end.WriteFault sent) seat answers o h = inl h
seat_exited Given end.Malformed seat answers o h = h
seat_exited Given end.Ahead seat answers o h = h
seat_exited Given end.RunFull seat answers o h = h
seat_exited Given end.NoMemory seat answers o h = inl h
seat_exited Given end.Foreign seat answers o h = absurd o
seat_exited Given end.NoThread seat answers o h = absurd o

no_seat : (Given : Giving) (wanted : End) (answers : List Told) → IsOrdinary wanted → receipts_of answers ≡ [] → IsSeated Given None answers wanted
no_seat Given end.Closed answers o h = h
no_seat Given end.ReadFault answers o h = h
no_seat Given (end.WriteFault sent) answers o h = h
no_seat Given end.Malformed answers o h = h
no_seat Given end.Ahead answers o h = h
no_seat Given end.RunFull answers o h = h
no_seat Given end.NoMemory answers o h = h
no_seat Given end.Foreign answers o h = absurd o
no_seat Given end.NoThread answers o h = absurd o

exited : (old spent : SeatState) (answers : List Told) → HasItsExit old spent → old.receipts ≡ receipts_of answers → IsGranted old.receipts →
    HasExited spent answers
exited old spent answers h e granted = record {
  exit = h.0;
  receipts = h.1.receives.receipts ∙ ap (λ (l : List Receipted). l ++ h.0 ∷ []) e;
  granted = subst IsGranted e granted;
  act_is = h.1.act_is;
}

-- a seat that is given back as it was
same_granted : (seat spent : SeatState) → spent ≡ seat → IsGranted seat.receipts → IsGranted spent.receipts
same_granted seat spent e granted = subst (λ (s : SeatState). IsGranted s.receipts) (sym e) granted

hung_up : (Given : Giving) (Ends : Reasons) → Admits Given Ends → (base : Option (List ℕ)) (o : OutputState) (wanted found : End) (seat spent : SeatState) →
    ((held : Result SeatState (Unit {0})) → Stands Given Ends base o held wanted) → IsOrdinary wanted
    → (seat.receipts ≡ receipts_of o.answers) × IsGranted seat.receipts → HangsUp seat wanted spent found → Comes Given Ends base o (Ok spent) found None
hung_up Given Ends admits base o wanted found seat spent stands ordinary receipts (inl h) =
    let s = stands (Ok spent) in
    subst (λ (e : End). Comes Given Ends base o (Ok spent) e None) (sym h.1) (record {
      talks = s.talks;
      written = s.written;
      seated = seat_exited Given wanted spent o.answers ordinary (exited seat spent o.answers h.0 receipts.0 receipts.1);
      ends = s.ends;
    })
hung_up Given Ends admits base o wanted found seat spent stands ordinary receipts (inr h) =
    let s = stands (Ok spent) in
    subst (λ (e : End). Comes Given Ends base o (Ok spent) e None) (sym h.1) (record {
      talks = s.talks;
      written = (o.sent, s.front);
      seated = (same_granted seat spent h.0 receipts.1, inl (ap (λ (x : SeatState). x.receipts) h.0 ∙ receipts.0));
      ends = admits o.sink (Some spent) o.answers end.Foreign tt;
    })

left_so : (Given : Giving) (Ends : Reasons) → Admits Given Ends → (base : Option (List ℕ)) (o : OutputState) (wanted : End) (at : Stage)
    (seat : Result SeatState (Unit {0})) (found : End) (last : Option Receipted)
    → ((held : Result SeatState (Unit {0})) → Stands Given Ends base o held wanted) → IsOrdinary wanted → HasReceipts at o.answers →
    LeavesWith at wanted seat found → last ≡ None → Comes Given Ends base o seat found last
left_so Given Ends admits base o wanted (stage.Opening admission) seat found last stands ordinary receipts h none =
    let s = stands (Err admission) in
    subst (λ (x : Option Receipted). Comes Given Ends base o seat found x) (sym none)
    (subst (λ (x : Result SeatState (Unit {0})). Comes Given Ends base o x found None) (sym h.0)
    (subst (λ (e : End). Comes Given Ends base o (Err admission) e None) (sym h.1) (record {
      talks = s.talks;
      written = s.written;
      seated = no_seat Given wanted o.answers ordinary receipts;
      ends = s.ends;
    })))
left_so Given Ends admits base o wanted (stage.Ready seat) (Err admission) found last stands ordinary receipts h none = absurd h
left_so Given Ends admits base o wanted (stage.Ready seat) (Ok spent) found last stands ordinary receipts h none =
    subst (λ (x : Option Receipted). Comes Given Ends base o (Ok spent) found x) (sym none)
    (hung_up Given Ends admits base o wanted found seat spent stands ordinary receipts h)

-- a session whose seat is spent already
spent_so : (Given : Giving) (Ends : Reasons) (base : Option (List ℕ)) (o : OutputState) (spent : SeatState) (wanted : End) →
    Stands Given Ends base o (Ok spent) wanted → IsSeatOf Given spent o.answers wanted
    → Comes Given Ends base o (Ok spent) wanted None
spent_so Given Ends base o spent wanted s h = record { talks = s.talks; written = s.written; seated = h; ends = s.ends }

-- ---- what is known where a session is over

answered_so : (requests : List Request) (answers : List Told) (at : Stage) → IsTalking requests answers at → AreAnswered requests answers
answered_so requests answers (stage.Opening admission) h = inl h
answered_so requests answers (stage.Ready seat) h = inr h.0

misplaced_so : (requests : List Request) (answers : List Told) (at : Stage) (next : Request) → IsTalking requests answers at → IsOutOfPlace at next →
    IsMisplaced requests next
misplaced_so requests answers (stage.Opening admission) request.Join h k = absurd k
misplaced_so requests answers (stage.Opening admission) (request.Attach process) h k = absurd k
misplaced_so requests answers (stage.Opening admission) (request.Call call) h k = subst (λ (l : List Request). IsMisplaced l (request.Call call)) (sym h.0) tt
misplaced_so requests answers (stage.Ready seat) request.Join h k = subst (λ (l : List Request). IsMisplaced l request.Join) (sym h.0.requests_are) tt
misplaced_so requests answers (stage.Ready seat) (request.Attach process) h k = subst (λ (l : List Request). IsMisplaced l (request.Attach process))
    (sym h.0.requests_are) tt
misplaced_so requests answers (stage.Ready seat) (request.Call call) h k = absurd k

pub converses_more : (requests later : List Request) (answers : List Told) → Converses requests answers → Converses (requests ++ later) answers
converses_more requests later answers h = record {
  handled = h.handled;
  later = h.later ++ later;
  requests_are = ap (λ (l : List Request). l ++ later) h.requests_are ∙ append_assoc h.handled h.later later;
  is = h.is;
}

-- the first requests, of which the last one is the one at which a session is over
talks_at : (Given : Giving) (handled : List Request) (next : Request) (later : List Request) (answers : List Told) → Given (handled ++ next ∷ later) →
    Converses (handled ++ next ∷ []) answers → AnswersFirst Given answers
talks_at Given handled next later answers given h = record {
  requests = handled ++ next ∷ later;
  given = given;
  converses = subst (λ (l : List Request). Converses l answers) (append_assoc handled (next ∷ []) later)
      (converses_more (handled ++ next ∷ []) later answers h);
}

cut_at : (Given : Giving) (handled : List Request) (next : Request) (later : List Request) (answers : List Told) (given_up : Option Refusal) →
    Given (handled ++ next ∷ later) → IsCut (handled ++ next ∷ []) answers given_up → AnswersFirst Given answers
cut_at Given handled next later answers given_up given h = talks_at Given handled next later answers given
    (cut_converses (handled ++ next ∷ []) answers given_up h)

to_cut : (Given : Giving) (handled : List Request) (next : Request) (later : List Request) (answers : List Told) (given_up : Option Refusal) →
    Given (handled ++ next ∷ later) → IsCut (handled ++ next ∷ []) answers given_up
    → AnswersToCut Given answers given_up
to_cut Given handled next later answers given_up given h = record {
  requests = handled ++ next ∷ [];
  later = later;
  given = subst Given (sym (append_assoc handled (next ∷ []) later)) given;
  cut = h;
}

first_read : (input : List ℕ) (requests : List Request) (told : Progress) (answers : List Told) (at : Stage) → AreRequests input requests told →
    IsTalking requests answers at → AnswersFirst (Begins input) answers
first_read input requests told answers at read talking = record {
  requests = requests;
  given = begins_read input requests told read;
  converses =
      converses requests answers at talking;
}

all_read : (base : Option (List ℕ)) (input : List ℕ) (o : OutputState) (at : Stage) → IsAnswered base input o at → AnswersAll input o.answers
all_read base input o at h = record { requests = h.requests; read = h.read; answered = answered_so h.requests o.answers at h.talking }

-- a session that leaves off when no more is read
abbrev RestsRead : List ℕ → Option (List ℕ) → LoggedReaderState → PushState → OutputState → Result SeatState (Unit {0}) → LeaveCause → Type 0
RestsRead input base source pushes o seat cause = Rests (Begins input) (EndsFor input (Some source) pushes) base o seat cause

rests_answered : (input : List ℕ) (base : Option (List ℕ)) (source : LoggedReaderState) (pushes : PushState) (o : OutputState) (at : Stage) (cause : LeaveCause)
    (seat : Result SeatState (Unit {0})) → (h : IsAnswered base input o at)
    → EndsAfter input (Some source) pushes (result_ok seat) o.answers (end_of cause) → RestsRead input base source pushes o seat cause
rests_answered input base source pushes o at cause seat h ends =
    record { holds = h.holds; talks = first_read input h.requests progress.More o.answers at h.read h.talking; ends = λ (writer : LoggedWriterState). inr ends }

unopened_converses : (requests : List Request) (answers : List Told) (refusal : Refusal) → IsUnopened requests answers refusal → Converses requests answers
unopened_converses requests answers refusal h = record { handled = requests; later = []; requests_are = sym (append-nil requests); is = inr (inr (refusal, h)) }

rests_at : (Given : Giving) (Ends : Reasons) → Admits Given Ends → (base : Option (List ℕ)) (o : OutputState) (at : Stage) (cause : LeaveCause)
    (handled : List Request) (next : Request) (later : List Request) → Given (handled ++ next ∷ later) → LeavesBy base handled next o at cause
    → (seat : Result SeatState (Unit {0})) → Rests Given Ends base o seat cause
rests_at Given Ends admits base o at why.Closed handled next later given h seat = absurd h
rests_at Given Ends admits base o at why.ReadFault handled next later given h seat = absurd h
rests_at Given Ends admits base o at why.Ahead handled next later given h seat = absurd h
rests_at Given Ends admits base o at why.Malformed handled next later given h seat = record {
  holds = h.0;
  talks = record { requests = handled ++ next ∷ later; given = given; converses = talk_converses handled (next ∷ later) o.answers at h.1 };
  ends = λ (writer : LoggedWriterState). admits writer (result_ok seat) o.answers end.Malformed (record {
    requests = handled;
    next = next;
    later = later;
    given = given;
    answered = answered_so handled o.answers at h.1;
    misplaced = misplaced_so handled o.answers at next h.1 h.2;
  });
}
rests_at Given Ends admits base o at why.RunFull handled next later given h seat = record {
  holds = h.0;
  talks = talks_at Given handled next later o.answers given (unopened_converses (handled ++ next ∷ []) o.answers refusal.RunFull h.2);
  ends = λ (writer : LoggedWriterState). admits writer (result_ok seat) o.answers end.RunFull (inl h.2.answers_are);
}
rests_at Given Ends admits base o at why.NoMemory handled next later given h seat = record {
  holds = h.0;
  talks = talks_at Given handled next later o.answers given h.2;
  ends = λ (writer : LoggedWriterState). admits writer (result_ok seat) o.answers end.NoMemory tt;
}

receipts_at : (base : Option (List ℕ)) (handled : List Request) (next : Request) (o : OutputState) (at : Stage) (cause : LeaveCause) →
    LeavesBy base handled next o at cause → HasReceipts at o.answers
receipts_at base handled next o at why.Closed h = absurd h
receipts_at base handled next o at why.ReadFault h = absurd h
receipts_at base handled next o at why.Malformed h = has_receipts handled o.answers at h.1
receipts_at base handled next o at why.RunFull h = h.1
receipts_at base handled next o at why.NoMemory h = h.1
receipts_at base handled next o at why.Ahead h = absurd h

rests_off : (input : List ℕ) (base : Option (List ℕ)) (source : LoggedReaderState) (pushes : PushState) (o : OutputState) (at : Stage) (cause : LeaveCause) →
    LeavesOff base input o (over.Leaves at cause) → IsUnfailed source (over.Leaves at cause) → IsMet source pushes (over.Leaves at cause) →
    (seat : Result SeatState (Unit {0}))
    → RestsRead input base source pushes o seat cause
rests_off input base source pushes o at why.Closed h unfailed met seat = rests_answered input base source pushes o at why.Closed seat h
    ((met, unfailed), inl (all_read base input o at h))
rests_off input base source pushes o at why.ReadFault h unfailed met seat = rests_answered input base source pushes o at why.ReadFault seat h
    (met, inl (all_read base input o at h))
rests_off input base source pushes o at why.Malformed h unfailed met seat = record {
  holds = h.holds;
  talks = first_read input h.requests h.told o.answers at h.read h.talking;
  ends = λ (writer : LoggedWriterState). inr (
    unfailed,
    inl (record { requests = h.requests; told = h.told; fault = h.fault; read = h.read; answered = answered_so h.requests o.answers at h.talking }),
  );
}
rests_off input base source pushes o at why.RunFull h unfailed met seat = absurd h
rests_off input base source pushes o at why.Ahead h unfailed met seat = record {
  holds = h.holds;
  talks = record {
    requests = h.requests ++ h.back ∷ h.later;
    given = h.begins;
    converses =
        talk_converses h.requests (h.back ∷ h.later) o.answers at h.talking;
  };
  ends = λ (writer : LoggedWriterState). inr (
    met,
    unfailed,
    inl (record {
      requests = h.requests;
      back = h.back;
      later = h.later;
      begins = h.begins;
      full = h.full;
      answered = answered_so h.requests o.answers at h.talking;
    }),
  );
}
rests_off input base source pushes o at why.NoMemory h unfailed met seat = record {
  holds = h.holds;
  talks = record { requests = h.requests; given = h.begins; converses = h.converses };
  ends = λ (writer : LoggedWriterState). inr tt;
}

receipts_off : (base : Option (List ℕ)) (input : List ℕ) (o : OutputState) (at : Stage) (cause : LeaveCause) → LeavesOff base input o (over.Leaves at cause) →
    HasReceipts at o.answers
receipts_off base input o at why.Closed h = has_receipts h.requests o.answers at h.talking
receipts_off base input o at why.ReadFault h = has_receipts h.requests o.answers at h.talking
receipts_off base input o at why.Malformed h = has_receipts h.requests o.answers at h.talking
receipts_off base input o at why.RunFull h = absurd h
receipts_off base input o at why.Ahead h = has_receipts h.requests o.answers at h.talking
receipts_off base input o at why.NoMemory h = h.receipts

-- ---- each way to be over

same_receipts : (at : Stage) (old new : List Told) → new ≡ old → HasReceipts at old → HasReceipts at new
same_receipts at old new e h = subst (HasReceipts at) (sym e) h

leaves_with : (Given : Giving) (Ends : Reasons) → Admits Given Ends → (base : Option (List ℕ)) (old new : OutputState) (at : Stage) (cause : LeaveCause)
    (wanted : End) (left : LeftSession) → ((seat : Result SeatState (Unit {0})) → Rests Given Ends base old seat cause)
    → HasReceipts at old.answers → SendsLast old new cause wanted → LeavesWith at wanted left.seat left.end → left.last ≡ None →
    Comes Given Ends base new left.seat left.end left.last
leaves_with Given Ends admits base old new at cause wanted left rests receipts sent h none =
    left_so Given Ends admits base new wanted at left.seat left.end left.last
    (λ (seat : Result SeatState (Unit {0})). sends Given Ends admits base old new seat cause wanted (rests seat) sent)
    (ordinary_sent old new cause wanted sent)
    (same_receipts at old.answers new.answers (answers_sent old new cause wanted sent) receipts) h none

-- what a session comes to that is over so at one of its requests, or whose writer has failed
abbrev Here : OutputState → OutputState → Over → LeftSession → Type 1
Here old new found left = (Given : Giving) (Ends : Reasons) → Admits Given Ends → (base : Option (List ℕ)) → IsOverHere base Given old found →
    Comes Given Ends base new left.seat left.end left.last

-- the same of one that leaves off when no more is read
abbrev Off : OutputState → OutputState → Over → LeftSession → Type 0
Off old new found left = (base : Option (List ℕ)) (input : List ℕ) (source : LoggedReaderState) (pushes : PushState) → LeavesOff base input old found →
    IsUnfailed source found → IsMet source pushes found → ComesTo input base (session_of source pushes new left)

all_read_so : (old new : OutputState) (found : Over) (left : LeftSession) → Here old new found left → Off old new found left →
    (base : Option (List ℕ)) (input : List ℕ) (source : LoggedReaderState) (pushes : PushState) → IsOver base input source old found → IsMet source pushes found
    → ComesTo input base (session_of source pushes new left)
all_read_so old new found left here off base input source pushes (inl k) met = here (Begins input) (EndsFor input (Some source) pushes)
    (of_bytes input (Some source) pushes) base k
all_read_so old new found left here off base input source pushes (inr k) met = off base input source pushes k.0 k.1 met

both : (old new : OutputState) (found : Over) (left : LeftSession) → Here old new found left → Off old new found left → LeavesAll old new found left
both old new found left here off = record {
  here = λ base taken k. here (AreTaken taken) (EndsAt (AreTaken taken)) (of_requests taken) base k;
  read = all_read_so old new found left here off;
}

leaves_here : (old new : OutputState) (at : Stage) (cause : LeaveCause) (wanted : End) (left : LeftSession) → SendsLast old new cause wanted →
    LeavesWith at wanted left.seat left.end → left.last ≡ None → Here old new (over.Leaves at cause) left
leaves_here old new at cause wanted left sent h none Given Ends admits base (inl k) =
    leaves_with Given Ends admits base old new at cause wanted left (rests_at Given Ends admits base old at cause k.handled k.next k.later k.given k.is)
    (receipts_at base k.handled k.next old at cause k.is) sent h none
leaves_here old new at cause wanted left sent h none Given Ends admits base (inr k) = absurd k

leaves_off : (old new : OutputState) (at : Stage) (cause : LeaveCause) (wanted : End) (left : LeftSession) → SendsLast old new cause wanted →
    LeavesWith at wanted left.seat left.end → left.last ≡ None → Off old new (over.Leaves at cause) left
leaves_off old new at cause wanted left sent h none base input source pushes k unfailed met =
    leaves_with (Begins input) (EndsFor input (Some source) pushes) (of_bytes input (Some source) pushes) base old new at cause wanted left
    (rests_off input base source pushes old at cause k unfailed met) (receipts_off base input old at cause k) sent h none

pub leaves : (old new : OutputState) (at : Stage) (cause : LeaveCause) (wanted : End) (left : LeftSession) → SendsLast old new cause wanted →
    LeavesWith at wanted left.seat left.end → left.last ≡ None → LeavesAll old new (over.Leaves at cause) left
leaves old new at cause wanted left sent h none = both old new (over.Leaves at cause) left (leaves_here old new at cause wanted left sent h none)
    (leaves_off old new at cause wanted left sent h none)

stands_broken : (Given : Giving) (Ends : Reasons) → Admits Given Ends → (base : Option (List ℕ)) (o : OutputState) → Broke base o →
    AnswersFirst Given o.answers → (seat : Result SeatState (Unit {0})) → Stands Given Ends base o seat (end.WriteFault o.sent)
stands_broken Given Ends admits base o h talks seat = record {
  talks = talks;
  written = h.front;
  front = h.front;
  ends =
      admits o.sink (result_ok seat) o.answers (end.WriteFault o.sent) h.broken;
}

unwritten_here : (o : OutputState) (at : Stage) (left : LeftSession) → LeavesWith at (end.WriteFault o.sent) left.seat left.end → left.last ≡ None →
    Here o o (over.Unwritten at) left
unwritten_here o at left h none Given Ends admits base (inl k) =
    left_so Given Ends admits base o (end.WriteFault o.sent) at left.seat left.end left.last
    (stands_broken Given Ends admits base o k.is.0 (talks_at Given k.handled k.next k.later o.answers k.given k.is.2)) tt k.is.1 h none
unwritten_here o at left h none Given Ends admits base (inr k) =
    left_so Given Ends admits base o (end.WriteFault o.sent) at left.seat left.end left.last
    (stands_broken Given Ends admits base o k.broke (record { requests = k.requests; given = k.given; converses = k.converses })) tt k.receipts h none

pub unwritten : (o : OutputState) (at : Stage) (left : LeftSession) → LeavesWith at (end.WriteFault o.sent) left.seat left.end → left.last ≡ None →
    LeavesAll o o (over.Unwritten at) left
unwritten o at left h none = both o o (over.Unwritten at) left (unwritten_here o at left h none) (λ base input source pushes k unfailed met. absurd k)

-- nothing was answered
pub first_none : (Given : Giving) (requests : List Request) (answers : List Told) → Given requests → answers ≡ [] → AnswersFirst Given answers
first_none Given requests answers given none = record {
  requests = requests;
  given = given;
  converses =
      record { handled = []; later = requests; requests_are = refl; is = inl (inl (refl, none)) };
}

-- the one receipt of an opening would be the first answer
opening_told : (base : Option (List ℕ)) (Given : Giving) (o : OutputState) (handled : List Request) (next : Request) (later : List Request)
    (receipts : List Receipted) (receipt : Receipted) → Given (handled ++ next ∷ later)
    → IsUntoldOpening base (handled ++ next ∷ []) o receipts receipt → HasUntold Given receipts o.answers
opening_told base Given o handled next later receipts receipt given h = record {
  untold = receipt;
  receipts_are = h.one ∙ ap (λ (l : List Told). receipts_of l ++ receipt ∷ []) (sym h.answers);
  talks = talks_at Given handled next later (o.answers ++ told.Recorded receipt ∷ []) given
      (subst (λ (l : List Told). Converses (handled ++ next ∷ []) (l ++ told.Recorded receipt ∷ [])) (sym h.answers) h.with_it);
}

opening_hung_up : (Given : Giving) (Ends : Reasons) → Admits Given Ends → (base : Option (List ℕ)) (o : OutputState) (handled : List Request) (next : Request)
    (later : List Request) (seat spent : SeatState) (receipt : Receipted) (found : End) → Given (handled ++ next ∷ later)
    → IsUntoldOpening base (handled ++ next ∷ []) o seat.receipts receipt → IsNoError receipt.record_is.outcome → HangsUp seat end.NoMemory spent found →
    Comes Given Ends base o (Ok spent) found None
opening_hung_up Given Ends admits base o handled next later seat spent receipt found given h granted (inl k) =
    subst (λ (e : End). Comes Given Ends base o (Ok spent) e None) (sym k.1) (record {
      talks = first_none Given (handled ++ next ∷ later) o.answers given h.answers;
      written = all_written base o h.holds h.unsent;
      seated = inr (inl (record {
        before = seat.receipts;
        exit = k.0.0;
        receipts = k.0.1.receives.receipts;
        granted = subst IsGranted (sym h.one) granted;
        has_untold = opening_told base Given o handled next later seat.receipts receipt given h;
        act_is = k.0.1.act_is;
      }));
      ends = admits o.sink (Some spent) o.answers end.NoMemory tt;
    })
opening_hung_up Given Ends admits base o handled next later seat spent receipt found given h granted (inr k) =
    subst (λ (e : End). Comes Given Ends base o (Ok spent) e None) (sym k.1) (record {
      talks = first_none Given (handled ++ next ∷ later) o.answers given h.answers;
      written = (o.sent, holds_front base o h.holds);
      seated = (
        same_granted seat spent k.0 (subst IsGranted (sym h.one) granted),
        inr (subst (λ (x : SeatState). HasUntold Given x.receipts o.answers) (sym k.0)
            (opening_told base Given o handled next later seat.receipts receipt given h)),
      );
      ends = admits o.sink (Some spent) o.answers end.Foreign tt;
    })

opening_untold_here : (o : OutputState) (seat spent : SeatState) (found : End) → HangsUp seat end.NoMemory spent found →
    Here o o (over.OpeningUntold seat) (record { seat = Ok spent; end = found; last = None })
opening_untold_here o seat spent found h Given Ends admits base (inl k) = opening_hung_up Given Ends admits base o k.handled k.next k.later seat spent k.is.0
    found k.given k.is.1 k.is.2 h
opening_untold_here o seat spent found h Given Ends admits base (inr k) = absurd k

pub opening_untold : (o : OutputState) (seat spent : SeatState) (found : End) → HangsUp seat end.NoMemory spent found →
    LeavesAll o o (over.OpeningUntold seat) (record { seat = Ok spent; end = found; last = None })
opening_untold o seat spent found h = both o o (over.OpeningUntold seat) (record { seat = Ok spent; end = found; last = None })
    (opening_untold_here o seat spent found h) (λ base input source pushes k unfailed met. absurd k)

refusal_untold_here : (o : OutputState) (spent : SeatState) → Here o o (over.RefusalUntold spent) (record { seat = Ok spent; end = end.NoMemory; last = None })
unfolding opening_told
refusal_untold_here o spent Given Ends admits base (inl k) = record {
  talks = first_none Given (k.handled ++ k.next ∷ k.later) o.answers k.given k.is.1.answers;
  written = all_written base o k.is.1.holds k.is.1.unsent;
  seated = inr (inr (record {
    none = k.is.1.answers;
    has_untold = opening_told base Given o k.handled k.next k.later spent.receipts k.is.0 k.given k.is.1;
    is_error = k.is.2;
  }));
  ends = admits o.sink (Some spent) o.answers end.NoMemory tt;
}
refusal_untold_here o spent Given Ends admits base (inr k) = absurd k

pub refusal_untold : (o : OutputState) (spent : SeatState) → LeavesAll o o (over.RefusalUntold spent)
    (record { seat = Ok spent; end = end.NoMemory; last = None })
refusal_untold o spent = both o o (over.RefusalUntold spent) (record { seat = Ok spent; end = end.NoMemory; last = None }) (refusal_untold_here o spent)
    (λ base input source pushes k unfailed met. absurd k)

-- ---- the last receipt is not answered

untold_unwritten : (Given : Giving) (Ends : Reasons) → Admits Given Ends → (base : Option (List ℕ)) (o : OutputState) (receipt : Receipted)
    (seat spent : SeatState) (found : End) → AnswersFirst Given (o.answers ++ told.Recorded receipt ∷ []) → Broke base o
    → seat.receipts ≡ receipts_of (o.answers ++ told.Recorded receipt ∷ []) → IsGranted seat.receipts → HangsUp seat (end.WriteFault o.sent) spent found →
    Comes Given Ends base o (Ok spent) found (Some receipt)
untold_unwritten Given Ends admits base o receipt seat spent found talks broke receipts granted (inl k) =
    subst (λ (e : End). Comes Given Ends base o (Ok spent) e (Some receipt)) (sym k.1) (record {
      talks = talks;
      written = front_of_more base o.sink.contents o.answers (told.Recorded receipt) o.sent broke.front;
      seated = inl (exited seat spent (o.answers ++ told.Recorded receipt ∷ []) k.0 receipts granted);
      ends = admits o.sink (Some spent) (o.answers ++ told.Recorded receipt ∷ []) (end.WriteFault o.sent) broke.broken;
    })
untold_unwritten Given Ends admits base o receipt seat spent found talks broke receipts granted (inr k) =
    subst (λ (e : End). Comes Given Ends base o (Ok spent) e (Some receipt)) (sym k.1) (record {
      talks = talks;
      written = (o.sent, front_of_more base o.sink.contents o.answers (told.Recorded receipt) o.sent broke.front);
      seated = (same_granted seat spent k.0 granted, inl (ap (λ (s : SeatState). s.receipts) k.0 ∙ receipts));
      ends = admits o.sink (Some spent) (o.answers ++ told.Recorded receipt ∷ []) end.Foreign tt;
    })

untold_failed_here : (old new : OutputState) (seat spent : SeatState) (receipt : Receipted) (found : End) → FailsToSend old new →
    HangsUp seat (end.WriteFault new.sent) spent found
    → Here old new (over.Untold seat receipt) (record { seat = Ok spent; end = found; last = Some receipt })
untold_failed_here old new seat spent receipt found fails h Given Ends admits base (inl k) =
    let told_with : List Told → List Told = λ l. l ++ told.Recorded receipt ∷ [] in
    let receipts : seat.receipts ≡ receipts_of (told_with new.answers) =
    k.is.receipts_are ∙ sym (receipts_more old.answers (told_with old.answers) (told.Recorded receipt) refl) ∙ ap (λ (l : List Told). receipts_of (told_with l))
    (sym fails.answers) in
    let talks = talks_at Given k.handled k.next k.later (told_with old.answers) k.given k.is.with_it in
    untold_unwritten Given Ends admits base new receipt seat spent found (subst (λ (l : List Told). AnswersFirst Given (told_with l)) (sym fails.answers) talks)
    (fails.breaks base k.is.holds) receipts k.is.granted h
untold_failed_here old new seat spent receipt found fails h Given Ends admits base (inr k) = absurd k

pub untold_failed : (old new : OutputState) (seat spent : SeatState) (receipt : Receipted) (found : End) → FailsToSend old new →
    HangsUp seat (end.WriteFault new.sent) spent found
    → LeavesAll old new (over.Untold seat receipt) (record { seat = Ok spent; end = found; last = Some receipt })
untold_failed old new seat spent receipt found fails h =
    both old new (over.Untold seat receipt) (record { seat = Ok spent; end = found; last = Some receipt })
    (untold_failed_here old new seat spent receipt found fails h) (λ base input source pushes k unfailed met. absurd k)

untold_written : (Given : Giving) (Ends : Reasons) → Admits Given Ends → (base : Option (List ℕ)) (o : OutputState) (receipt : Receipted)
    (seat spent : SeatState) (found : End) → AnswersFirst Given o.answers → Holds base o → o.unsent ≡ [] → HasUntold Given seat.receipts o.answers
    → IsGranted seat.receipts → HangsUp seat end.NoMemory spent found → Comes Given Ends base o (Ok spent) found None
untold_written Given Ends admits base o receipt seat spent found talks holds all untold granted (inl k) =
    subst (λ (e : End). Comes Given Ends base o (Ok spent) e None) (sym k.1) (record {
      talks = talks;
      written = all_written base o holds all;
      seated = inr (inl (record {
        before = seat.receipts;
        exit = k.0.0;
        receipts = k.0.1.receives.receipts;
        granted = granted;
        has_untold = untold;
        act_is =
            k.0.1.act_is;
      }));
      ends = admits o.sink (Some spent) o.answers end.NoMemory tt;
    })
untold_written Given Ends admits base o receipt seat spent found talks holds all untold granted (inr k) =
    subst (λ (e : End). Comes Given Ends base o (Ok spent) e None) (sym k.1) (record {
      talks = talks;
      written = (o.sent, holds_front base o holds);
      seated = (same_granted seat spent k.0 granted, inr (subst (λ (x : SeatState). HasUntold Given x.receipts o.answers) (sym k.0) untold));
      ends = admits o.sink (Some spent) o.answers end.Foreign tt;
    })

untold_sent_here : (old new : OutputState) (seat spent : SeatState) (receipt : Receipted) (found : End) → SendsAll old new →
    HangsUp seat end.NoMemory spent found → Here old new (over.Untold seat receipt) (record { seat = Ok spent; end = found; last = None })
untold_sent_here old new seat spent receipt found sent h Given Ends admits base (inl k) =
    let untold : HasUntold Given seat.receipts old.answers = record {
      untold = receipt;
      receipts_are = k.is.receipts_are;
      talks = talks_at Given k.handled k.next k.later (old.answers ++ told.Recorded receipt ∷ []) k.given k.is.with_it;
    } in
    untold_written Given Ends admits base new receipt seat spent found
    (subst (AnswersFirst Given) (sym sent.flushes.answers) (talks_at Given k.handled k.next k.later old.answers k.given k.is.without))
    (sent.flushes.holds base k.is.holds) sent.all
    (subst (HasUntold Given seat.receipts) (sym sent.flushes.answers) untold) k.is.granted h
untold_sent_here old new seat spent receipt found sent h Given Ends admits base (inr k) = absurd k

pub untold_sent : (old new : OutputState) (seat spent : SeatState) (receipt : Receipted) (found : End) → SendsAll old new →
    HangsUp seat end.NoMemory spent found → LeavesAll old new (over.Untold seat receipt) (record { seat = Ok spent; end = found; last = None })
untold_sent old new seat spent receipt found sent h =
    both old new (over.Untold seat receipt) (record { seat = Ok spent; end = found; last = None }) (untold_sent_here old new seat spent receipt found sent h)
    (λ base input source pushes k unfailed met. absurd k)

-- ---- the process has ended already

-- a refused opening, and one whose process has exited, at the ends that they may have
refused_seat : (Given : Giving) (old new : OutputState) (cause : LeaveCause) (wanted : End) (spent : SeatState) → cause ≡ why.Closed →
    SendsLast old new cause wanted → IsRefusedOpening spent new.answers → IsSeatOf Given spent new.answers wanted
refused_seat Given old new cause wanted spent e (inl h) k = subst (IsSeatOf Given spent new.answers) (sym (h.1 ∙ ap end_of e)) (inr k)
refused_seat Given old new cause wanted spent e (inr h) k = subst (IsSeatOf Given spent new.answers) (sym h.1) (inr k)

exited_seat : (Given : Giving) (old new : OutputState) (cause : LeaveCause) (wanted : End) (spent : SeatState) → SendsLast old new cause wanted →
    HasExited spent old.answers → IsSeatOf Given spent new.answers wanted
exited_seat Given old new cause wanted spent sent h =
    seat_exited Given wanted spent new.answers (ordinary_sent old new cause wanted sent)
    (subst (HasExited spent) (sym (answers_sent old new cause wanted sent)) h)

refused_here : (old new : OutputState) (spent : SeatState) (wanted : End) → SendsLast old new why.Closed wanted →
    Here old new (over.Refused spent) (record { seat = Ok spent; end = wanted; last = None })
refused_here old new spent wanted sent Given Ends admits base (inl k) =
    let rests : Rests Given Ends base old (Ok spent) why.Closed = record {
      holds = k.is.0;
      talks = talks_at Given k.handled k.next k.later old.answers k.given (talked_converses (k.handled ++ k.next ∷ []) old.answers k.is.2);
      ends = λ (writer : LoggedWriterState). admits writer (Some spent) old.answers end.Closed (spent, refl, k.is.1);
    } in
    spent_so Given Ends base new spent wanted (sends Given Ends admits base old new (Ok spent) why.Closed wanted rests sent)
    (refused_seat Given old new why.Closed wanted spent refl sent (subst (IsRefusedOpening spent) (sym (answers_sent old new why.Closed wanted sent)) k.is.1))
refused_here old new spent wanted sent Given Ends admits base (inr k) = absurd k

pub refused : (old new : OutputState) (spent : SeatState) (wanted : End) → SendsLast old new why.Closed wanted →
    LeavesAll old new (over.Refused spent) (record { seat = Ok spent; end = wanted; last = None })
refused old new spent wanted sent = both old new (over.Refused spent) (record { seat = Ok spent; end = wanted; last = None })
    (refused_here old new spent wanted sent) (λ base input source pushes k unfailed met. absurd k)

-- the call that waited is given up, and no more is read
cut_off : (input : List ℕ) (base : Option (List ℕ)) (o : OutputState) (spent : SeatState) → IsCutOff base input o spent →
    AnswersToCut (Begins input) o.answers None
cut_off input base o spent k = record { requests = k.requests; later = k.later; given = k.begins; cut = k.is.cut }

first_cut : (input : List ℕ) (base : Option (List ℕ)) (o : OutputState) (spent : SeatState) → IsCutOff base input o spent →
    AnswersFirst (Begins input) o.answers
first_cut input base o spent k = record {
  requests = k.requests ++ k.later;
  given = k.begins;
  converses = converses_more k.requests k.later o.answers
      (cut_converses k.requests o.answers None k.is.cut);
}

ahead_off : (input : List ℕ) (base : Option (List ℕ)) (o : OutputState) (spent : SeatState) → IsCutAhead base input o spent → IsCutOff base input o spent
ahead_off input base o spent h = record { requests = h.requests; later = h.behind ++ h.back ∷ h.later; begins = h.begins; is = h.is }

rests_cut : (input : List ℕ) (base : Option (List ℕ)) (source : LoggedReaderState) (pushes : PushState) (o : OutputState) (spent : SeatState)
    (cause : LeaveCause) → LeavesOff base input o (over.GivenUp spent cause) → IsUnfailed source (over.GivenUp spent cause) →
    IsMet source pushes (over.GivenUp spent cause)
    → RestsRead input base source pushes o (Ok spent) cause
rests_cut input base source pushes o spent why.Closed h unfailed met = record {
  holds = h.0.is.holds;
  talks = first_cut input base o spent h.0;
  ends =
      λ (writer : LoggedWriterState). inr ((met, unfailed), inr (h.1, cut_off input base o spent h.0));
}
rests_cut input base source pushes o spent why.ReadFault h unfailed met = record {
  holds = h.0.is.holds;
  talks = first_cut input base o spent h.0;
  ends =
      λ (writer : LoggedWriterState). inr (met, inr (h.1, cut_off input base o spent h.0));
}
rests_cut input base source pushes o spent why.Malformed h unfailed met = record {
  holds = h.0.is.holds;
  talks = first_cut input base o spent h.0;
  ends =
      λ (writer : LoggedWriterState). inr (unfailed, inr (h.1, cut_off input base o spent h.0));
}
rests_cut input base source pushes o spent why.RunFull h unfailed met = absurd h
rests_cut input base source pushes o spent why.NoMemory h unfailed met = record {
  holds = h.is.holds;
  talks = first_cut input base o spent h;
  ends =
      λ (writer : LoggedWriterState). inr tt;
}
rests_cut input base source pushes o spent why.Ahead h unfailed met = record {
  holds = h.is.holds;
  talks = first_cut input base o spent (ahead_off input base o spent h);
  ends = λ (writer : LoggedWriterState). inr (
    met,
    unfailed,
    inr (record {
      requests = h.requests;
      behind = h.behind;
      back = h.back;
      later = h.later;
      begins = h.begins;
      full = h.full;
      cut = h.is.cut;
    }),
  );
}

exited_cut : (input : List ℕ) (base : Option (List ℕ)) (o : OutputState) (spent : SeatState) (cause : LeaveCause) →
    LeavesOff base input o (over.GivenUp spent cause) → HasExited spent o.answers
exited_cut input base o spent why.Closed h = h.0.is.exited
exited_cut input base o spent why.ReadFault h = h.0.is.exited
exited_cut input base o spent why.Malformed h = h.0.is.exited
exited_cut input base o spent why.RunFull h = absurd h
exited_cut input base o spent why.NoMemory h = h.is.exited
exited_cut input base o spent why.Ahead h = h.is.exited

given_up_here : (old new : OutputState) (spent : SeatState) (cause : LeaveCause) (wanted : End) →
    Here old new (over.GivenUp spent cause) (record { seat = Ok spent; end = wanted; last = None })
given_up_here old new spent cause wanted Given Ends admits base (inl k) = absurd k.is
given_up_here old new spent cause wanted Given Ends admits base (inr k) = absurd k

given_up_off : (old new : OutputState) (spent : SeatState) (cause : LeaveCause) (wanted : End) → SendsLast old new cause wanted →
    Off old new (over.GivenUp spent cause) (record { seat = Ok spent; end = wanted; last = None })
given_up_off old new spent cause wanted sent base input source pushes off unfailed met =
    spent_so (Begins input) (EndsFor input (Some source) pushes) base new spent wanted
    (sends (Begins input) (EndsFor input (Some source) pushes) (of_bytes input (Some source) pushes) base old new (Ok spent) cause wanted
    (rests_cut input base source pushes old spent cause off unfailed met) sent)
    (exited_seat (Begins input) old new cause wanted spent sent (exited_cut input base old spent cause off))

pub given_up : (old new : OutputState) (spent : SeatState) (cause : LeaveCause) (wanted : End) → SendsLast old new cause wanted →
    LeavesAll old new (over.GivenUp spent cause) (record { seat = Ok spent; end = wanted; last = None })
given_up old new spent cause wanted sent =
    both old new (over.GivenUp spent cause) (record { seat = Ok spent; end = wanted; last = None }) (given_up_here old new spent cause wanted)
    (given_up_off old new spent cause wanted sent)

ended_rests : (Given : Giving) (Ends : Reasons) → Admits Given Ends → (base : Option (List ℕ)) (o : OutputState) (seat : Result SeatState (Unit {0}))
    (spent : SeatState) (cause : LeaveCause) (handled : List Request) (next : Request) (later : List Request) → Given (handled ++ next ∷ later)
    → EndedBy base (handled ++ next ∷ []) o spent cause → Rests Given Ends base o seat cause
ended_rests Given Ends admits base o seat spent why.Closed handled next later given h = absurd h
ended_rests Given Ends admits base o seat spent why.ReadFault handled next later given h = absurd h
ended_rests Given Ends admits base o seat spent why.Malformed handled next later given h = absurd h
ended_rests Given Ends admits base o seat spent why.Ahead handled next later given h = absurd h
ended_rests Given Ends admits base o seat spent why.RunFull handled next later given h = record {
  holds = h.0;
  talks = cut_at Given handled next later o.answers (Some refusal.RunFull) given h.2;
  ends = λ (writer : LoggedWriterState). admits writer (result_ok seat) o.answers end.RunFull
      (inr (to_cut Given handled next later o.answers (Some refusal.RunFull) given h.2));
}
ended_rests Given Ends admits base o seat spent why.NoMemory handled next later given h = record {
  holds = h.0;
  talks = cut_at Given handled next later o.answers h.2.0 given h.2.1;
  ends = λ (writer : LoggedWriterState). admits writer (result_ok seat) o.answers end.NoMemory tt;
}

ended_exited : (base : Option (List ℕ)) (requests : List Request) (o : OutputState) (spent : SeatState) (cause : LeaveCause) →
    EndedBy base requests o spent cause → HasExited spent o.answers
ended_exited base requests o spent why.Closed h = absurd h
ended_exited base requests o spent why.ReadFault h = absurd h
ended_exited base requests o spent why.Malformed h = absurd h
ended_exited base requests o spent why.Ahead h = absurd h
ended_exited base requests o spent why.RunFull h = h.1
ended_exited base requests o spent why.NoMemory h = h.1

ended_here : (old new : OutputState) (spent : SeatState) (cause : LeaveCause) (wanted : End) → SendsLast old new cause wanted →
    Here old new (over.Ended spent cause) (record { seat = Ok spent; end = wanted; last = None })
ended_here old new spent cause wanted sent Given Ends admits base (inl k) =
    spent_so Given Ends base new spent wanted
    (sends Given Ends admits base old new (Ok spent) cause wanted
    (ended_rests Given Ends admits base old (Ok spent) spent cause k.handled k.next k.later k.given k.is) sent)
    (exited_seat Given old new cause wanted spent sent (ended_exited base (k.handled ++ k.next ∷ []) old spent cause k.is))
ended_here old new spent cause wanted sent Given Ends admits base (inr k) = absurd k

pub ended : (old new : OutputState) (spent : SeatState) (cause : LeaveCause) (wanted : End) → SendsLast old new cause wanted →
    LeavesAll old new (over.Ended spent cause) (record { seat = Ok spent; end = wanted; last = None })
ended old new spent cause wanted sent = both old new (over.Ended spent cause) (record { seat = Ok spent; end = wanted; last = None })
    (ended_here old new spent cause wanted sent) (λ base input source pushes k unfailed met. absurd k)

foreign_here : (o : OutputState) (spent : SeatState) → Here o o (over.Foreign spent) (record { seat = Ok spent; end = end.Foreign; last = None })
foreign_here o spent Given Ends admits base (inl k) = record {
  talks = cut_at Given k.handled k.next k.later o.answers None k.given k.is.2;
  written = (o.sent, holds_front base o k.is.0);
  seated = (k.is.3, inl k.is.1);
  ends = admits o.sink (Some spent) o.answers end.Foreign tt;
}
foreign_here o spent Given Ends admits base (inr k) = absurd k

pub foreign : (o : OutputState) (spent : SeatState) → LeavesAll o o (over.Foreign spent) (record { seat = Ok spent; end = end.Foreign; last = None })
foreign o spent = both o o (over.Foreign spent) (record { seat = Ok spent; end = end.Foreign; last = None }) (foreign_here o spent)
    (λ base input source pushes k unfailed met. absurd k)
