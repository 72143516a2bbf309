-- What a session has come to: what it read, what it answered and wrote, and why it ended (own).
use Rattle.std.specs.Prelude.{◌≡◌, ℕ, ◌≤◌, ◌⊎◌, Bool, true, false, List, [], ◌∷◌, ◌++◌, Option, None, Some, length}
use Rattle.std.specs.Io.KnownBytes.{Appends, Consumes, IsAtEnd}
use Rattle.call_types.specs.declared.act.Act.TheVariants as act
use Rattle.call_types.specs.declared.refusal.Refusal.{Refusal}
use Rattle.call_types.specs.declared.refusal.Refusal.TheVariants as refusal
use Rattle.call_types.specs.declared.request.Request.{Request}
use Rattle.call_types.specs.declared.request.Request.TheVariants as request
use Rattle.frame_codec.specs.declared.decoder.Progress.{Progress}
use Rattle.frame_codec.specs.declared.decoder.Progress.TheVariants as progress
use Rattle.record_book.specs.Seat.{Receipted, SeatState}
use Rattle.system_lock.specs.Kernel.{AsksForASeat, IsError, IsNoError}
use Rattle.logged_streams.specs.declared.stream_log.TheConstants.{INTERRUPTIONS_MAX}
use Rattle.request_pump.specs.Input.{Begins, AreRequests, IsFault}
use Rattle.request_pump.specs.Pushes.{PushState}
use Rattle.request_pump.specs.declared.pump.TheConstants.{READS_MAX}
use Rattle.session_core.specs.declared.serve.TheConstants.{REQUESTS_AHEAD}
use Rattle.session_core.specs.declared.end.End.{End}
use Rattle.session_core.specs.declared.end.End.TheVariants as end
use Rattle.session_core.specs.declared.told.Told.{Told}
use Rattle.session_core.specs.declared.told.Told.TheVariants as told
use Rattle.session_core.specs.Answers.{answers_text, receipts_of, IsFrontWritten}
use Rattle.logged_streams.specs.Streams.{LogState, LoggedReaderState, LoggedWriterState, fresh_log, one_more, IsWrittenNoMore, IsReadNoMore}
use Rattle.session_core.specs.Talk.{AreAnswered, Converses, IsCut}

-- ---- what was read

-- what a session's reader has left is told, where the reader is handed back: these bytes were read; of one that is gone, none
abbrev pub HasRead : Option (List ℕ) → Option LoggedReaderState → List ℕ → Type 0
HasRead from None input = input ≡ []
HasRead from (Some reader) input = Consumes from reader.remaining input

-- a reader that is handed back is at its end, and no read failed
abbrev pub IsReadToEnd : Option LoggedReaderState → Type 0
IsReadToEnd None = ⊥
IsReadToEnd (Some reader) = IsAtEnd reader.remaining × (reader.log.failed ≡ false)

-- what became of the reads: of a reader that is gone there were none
abbrev pub reads_of : Option LoggedReaderState → LogState
reads_of None = fresh_log
reads_of (Some reader) = reader.log

-- the reader is gone just where no thread could be started for it
abbrev pub KeepsReader : Option LoggedReaderState → End → Type 0
KeepsReader None found = found ≡ end.NoThread
KeepsReader (Some reader) end.NoThread = ⊥
KeepsReader (Some reader) other = Unit {0}

-- the bytes that were read have no fault
pub record HasNoFault (input : List ℕ) : Type 0 where
  pub requests : List Request
  pub read : AreRequests input requests progress.More

-- they have one
pub record HasFault (input : List ℕ) : Type 0 where
  pub requests : List Request
  pub told : Progress
  pub fault : IsFault told
  pub read : AreRequests input requests told

-- a request that has no place after these
abbrev pub IsMisplaced : List Request → Request → Type 0
IsMisplaced [] request.Join = ⊥
IsMisplaced [] (request.Attach process) = ⊥
IsMisplaced [] (request.Call call) = Unit {0}
IsMisplaced (one ∷ more) next = AsksForASeat next

-- ---- what was answered: `Given` says of requests that they are what was given first

-- just these requests were taken
abbrev pub AreTaken : List Request → List Request → Type 0
AreTaken taken requests = requests ≡ taken

-- the answers belong to the first requests, in order
pub record AnswersFirst (Given : List Request → Type 0) (answers : List Told) : Type 0 where
  pub requests : List Request
  pub given : Given requests
  pub converses : Converses requests answers

-- the bytes have no fault, and each of their requests is answered
pub record AnswersAll (input : List ℕ) (answers : List Told) : Type 0 where
  pub requests : List Request
  pub read : AreRequests input requests progress.More
  pub answered : AreAnswered requests answers

-- each request before a fault is answered
pub record AnswersToFault (input : List ℕ) (answers : List Told) : Type 0 where
  pub requests : List Request
  pub told : Progress
  pub fault : IsFault told
  pub read : AreRequests input requests told
  pub answered : AreAnswered requests answers

-- each request is answered before one that has no place there
pub record AnswersToMisplaced (Given : List Request → Type 0) (answers : List Told) : Type 0 where
  pub requests : List Request
  pub next : Request
  pub later : List Request
  pub given : Given (requests ++ next ∷ later)
  pub answered : AreAnswered requests answers
  pub misplaced : IsMisplaced requests next

-- each request is answered before one that comes after at least as many as the ring has room for
pub record AnswersToAhead (input : List ℕ) (answers : List Told) : Type 0 where
  pub requests : List Request
  pub back : Request
  pub later : List Request
  pub begins : Begins input (requests ++ back ∷ later)
  pub full : REQUESTS_AHEAD ≤ length requests
  pub answered : AreAnswered requests answers

-- each request is answered before a call that waits and is given up; behind that one comes another, after at least as many as the ring has room for
pub record AnswersToCutAhead (input : List ℕ) (answers : List Told) : Type 0 where
  pub requests : List Request
  pub behind : List Request
  pub back : Request
  pub later : List Request
  pub begins : Begins input (requests ++ (behind ++ back ∷ later))
  pub full : REQUESTS_AHEAD ≤ length (requests ++ behind)
  pub cut : IsCut requests answers None

-- each request is answered before a call that waits and is given up
pub record AnswersToCut (Given : List Request → Type 0) (answers : List Told) (given_up : Option Refusal) : Type 0 where
  pub requests : List Request
  pub later : List Request
  pub given : Given (requests ++ later)
  pub cut : IsCut requests answers given_up

-- ---- the seat

-- the first of these receipts, which is that of the opening, is no error
abbrev pub IsGranted : List Receipted → Type 0
IsGranted [] = ⊥
IsGranted (first ∷ more) = IsNoError first.record_is.outcome

-- the receipts of the seat are those of the answers, of which the first is that of an opening that is no error, and that of the exit
pub record HasExited (seat : SeatState) (answers : List Told) : Type 0 where
  pub exit : Receipted
  pub receipts : seat.receipts ≡ receipts_of answers ++ exit ∷ []
  pub granted : IsGranted (receipts_of answers)
  pub act_is : exit.record_is.act ≡ act.Exit

-- the receipts are those of the answers, and one that would be the next answer, for which memory ran out
pub record HasUntold (Given : List Request → Type 0) (receipts : List Receipted) (answers : List Told) : Type 0 where
  pub untold : Receipted
  pub receipts_are : receipts ≡ receipts_of answers ++ untold ∷ []
  pub talks : AnswersFirst Given (answers ++ told.Recorded untold ∷ [])

-- such receipts, and after them that of the exit
pub record HasExitedUntold (Given : List Request → Type 0) (seat : SeatState) (answers : List Told) : Type 0 where
  pub before : List Receipted
  pub exit : Receipted
  pub receipts : seat.receipts ≡ before ++ exit ∷ []
  pub granted : IsGranted before
  pub has_untold : HasUntold Given before answers
  pub act_is : exit.record_is.act ≡ act.Exit

-- the opening is refused in the record: its one receipt is that of an error, and is answered
pub record IsRefusedOpening (seat : SeatState) (answers : List Told) : Type 0 where
  pub receipt : Receipted
  pub receipts : seat.receipts ≡ receipt ∷ []
  pub answers_are : answers ≡ told.Recorded receipt ∷ []
  pub is_error : IsError receipt.record_is.outcome

-- the same, where memory ran out for the answer
pub record IsRefusedUntold (Given : List Request → Type 0) (seat : SeatState) (answers : List Told) : Type 0 where
  pub none : answers ≡ []
  pub has_untold : HasUntold Given seat.receipts answers
  pub is_error : IsError has_untold.untold.record_is.outcome

-- no exit is recorded: the receipts of the seat, of which the first is no error, are those of the answers, and at most one that would be the next answer
abbrev pub HasNoExit : (List Request → Type 0) → SeatState → List Told → Type 0
HasNoExit Given seat answers = IsGranted seat.receipts × ((seat.receipts ≡ receipts_of answers) ⊎ HasUntold Given seat.receipts answers)

-- the receipts of a seat, at each end
abbrev pub IsSeatOf : (List Request → Type 0) → SeatState → List Told → End → Type 0
IsSeatOf Given seat answers end.Closed = HasExited seat answers ⊎ IsRefusedOpening seat answers
IsSeatOf Given seat answers end.ReadFault = HasExited seat answers
IsSeatOf Given seat answers (end.WriteFault sent) = HasExited seat answers ⊎ IsRefusedOpening seat answers
IsSeatOf Given seat answers end.Malformed = HasExited seat answers
IsSeatOf Given seat answers end.Ahead = HasExited seat answers
IsSeatOf Given seat answers end.RunFull = HasExited seat answers
IsSeatOf Given seat answers end.NoMemory = HasExited seat answers ⊎ (HasExitedUntold Given seat answers ⊎ IsRefusedUntold Given seat answers)
IsSeatOf Given seat answers end.Foreign = HasNoExit Given seat answers
IsSeatOf Given seat answers end.NoThread = ⊥

-- without a seat no answer has a receipt
abbrev pub IsSeated : (List Request → Type 0) → Option SeatState → List Told → End → Type 0
IsSeated Given None answers end.Foreign = ⊥
IsSeated Given None answers other = receipts_of answers ≡ []
IsSeated Given (Some seat) answers end = IsSeatOf Given seat answers end

-- ---- what was written

-- all answers are written; where the writer failed or the kernel does not know the seat, the first bytes of their text are
abbrev pub IsWritten : Option (List ℕ) → Option (List ℕ) → List Told → End → Type 0
IsWritten old new answers (end.WriteFault sent) = IsFrontWritten old new answers sent
IsWritten old new answers end.Foreign = (sent : ℕ) × IsFrontWritten old new answers sent
IsWritten old new answers other = Appends old new (answers_text answers)

-- ---- why it ended

-- a session that is over: its reader, if that is handed back, and its writer, each with what became of its calls; what its ring gave back; its seat, its answers and its end
pub record SessionState : Type 0 where
  pub reader : Option LoggedReaderState
  pub writer : LoggedWriterState
  pub pushes : PushState
  pub seat : Option SeatState
  pub answers : List Told
  pub end_is : End

-- the opening is refused in the record
abbrev pub IsTurnedAway : Option SeatState → List Told → Type 0
IsTurnedAway seat answers = (spent : SeatState) × (seat ≡ Some spent) × IsRefusedOpening spent answers

-- the bytes have no fault, and each of their requests is answered, or each up to a call that waits and is given up
abbrev pub AnswersAllOrCut : List ℕ → List Told → Type 0
AnswersAllOrCut input answers = AnswersAll input answers ⊎ (HasNoFault input × AnswersToCut (Begins input) answers None)

-- the bytes have a fault, and no read failed
abbrev pub IsFaulty : List ℕ → Option LoggedReaderState → List Told → Type 0
IsFaulty input reader answers = ((reads_of reader).failed ≡ false) ×
    (AnswersToFault input answers ⊎ (HasFault input × AnswersToCut (Begins input) answers None))

-- a request came after at least as many as the ring has room for, and the ring gave it back, and once more when room had been asked for; no read failed
abbrev pub IsOverrun : List ℕ → Option LoggedReaderState → PushState → List Told → Type 0
IsOverrun input reader pushes answers = (pushes.in_a_row ≡ 2) × ((reads_of reader).failed ≡ false) ×
    (AnswersToAhead input answers ⊎ AnswersToCutAhead input answers)

-- the run was full for the opening, or when the call that waited could go on
abbrev pub IsRunFull : (List Request → Type 0) → List Told → Type 0
IsRunFull Given answers = (answers ≡ told.Refused refusal.RunFull ∷ []) ⊎ AnswersToCut Given answers (Some refusal.RunFull)

-- nothing was read, there is no seat, and nothing is answered
abbrev pub IsUnstarted : List ℕ → Option SeatState → List Told → Type 0
IsUnstarted input seat answers = (input ≡ []) × (seat ≡ None) × (answers ≡ [])

-- why a session ends at one of the requests that it is given. Nothing is said here of want of memory, and of a seat that the kernel does not know
abbrev pub EndsAt : (List Request → Type 0) → LoggedWriterState → Option SeatState → List Told → End → Type 0
EndsAt Given writer seat answers end.Closed = IsTurnedAway seat answers
EndsAt Given writer seat answers end.ReadFault = ⊥
EndsAt Given writer seat answers (end.WriteFault sent) = IsWrittenNoMore writer.log
EndsAt Given writer seat answers end.Malformed = AnswersToMisplaced Given answers
EndsAt Given writer seat answers end.Ahead = ⊥
EndsAt Given writer seat answers end.RunFull = IsRunFull Given answers
EndsAt Given writer seat answers end.NoMemory = Unit {0}
EndsAt Given writer seat answers end.Foreign = Unit {0}
EndsAt Given writer seat answers end.NoThread = ⊥

-- why it ends when no more is read. Nothing is said here of want of memory
abbrev pub EndsAfter : List ℕ → Option LoggedReaderState → PushState → Option SeatState → List Told → End → Type 0
EndsAfter input reader pushes seat answers end.Closed = IsReadToEnd reader × AnswersAllOrCut input answers
EndsAfter input reader pushes seat answers end.ReadFault = IsReadNoMore READS_MAX (reads_of reader) × AnswersAllOrCut input answers
EndsAfter input reader pushes seat answers end.Malformed = IsFaulty input reader answers
EndsAfter input reader pushes seat answers end.Ahead = IsOverrun input reader pushes answers
EndsAfter input reader pushes seat answers end.NoMemory = Unit {0}
EndsAfter input reader pushes seat answers end.NoThread = IsUnstarted input seat answers
EndsAfter input reader pushes seat answers other = ⊥

-- why a session ends that read these bytes
abbrev pub EndsFor : List ℕ → Option LoggedReaderState → PushState → LoggedWriterState → Option SeatState → List Told → End → Type 0
EndsFor input reader pushes writer seat answers found = EndsAt (Begins input) writer seat answers found ⊎ EndsAfter input reader pushes seat answers found

-- what a session comes to: the requests that it was given, why it ends, and what its writer held before
pub record ComesBy (Given : List Request → Type 0) (Ends : LoggedWriterState → Option SeatState → List Told → End → Type 0) (base : Option (List ℕ))
    (writer : LoggedWriterState) (seat : Option SeatState) (answers : List Told) (found : End) : Type 0 where
  pub talks : AnswersFirst Given answers
  pub written : IsWritten base writer.contents answers found
  pub seated : IsSeated Given seat answers found
  pub ends : Ends writer seat answers found

-- the same of one that read these bytes
abbrev pub ComesTo : List ℕ → Option (List ℕ) → SessionState → Type 0
ComesTo input base s = ComesBy (Begins input) (EndsFor input s.reader s.pushes) base s.writer s.seat s.answers s.end_is

-- how many threads its starter could not start, where they were so many before: one more where the session has no thread, and as many where it has another end
abbrev pub failures_after : End → ℕ → ℕ
failures_after end.NoThread failures = one_more failures
failures_after other failures = failures

-- what a session comes to, where this is what its reader had and its writer held at the start; a gate that always says yes has refused no answer
pub record Serves (always : Bool) (from base : Option (List ℕ)) (s : SessionState) : Type 0 where
  pub input : List ℕ
  pub consumes : HasRead from s.reader input
  pub kept : KeepsReader s.reader s.end_is
  pub few_reads : (reads_of s.reader).calls ≤ READS_MAX
  pub few_interrupted : ((reads_of s.reader).interruptions ≤ INTERRUPTIONS_MAX) × (s.writer.log.interruptions ≤ INTERRUPTIONS_MAX)
  pub let_through : always ≡ true → s.writer.log.refusals ≡ 0
  pub comes : ComesTo input base s
