-- Each act of a session's receipts has its fields in range.
use Rattle.std.proofs.Common.{ℕ, ◌≡◌, inl, inr, List, [], ◌∷◌, ◌++◌, Option, None, Some, sym, ◌∙◌, ap, subst}
use Rattle.std.specs.List.{AllByRecursion}
use Rattle.call_types.specs.declared.act.Act.{Act}
use Rattle.call_types.specs.declared.act.Act.TheVariants as act
use Rattle.call_types.specs.declared.call.Call.{Call}
use Rattle.call_types.specs.declared.refusal.Refusal.{Refusal}
use Rattle.call_types.specs.declared.request.Request.{Request}
use Rattle.call_types.specs.declared.request.Request.TheVariants as request
use Rattle.frame_codec.specs.Frames.{AreFrames}
use Rattle.frame_codec.specs.Records.{ActFits}
use Rattle.frame_codec.specs.Requests.{RequestFits, SpellsRequest}
use Rattle.record_book.specs.Seat.{Receipted, SeatState}
use Rattle.request_pump.specs.Input.{Begins}
use Rattle.session_core.specs.declared.end.End.{End}
use Rattle.session_core.specs.declared.end.End.TheVariants as end
use Rattle.session_core.specs.declared.told.Told.{Told}
use Rattle.session_core.specs.declared.told.Told.TheVariants as told
use Rattle.session_core.specs.Answers.{receipts_of}
use Rattle.session_core.specs.Talk.{IsWaiting, AnswersCall, AreParts, AreCalls, Group, IsCallGroup, IsRecordOf, IsOpened, requests_of, told_of_all, Talked, Waits, told_last, IsCut, IsConversation}
use Rattle.session_core.specs.Served.{AnswersFirst, HasExited, HasUntold, HasExitedUntold, IsRefusedOpening, IsSeatOf, IsSeated}
use Rattle.session_core.specs.Proved.Laws.{ActsFit, SeatFits, ActsOfSeatsFit}

-- ---- lists

all_joined : {A : Type 0} (P : A → Type 0) (xs ys : List A) → AllByRecursion P xs → AllByRecursion P ys → AllByRecursion P (xs ++ ys)
all_joined P [] ys h k = k
all_joined P (x ∷ xs) ys h k = (h.0, all_joined P xs ys h.1 k)

all_first : {A : Type 0} (P : A → Type 0) (xs ys : List A) → AllByRecursion P (xs ++ ys) → AllByRecursion P xs
all_first P [] ys h = tt
all_first P (x ∷ xs) ys h = (h.0, all_first P xs ys h.1)

all_last : {A : Type 0} (P : A → Type 0) (xs ys : List A) → AllByRecursion P (xs ++ ys) → AllByRecursion P ys
all_last P [] ys h = h
all_last P (x ∷ xs) ys h = all_last P xs ys h.1

-- ---- requests

-- requests with their fields in range
abbrev RequestsFit : List Request → Type 0
RequestsFit requests = AllByRecursion RequestFits requests

frames_fit : (most : ℕ) (requests : List Request) (text : List ℕ) → AreFrames SpellsRequest most requests text → RequestsFit requests
frames_fit most [] text h = tt
frames_fit most (next ∷ requests) text h = (h.3.spelled.0, frames_fit most requests h.1 h.4)

-- ---- what is told

-- the act of a receipt has its fields in range, if a receipt is told
abbrev ToldFits : Told → Type 0
ToldFits (told.Recorded receipt) = ActFits receipt.record_is.act
ToldFits (told.Refused refusal) = Unit {0}

abbrev AllToldFit : List Told → Type 0
AllToldFit all = AllByRecursion ToldFits all

receipts_fit : (all : List Told) → AllToldFit all → ActsFit (receipts_of all)
receipts_fit [] h = tt
receipts_fit (told.Recorded receipt ∷ all) h = (h.0, receipts_fit all h.1)
receipts_fit (told.Refused refusal ∷ all) h = receipts_fit all h.1

-- ---- a call

-- the act of a call, and a resume
call_act_fits : (call : Call) (found : Act) → found ≡ act.Call call → RequestFits (request.Call call) → ActFits found
call_act_fits call found e fits = subst ActFits (sym e) fits

resume_fits : (found : Act) → found ≡ act.Resume → ActFits found
resume_fits found e = subst ActFits (sym e) tt

exit_fits : (found : Act) → found ≡ act.Exit → ActFits found
exit_fits found e = subst ActFits (sym e) tt

parts_fit : (parts : List Told) → AreParts parts → AllToldFit parts
parts_fit [] h = tt
parts_fit (told.Recorded receipt ∷ parts) h = (resume_fits receipt.record_is.act h.0.0, parts_fit parts h.1)
parts_fit (told.Refused refusal ∷ parts) h = absurd h.0

waiting_fits : (call : Call) (told_of : List Told) → RequestFits (request.Call call) → IsWaiting call told_of → AllToldFit told_of
waiting_fits call told_of fits h = subst AllToldFit (sym h.is) (call_act_fits call h.receipt.record_is.act h.act_is fits, parts_fit h.parts h.go_on)

answers_fit : (call : Call) (told_of : List Told) → RequestFits (request.Call call) → AnswersCall call told_of → AllToldFit told_of
answers_fit call told_of fits (inl h) = subst AllToldFit (sym h.is) (tt, tt)
answers_fit call told_of fits (inr (inl h)) = subst AllToldFit (sym h.is) (call_act_fits call h.receipt.record_is.act h.act_is fits, tt)
answers_fit call told_of fits (inr (inr h)) =
    subst AllToldFit (sym h.is) (all_joined ToldFits h.waiting (told.Recorded h.receipt ∷ []) (waiting_fits call h.waiting fits h.waits)
    (resume_fits h.receipt.record_is.act h.act_is, tt))

group_fits : (g : Group) → RequestFits g.request_is → IsCallGroup g → AllToldFit g.told_of
group_fits g fits h = answers_fit h.0 g.told_of (subst RequestFits h.1 fits) h.2

groups_fit : (groups : List Group) → RequestsFit (requests_of groups) → AreCalls groups → AllToldFit (told_of_all groups)
groups_fit [] fits h = tt
groups_fit (g ∷ groups) fits h = all_joined ToldFits g.told_of (told_of_all groups) (group_fits g fits.0 h.0) (groups_fit groups fits.1 h.1)

-- ---- a conversation

opening_fits : (opening : Request) (receipt : Receipted) → IsRecordOf opening receipt → ActFits receipt.record_is.act
opening_fits request.Join receipt h = subst ActFits (sym h) tt
opening_fits (request.Attach process) receipt h = subst ActFits (sym h.0) tt
opening_fits (request.Call call) receipt h = absurd h

opened_fits : (opening : Request) (told_of : List Told) → IsOpened opening told_of → AllToldFit told_of
opened_fits opening told_of h = subst AllToldFit (sym h.is) (opening_fits opening h.receipt h.record_of, tt)

talked_fits : (handled : List Request) (answers : List Told) → RequestsFit handled → Talked handled answers → AllToldFit answers
talked_fits handled answers fits h =
    let requests : RequestsFit (h.opening ∷ requests_of h.calls) = subst RequestsFit h.requests_are fits in
    subst AllToldFit (sym h.answers_are) (all_joined ToldFits h.opened (told_of_all h.calls) (opened_fits h.opening h.opened h.opens)
    (groups_fit h.calls requests.1 h.are_calls))

waits_fits : (handled : List Request) (answers : List Told) (call : Call) → RequestsFit handled → RequestFits (request.Call call) → Waits handled answers call →
    AllToldFit answers
waits_fits handled answers call fits fits_call h =
    subst AllToldFit (sym h.answers_are) (all_joined ToldFits h.told_before h.told_of (talked_fits handled h.told_before fits h.talked)
    (waiting_fits call h.told_of fits_call h.waits))

last_fits : (given_up : Option Refusal) → AllToldFit (told_last given_up)
last_fits None = tt
last_fits (Some refusal) = (tt, tt)

cut_fits : (handled : List Request) (answers : List Told) (given_up : Option Refusal) → RequestsFit handled → IsCut handled answers given_up →
    AllToldFit answers
cut_fits handled answers given_up fits h =
    let requests : RequestsFit (h.before ++ request.Call h.call ∷ []) = subst RequestsFit h.requests_are fits in
    let before = all_first RequestFits h.before (request.Call h.call ∷ []) requests in
    let call = all_last RequestFits h.before (request.Call h.call ∷ []) requests in
    subst AllToldFit (sym h.answers_are) (all_joined ToldFits h.told_so_far (told_last given_up)
    (waits_fits h.before h.told_so_far h.call before call.0 h.waits) (last_fits given_up))

conversation_fits : (handled : List Request) (answers : List Told) → RequestsFit handled → IsConversation handled answers → AllToldFit answers
conversation_fits handled answers fits (inl (inl h)) = subst AllToldFit (sym h.1) tt
conversation_fits handled answers fits (inl (inr h)) = talked_fits handled answers fits h
conversation_fits handled answers fits (inr (inl h)) = cut_fits handled answers h.0 fits h.1
conversation_fits handled answers fits (inr (inr h)) = subst AllToldFit (sym h.1.answers_are) (tt, tt)

first_fit : (input : List ℕ) (answers : List Told) → AnswersFirst (Begins input) answers → AllToldFit answers
first_fit input answers h =
    let requests = subst RequestsFit h.converses.requests_are (frames_fit 65792 h.requests h.given.text h.given.frames) in
    conversation_fits h.converses.handled answers (all_first RequestFits h.converses.handled h.converses.later requests) h.converses.is

-- ---- a seat

-- an act of a receipt has its fields in range
abbrev ReceiptFits : Receipted → Type 0
ReceiptFits receipt = ActFits receipt.record_is.act

exited_fits : (seat : SeatState) (answers : List Told) → ActsFit (receipts_of answers) → HasExited seat answers → ActsFit seat.receipts
exited_fits seat answers fits h = subst ActsFit (sym h.receipts) (all_joined ReceiptFits (receipts_of answers) (h.exit ∷ []) fits
    (exit_fits h.exit.record_is.act h.act_is, tt))

untold_fits : (input : List ℕ) (receipts : List Receipted) (answers : List Told) → ActsFit (receipts_of answers) → HasUntold (Begins input) receipts answers →
    ActsFit receipts
untold_fits input receipts answers fits h =
    let untold = all_last ToldFits answers (told.Recorded h.untold ∷ []) (first_fit input (answers ++ told.Recorded h.untold ∷ []) h.talks) in
    subst ActsFit (sym h.receipts_are) (all_joined ReceiptFits (receipts_of answers) (h.untold ∷ []) fits (untold.0, tt))

exited_untold_fits : (input : List ℕ) (seat : SeatState) (answers : List Told) → ActsFit (receipts_of answers) → HasExitedUntold (Begins input) seat answers →
    ActsFit seat.receipts
exited_untold_fits input seat answers fits h =
    subst ActsFit (sym h.receipts) (all_joined ReceiptFits h.before (h.exit ∷ []) (untold_fits input h.before answers fits h.has_untold)
    (exit_fits h.exit.record_is.act h.act_is, tt))

refused_fits : (seat : SeatState) (answers : List Told) → ActsFit (receipts_of answers) → IsRefusedOpening seat answers → ActsFit seat.receipts
refused_fits seat answers fits h = subst ActsFit (ap receipts_of h.answers_are ∙ sym h.receipts) fits

seat_fits : (input : List ℕ) (seat : SeatState) (answers : List Told) (found : End) → ActsFit (receipts_of answers) →
    IsSeatOf (Begins input) seat answers found → ActsFit seat.receipts
seat_fits input seat answers end.Closed fits (inl h) = exited_fits seat answers fits h
seat_fits input seat answers end.Closed fits (inr h) = refused_fits seat answers fits h
seat_fits input seat answers end.ReadFault fits h = exited_fits seat answers fits h
seat_fits input seat answers (end.WriteFault sent) fits (inl h) = exited_fits seat answers fits h
seat_fits input seat answers (end.WriteFault sent) fits (inr h) = refused_fits seat answers fits h
seat_fits input seat answers end.Malformed fits h = exited_fits seat answers fits h
seat_fits input seat answers end.Ahead fits h = exited_fits seat answers fits h
seat_fits input seat answers end.RunFull fits h = exited_fits seat answers fits h
seat_fits input seat answers end.NoMemory fits (inl h) = exited_fits seat answers fits h
seat_fits input seat answers end.NoMemory fits (inr (inl h)) = exited_untold_fits input seat answers fits h
seat_fits input seat answers end.NoMemory fits (inr (inr h)) = untold_fits input seat.receipts answers fits h.has_untold
seat_fits input seat answers end.Foreign fits (granted, inl h) = subst ActsFit (sym h) fits
seat_fits input seat answers end.Foreign fits (granted, inr h) = untold_fits input seat.receipts answers fits h
seat_fits input seat answers end.NoThread fits h = absurd h

seated_fits : (input : List ℕ) (seat : Option SeatState) (answers : List Told) (found : End) → ActsFit (receipts_of answers) →
    IsSeated (Begins input) seat answers found → SeatFits seat
seated_fits input None answers found fits h = tt
seated_fits input (Some seat) answers found fits h = seat_fits input seat answers found fits h

pub acts_of_seats_fit : ActsOfSeatsFit
acts_of_seats_fit always from base s h =
    let talks = h.comes.talks in
    seated_fits h.input s.seat s.answers s.end_is (receipts_fit s.answers (first_fit h.input s.answers talks)) h.comes.seated
